use Rattle.std.proofs.Common.{rules}
use Rattle.std.proofs.lemmas.Result.{IfOk-weaker}
use Rattle.sqlite.specs.Held.{state}
use Rattle.pay_records.proofs.Says.{never_told_bad, fixed_accounts_told, fixed_accounts_whole}
use Rattle.pay_records.proofs.read.fixed_accounts.Goals as goal

pub returns-clause-found : goal.returns-clause-found
returns-clause-found g c clean =
    IfOk-weaker c.all.result _ _ (λ list told. fixed_accounts_told (state g.S.Store c.args.tx.now.conn.now) (state g.S.Store c.query.new.tx.conn.now) _ _ _ list.items
    (record { shown = c.in_ok-rows.ensures.shown clean; params_are = search rules; rows_are = c.deref.ensures.value }) told) c.all.ensures.told

pub returns-clause-never_bad : goal.returns-clause-never_bad
returns-clause-never_bad g c clean bad l held =
    never_told_bad c.all.result _ c.all.ensures.bad bad (fixed_accounts_whole (state g.S.Store c.args.tx.now.conn.now) (state g.S.Store c.query.new.tx.conn.now) _ _ _
    (record { shown = c.in_ok-rows.ensures.shown clean; params_are = search rules; rows_are = c.deref.ensures.value }) l held)
