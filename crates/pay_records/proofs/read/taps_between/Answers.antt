use Rattle.std.proofs.Common.{rules}
use Rattle.std.proofs.lemmas.Result.{IfOk-weaker}
use Rattle.sqlite.specs.Held.{state}
use Rattle.pay_records.proofs.Says.{never_told_bad, taps_told, taps_whole}
use Rattle.pay_records.proofs.read.taps_between.Goals as goal

pub returns-clause-found : goal.returns-clause-found
returns-clause-found g c clean =
    IfOk-weaker c.all_beside.result _ _ (λ list told. taps_told (state g.S.Store c.args.tx.now.conn.now) (state g.S.Store c.query.new.tx.conn.now) _ _ _ c.args.from c.args.through list.items
    (record { shown = c.in_ok-rows.ensures.shown clean; params_are = search rules; rows_are = c.deref.ensures.value }) told) c.all_beside.ensures.told

pub returns-clause-never_bad : goal.returns-clause-never_bad
returns-clause-never_bad g c clean bad l held =
    never_told_bad c.all_beside.result _ c.all_beside.ensures.bad bad (taps_whole (state g.S.Store c.args.tx.now.conn.now) (state g.S.Store c.query.new.tx.conn.now) _ _ _ c.args.from c.args.through
    (record { shown = c.in_ok-rows.ensures.shown clean; params_are = search rules; rows_are = c.deref.ensures.value }) l held)
