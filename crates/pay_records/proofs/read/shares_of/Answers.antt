use Rattle.std.proofs.Common.{rules}
use Rattle.std.proofs.lemmas.Result.{IfOk-weaker}
use Rattle.sqlite.specs.Held.{state}
use Rattle.pay_records.proofs.Alone.{shares_alone}
use Rattle.pay_records.proofs.read.shares_of.Goals as goal

pub returns-clause-found : goal.returns-clause-found
returns-clause-found g c clean =
    IfOk-weaker c.rows_of.result _ _ (λ list told. shares_alone (state g.S.Store c.args.tx.now.conn.now) (state g.S.Store c.shares_between.new.tx.conn.now) _ _ _ c.args.account (search rules) (search rules) (search rules) _ c.deref.result.now list.items c.deref.ensures.value told (c.in_ok-rows.ensures.found clean)) c.rows_of.ensures.found
