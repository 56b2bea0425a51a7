use Rattle.std.proofs.Common.{rules}
use Rattle.std.proofs.lemmas.Result.{IfOk-weaker}
use Rattle.sqlite.specs.Held.{state}
use Rattle.pay_ledger.proofs.Along.{stopped, gone}
use Rattle.pay_ledger.proofs.Stretching.{by_stretch}
use Rattle.pay_ledger.proofs.examining.examine_stretch.Goals as goal

pub returns-in_err-stretch-clause-step : goal.returns-in_err-stretch-clause-step
returns-in_err-stretch-clause-step g c = stopped g.S.Store c.from_residual.result _ c.from_residual.ensures.1 c.in_err-stretch.ensures.step

pub returns-clause-step : goal.returns-clause-step
returns-clause-step g c = gone g.S.Store c.examine_each.result c.in_ok-stretch.ensures.step

pub returns-clause-found : goal.returns-clause-found
returns-clause-found g c clean =
    IfOk-weaker c.examine_each.result _ _ (λ found told. by_stretch (state g.S.Store c.args.tx.now.conn.now) (state g.S.Store c.read_stretch.new.tx.conn.now) _ _ c.args.numbers.now _ (search rules) (c.in_ok-stretch.ensures.found clean) told) c.examine_each.ensures.found

pub returns-clause-finds : goal.returns-clause-finds
returns-clause-finds g c clean =
    IfOk-weaker c.examine_each.result _ _ (λ found told. by_stretch (state g.S.Store c.args.tx.now.conn.now) (state g.S.Store c.read_stretch.new.tx.conn.now) _ _ c.args.numbers.now _ (search rules) (c.in_ok-stretch.ensures.found clean) told) c.examine_each.ensures.finds

pub returns-clause-up_to : goal.returns-clause-up_to
returns-clause-up_to g c clean =
    IfOk-weaker c.examine_each.result _ _ (λ found told. by_stretch (state g.S.Store c.args.tx.now.conn.now) (state g.S.Store c.read_stretch.new.tx.conn.now) _ _ c.args.numbers.now _ (search rules) (c.in_ok-stretch.ensures.found clean) told) c.examine_each.ensures.up_to
