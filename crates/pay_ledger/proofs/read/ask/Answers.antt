use Rattle.sqlite.specs.Held.{state}
use Rattle.pay_ledger.proofs.Along.{never_ok, on_err}
use Rattle.pay_ledger.proofs.Asked.{not_run_stays, unchanged_goes_on}
use Rattle.pay_ledger.proofs.read.ask.Goals as goal

pub returns-in_err-prepare-clause-step : goal.returns-in_err-prepare-clause-step
returns-in_err-prepare-clause-step g c = record {
  same_reference = c.prepare.ensures.same_reference;
  goes_on = never_ok _ _ c.from_residual.result c.from_residual.ensures.1;
  stays = on_err _ c.from_residual.result (not_run_stays (state g.S.Store c.args.tx.now.conn.now) (state g.S.Store c.prepare.new.self.conn.now) _ _ c.in_err-prepare.ensures.err c.prepare.ensures.survives);
}

pub returns-clause-same : goal.returns-clause-same
returns-clause-same g c clean = (c.in_ok-prepare.ensures.ok clean).1

pub returns-clause-step : goal.returns-clause-step
returns-clause-step g c = record {
  same_reference = c.prepare.ensures.same_reference;
  goes_on = unchanged_goes_on (state g.S.Store c.args.tx.now.conn.now) (state g.S.Store c.prepare.new.self.conn.now) (λ clean. (c.in_ok-prepare.ensures.ok clean).1) c.prepare.ensures.survives;
  stays = tt;
}
