use Rattle.sqlite.specs.Held.{state}
use Rattle.pay_postings.specs.Words.{parts}
use Rattle.pay_ledger.proofs.Along.{gone, stopped}
use Rattle.pay_ledger.proofs.Gathered.{read_one, there}
use Rattle.pay_ledger.proofs.read.read_into.Goals as goal

pub returns-in_err-archived-clause-step : goal.returns-in_err-archived-clause-step
returns-in_err-archived-clause-step g c = stopped g.S.Store c.from_residual.result _ c.from_residual.ensures.1 c.in_err-archived.ensures.step

pub returns-in_err-add-clause-step : goal.returns-in_err-add-clause-step
returns-in_err-add-clause-step g c = gone g.S.Store c.from_residual-in_err-add.result c.in_ok-archived.ensures.step

pub returns-clause-step : goal.returns-clause-step
returns-clause-step g c = gone g.S.Store _ c.in_ok-archived.ensures.step

pub returns-clause-read : goal.returns-clause-read
returns-clause-read g c =
    read_one c.args.accounts.now c.add.new.self c.args.account (parts c.in_ok-archived.archived) c.in_ok-add.ensures.ok (state g.S.Store c.args.tx.now.conn.now) (state g.S.Store c.read_account.new.tx.conn.now) c.in_ok-archived.ensures.found

pub returns-clause-there : goal.returns-clause-there
returns-clause-there g c = there c.args.accounts.now c.add.new.self c.args.account (parts c.in_ok-archived.archived) c.in_ok-add.ensures.ok
