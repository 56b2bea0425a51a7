use Rattle.pay_settle.proofs.Together.{accounts_are_all, operators_are_all, weeks_are_all}
use Rattle.pay_settle.proofs.laws.all_together.Goals as goal

pub returns-clause-operators : goal.returns-clause-operators
returns-clause-operators c = operators_are_all

pub returns-clause-weeks : goal.returns-clause-weeks
returns-clause-weeks c = weeks_are_all

pub returns-clause-accounts : goal.returns-clause-accounts
returns-clause-accounts c = accounts_are_all
