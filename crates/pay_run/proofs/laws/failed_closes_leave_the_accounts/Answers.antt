use Rattle.pay_run.proofs.Asked.{accounts_alike}
use Rattle.pay_run.proofs.laws.failed_closes_leave_the_accounts.Goals as goal

pub returns : goal.returns
returns c m list marks ample = accounts_alike marks m list ample
