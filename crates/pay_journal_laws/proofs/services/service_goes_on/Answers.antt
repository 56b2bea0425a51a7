use Rattle.pay_serve.specs.KeepingGates.{HoldsPassed}
use Rattle.pay_journal_laws.proofs.NextServices.{service_goes_on}
use Rattle.pay_journal_laws.proofs.services.service_goes_on.Goals as goal

pub returns : goal.returns
returns g c = let K = g.K.Keeper in service_goes_on c.kept_gives_back.ensures c.merge.ensures.states (HoldsPassed K.holds K.HasFailed K.IsSettled)
