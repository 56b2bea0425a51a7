use Rattle.pay_serve.specs.KeepingGates.{HoldsPassed}
use Rattle.pay_journal_laws.proofs.GivenBack.{service_gives_back, service_parts_are_taken}
use Rattle.pay_journal_laws.proofs.services.service_gives_back.Goals as goal

pub returns : goal.returns
returns g c =
    let K = g.K.Keeper in
    let holds = HoldsPassed K.holds K.HasFailed K.IsSettled in
    record { whole = service_gives_back c.kept_gives_back.ensures holds; part = service_parts_are_taken c.kept_gives_back.ensures c.parts_are_taken.ensures c.part_asks_alike.ensures holds }
