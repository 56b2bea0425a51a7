use Rattle.std.proofs.Common.{ap, ◌∙◌}
use Rattle.pay_rules.specs.Accepted.{touches}
use Rattle.pay_rules.specs.Journeys.{journeys_of}
use Rattle.pay_account.proofs.account.AccountFares.lines.Goals as goal

pub lines_by-requires-clause-all : goal.lines_by-requires-clause-all
lines_by-requires-clause-all c =
    c.in_ok-journeys.ensures.value ∙ ap (journeys_of c.args.editions.now) (c.deref.ensures.value ∙ c.in_ok-touches.ensures.value ∙ ap (λ a. touches a.1) c.self.view_is)
