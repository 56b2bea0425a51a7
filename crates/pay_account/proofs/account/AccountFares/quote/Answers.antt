use Rattle.std.proofs.Common.{ap, ◌∙◌}
use Rattle.pay_rules.specs.Accepted.{touches}
use Rattle.pay_rules.specs.Journeys.{journeys_of}
use Rattle.pay_rules.specs.Prices.{price_of_week}
use Rattle.pay_account.proofs.account.AccountFares.quote.Goals as goal

pub quote_by-requires-clause-all : goal.quote_by-requires-clause-all
quote_by-requires-clause-all c =
    c.in_ok-journeys.ensures.value ∙ ap (journeys_of c.args.editions.now) (c.deref.ensures.value ∙ c.in_ok-touches.ensures.value ∙ ap (λ a. touches a.1) c.self.view_is)

pub quote_by-requires-clause-priced : goal.quote_by-requires-clause-priced
quote_by-requires-clause-priced c = c.price_through-price.ensures.value ∙ ap (λ list. price_of_week c.args.editions.now list c.args.through) c.deref-2.ensures.value
