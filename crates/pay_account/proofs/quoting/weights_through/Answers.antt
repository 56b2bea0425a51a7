use Rattle.std.proofs.Common.{◌≡◌, ℕ, ◌≤◌, List, map, filter, ap, sym, ◌∙◌, subst}
use Rattle.pay_money.specs.declared.limits.TheConstants.{MOST_MONEY}
use Rattle.pay_rules.specs.declared.journey.Journey.{Journey}
use Rattle.pay_rules.specs.RailJourneys.{first_tap}
use Rattle.pay_rules.specs.OperatorWeights.{sum_of_fares}
use Rattle.pay_rules.specs.Prices.{is_within}
use Rattle.pay_rules.specs.Quotes.{with_fare}
use Rattle.pay_account.proofs.Carried.{fits}
use Rattle.pay_account.proofs.quoting.weights_through.Goals as goal

pub weights-requires : goal.weights-requires
weights-requires c =
    let editions = c.args.editions.now in
    let list : c.deref.result.now ≡ map (with_fare editions) (filter (is_within c.monday.result c.args.through) c.args.journeys.items) =
    c.deref.ensures.value ∙ c.in_ok-list.ensures in
    subst (λ (l : List (Journey × ℕ)). sum_of_fares l ≤ MOST_MONEY) (sym list) (fits editions (λ (journey : Journey). c.fares_within.ensures (first_tap journey).stamp.day journey) (is_within c.monday.result c.args.through) c.args.journeys.items c.requires.few)

pub returns-clause-in_range : goal.returns-clause-in_range
returns-clause-in_range c =
    let editions = c.args.editions.now in
    let list : c.deref.result.now ≡ map (with_fare editions) (filter (is_within c.monday.result c.args.through) c.args.journeys.items) =
    c.deref.ensures.value ∙ c.in_ok-list.ensures in
    subst (λ (n : ℕ). n ≤ MOST_MONEY) (sym (c.weights.ensures.together ∙ ap sum_of_fares list))
    (fits editions (λ (journey : Journey). c.fares_within.ensures (first_tap journey).stamp.day journey) (is_within c.monday.result c.args.through) c.args.journeys.items c.requires.few)
