use Rattle.std.proofs.Common.{ℕ, List, sum, ap, sym, ◌∙◌}
use Rattle.pay_rules.specs.declared.journey.Journey.{Journey}
use Rattle.pay_rules.specs.OperatorWeights.{weights}
use Rattle.pay_rules.specs.StandingCredits.{credits}
use Rattle.pay_day.specs.Words.{monday}
use Rattle.pay_tables.specs.Words.{FareTables, on}
use Rattle.pay_rules.specs.Accepted.{touches}
use Rattle.pay_rules.specs.Journeys.{journeys_of}
use Rattle.pay_rules.specs.Quotes.{due_through, weights_through}
use Rattle.pay_account.proofs.Carried.{due_is_covered}
use Rattle.pay_account.proofs.laws.quotes.Goals as goal

pub returns-clause-covered : goal.returns-clause-covered
returns-clause-covered c account accepted through =
    let editions = c.args.editions.now in
    due_is_covered editions (λ day. c.bounds.ensures.by_fares (on editions day)) (c.bounds-2.ensures.by_days editions)
    (λ (beside : List (Journey × ℕ)). ap (λ (tables : FareTables). sum (weights tables beside)) (sym c.own.ensures) ∙ c.nothing_is_lost.ensures beside) (journeys_of editions (touches accepted)) through
    (credits accepted.fixes (monday through) through)

pub returns-clause-together : goal.returns-clause-together
returns-clause-together c account accepted through =
    let editions = c.args.editions.now in
    c.nothing_is_lost-2.ensures.shares (due_through editions accepted through) (weights_through editions (journeys_of editions (touches accepted)) through)
    (returns-clause-covered c account accepted through)

pub returns-clause-nothing_for_nothing : goal.returns-clause-nothing_for_nothing
returns-clause-nothing_for_nothing c account accepted through operator none =
    let editions = c.args.editions.now in
    let due = due_through editions accepted through in
    let carried = weights_through editions (journeys_of editions (touches accepted)) through in
    c.each_in_its_place.ensures.shares due carried operator ∙ c.nothing_for_nothing.ensures due carried operator none
