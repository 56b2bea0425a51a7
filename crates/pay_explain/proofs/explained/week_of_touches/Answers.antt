use Rattle.std.proofs.Common.{List, ◌++◌, ap, ◌∙◌}
use Rattle.std.proofs.lemmas.Result.{IfOk-weaker}
use Rattle.pay_rules.specs.declared.tap.Touch.{Touch}
use Rattle.pay_rules.specs.declared.journey.Journey.{Journey}
use Rattle.pay_rules.specs.Journeys.{rail_journeys}
use Rattle.pay_why.specs.Words.{bus_journeys}
use Rattle.pay_explain.specs.Week.{week_text}
use Rattle.pay_explain.proofs.explained.week_of_touches.Goals as goal

pub returns : goal.returns
returns c =
    let editions = c.args.editions.now in
    let fixes = c.args.fixes.now in
    IfOk-weaker c.week_text.result _ _
    (λ text e. e
    ∙ ap (λ (journeys : List Journey). week_text editions (journeys ++ bus_journeys editions c.deref-2.result.now) fixes c.args.through) (c.deref.ensures.value ∙ c.in_ok-journeys.ensures.value)
    ∙ ap (λ (boardings : List Touch). week_text editions (rail_journeys editions c.args.touches.now ++ bus_journeys editions boardings) fixes c.args.through) (c.deref-2.ensures.value ∙ c.in_ok-boardings.ensures))
    c.week_text.ensures
