use Rattle.std.proofs.Common.{List, ap, ◌∙◌}
use Rattle.std.proofs.lemmas.Result.{IfOk-weaker}
use Rattle.pay_rules.specs.declared.tap.Touch.{Touch}
use Rattle.pay_rules.specs.declared.journey.Journey.{Journey}
use Rattle.pay_rules.specs.Journeys.{rail_journeys}
use Rattle.pay_explain.specs.Explained.{text_of_journeys}
use Rattle.pay_explain.proofs.explained.text_of_touches.Goals as goal

pub returns : goal.returns
returns c =
    let names = c.args.names.now in
    let editions = c.args.editions.now in
    let touches = c.args.touches.now in
    IfOk-weaker c.text_of_journeys.result _ _
    (λ text e. e
    ∙ ap (λ (journeys : List Journey). text_of_journeys names editions journeys c.deref-2.result.now c.args.day) (c.deref.ensures.value ∙ c.in_ok-journeys.ensures.value)
    ∙ ap (λ (boardings : List Touch). text_of_journeys names editions (rail_journeys editions touches) boardings c.args.day) (c.deref-2.ensures.value ∙ c.in_ok-boardings.ensures))
    c.text_of_journeys.ensures
