use Rattle.std.proofs.Common.{ℕ, List, ◌++◌, ap, ◌∙◌}
use Rattle.pay_rules.specs.declared.tap.Touch.{Touch}
use Rattle.pay_explain.specs.Corrections.{corrections_text}
use Rattle.pay_explain.specs.Explained.{text_of_touches}
use Rattle.pay_explain.proofs.explained.explained_day.Goals as goal

pub returns : goal.returns
returns c =
    let list = c.deref.ensures.value ∙ c.in_ok-touches.ensures.value in
    c.in_ok-push_corrections.ensures
    ∙ ap (λ (bytes : List ℕ). bytes ++ corrections_text c.args.names.now c.args.taps.now c.args.fixes.now c.args.day)
    (c.in_ok-text.ensures ∙ ap (λ (touches : List Touch). text_of_touches c.args.names.now c.args.editions.now touches c.args.day) list)
