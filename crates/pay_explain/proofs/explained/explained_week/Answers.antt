use Rattle.std.proofs.Common.{List, ap, ◌∙◌}
use Rattle.std.proofs.lemmas.Result.{IfOk-weaker}
use Rattle.pay_rules.specs.declared.tap.Touch.{Touch}
use Rattle.pay_explain.specs.Explained.{week_of_touches}
use Rattle.pay_explain.proofs.explained.explained_week.Goals as goal

pub returns : goal.returns
returns c =
    IfOk-weaker c.week_of_touches.result _ _
    (λ text e. e ∙ ap (λ (touches : List Touch). week_of_touches c.args.editions.now touches c.args.fixes.now c.args.through) (c.deref.ensures.value ∙ c.in_ok-touches.ensures.value))
    c.week_of_touches.ensures
