use Rattle.std.proofs.Common.{List, ◌++◌, ap, ◌∙◌}
use Rattle.std.specs.List.{flat_map}
use Rattle.std.specs.String.{string_bytes}
use Rattle.pay_rules.specs.declared.fix.Fix.{Fix}
use Rattle.pay_why.specs.declared.due.DueReason.{DueReason}
use Rattle.pay_why.specs.Words.{counted_credits}
use Rattle.pay_explain.specs.Week.{credit_text, due_text}
use Rattle.pay_explain.proofs.Weeks.{then}
use Rattle.pay_explain.proofs.week_days.push_due.Goals as goal

pub returns : goal.returns
returns c =
    let text = string_bytes c.args.text.now in
    then text (string_bytes c.push_credits.new.text) (string_bytes c.write.new.self) (flat_map credit_text c.deref.result.now) (due_text c.due_reason.result) c.in_ok-write.ensures.bytes c.in_ok-push_credits.ensures
    ∙ ap (λ (credits : List Fix). text ++ (flat_map credit_text credits ++ due_text c.due_reason.result)) (c.deref.ensures.value ∙ c.in_ok-credits.ensures)
    ∙ ap (λ (reason : DueReason). text ++ (flat_map credit_text (counted_credits c.args.fixes.now c.args.through) ++ due_text reason)) c.due_reason.ensures
