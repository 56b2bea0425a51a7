use Rattle.std.proofs.Common.{List, ℕ, [], ◌++◌, ap, ◌∙◌}
use Rattle.std.specs.List.{flat_map, zip}
use Rattle.std.specs.String.{string_bytes}
use Rattle.pay_why.specs.declared.cap.CapReason.{CapReason}
use Rattle.pay_why.specs.Words.{cap_reason, sums_of_week}
use Rattle.pay_explain.specs.Week.{day_line_of, reason_lines}
use Rattle.pay_explain.proofs.Weeks.{then}
use Rattle.pay_explain.proofs.week_days.text_of_sums.Goals as goal

pub returns : goal.returns
returns c =
    let editions = c.args.editions.now in
    let fixes = c.args.fixes.now in
    let days = zip c.args.days.now c.args.sums.now in
    let lines : List ℕ = flat_map (day_line_of editions) days in
    then [] (string_bytes c.push_days.new.text) (string_bytes c.push_reason.new.text) lines (reason_lines c.week_reason-reason.result fixes c.args.through) c.in_ok-push_reason.ensures
    (c.in_ok-push_days.ensures ∙ ap (λ (start : List ℕ). start ++ lines) c.new-text.ensures.bytes)
    ∙ ap (λ (reason : CapReason). lines ++ reason_lines reason fixes c.args.through) (c.week_reason-reason.ensures ∙ ap (λ (from : ℕ). cap_reason (sums_of_week editions from days)) c.monday.ensures.value)
