use Rattle.std.specs.String.{string_bytes}
use Rattle.pay_explain.specs.Week.{due_lines, week_sums_text}
use Rattle.pay_explain.proofs.Weeks.{then}
use Rattle.pay_explain.proofs.week_days.push_reason.Goals as goal

pub returns : goal.returns
returns c =
    let reason = c.args.reason.now in
    then (string_bytes c.args.text.now) (string_bytes c.write.new.self) (string_bytes c.push_due.new.text) (week_sums_text reason) (due_lines c.args.fixes.now c.args.through reason.price) c.in_ok-push_due.ensures c.in_ok-write.ensures.bytes
