use Rattle.std.proofs.Common.{length}
use Rattle.pay_account_lines.proofs.AddedLines.{IsUnderway}
use Rattle.pay_account_lines.proofs.account_lines.mark_lines.Given as goal

abbrev pub invariant-loop-line : goal.invariant-loop-line
invariant-loop-line l = IsUnderway l.fn.marks.items l.marks.items l.text l.left l.number

abbrev pub decreases-loop-line : goal.decreases-loop-line
decreases-loop-line l = length l.left
