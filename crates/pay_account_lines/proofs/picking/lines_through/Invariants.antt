use Rattle.std.proofs.Common.{length}
use Rattle.pay_account_lines.proofs.PickedLines.{AreCounted}
use Rattle.pay_account_lines.proofs.picking.lines_through.Given as goal

abbrev pub invariant-loop-line : goal.invariant-loop-line
invariant-loop-line l = AreCounted l.account l.own l.text l.left l.more l.lines

abbrev pub decreases-loop-line : goal.decreases-loop-line
decreases-loop-line l = length l.left
