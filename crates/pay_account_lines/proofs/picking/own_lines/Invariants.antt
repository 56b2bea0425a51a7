use Rattle.std.proofs.Common.{length}
use Rattle.pay_account_lines.proofs.PickedLines.{ArePicked}
use Rattle.pay_account_lines.proofs.picking.own_lines.Given as goal

abbrev pub invariant-loop-line : goal.invariant-loop-line
invariant-loop-line l = ArePicked l.account l.text l.left l.own.items l.number

abbrev pub decreases-loop-line : goal.decreases-loop-line
decreases-loop-line l = length l.left
