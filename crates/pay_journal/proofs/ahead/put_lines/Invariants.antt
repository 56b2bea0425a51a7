use Rattle.std.proofs.Common.{length}
use Rattle.pay_journal.specs.HandedOn.{ArePutFirst}
use Rattle.pay_journal.proofs.ahead.put_lines.Given as goal

-- the lines so far were put
abbrev pub invariant-loop-line : goal.invariant-loop-line
invariant-loop-line g l = ArePutFirst g.D.Desk.parts l.zone l.fn.desk l.desk l.text l.ahead l.tickets.items

abbrev pub decreases-loop-line : goal.decreases-loop-line
decreases-loop-line g l = length l.ahead
