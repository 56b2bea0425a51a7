use Rattle.std.proofs.Common.{length}
use Rattle.pay_journal.specs.Replays.{IsUnderway}
use Rattle.pay_journal.proofs.replaying.replay.Given as goal

-- the lines so far were accepted, fewer than there were bytes
abbrev pub invariant-loop-line : goal.invariant-loop-line
invariant-loop-line g l = IsUnderway l.zone g.D.Desk.parts l.fn.desk l.desk l.text l.ahead l.lines

abbrev pub decreases-loop-line : goal.decreases-loop-line
decreases-loop-line g l = length l.ahead
