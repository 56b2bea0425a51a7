use Rattle.std.proofs.Common.{length}
use Rattle.pay_session.specs.SessionSteps.{at}
use Rattle.pay_session.proofs.SessionSteps.{TakesFront}
use Rattle.pay_session.proofs.progress.Progress.take.Given as goal

-- the lines so far are answered
abbrev pub invariant-loop-text : goal.invariant-loop-text
invariant-loop-text g l = TakesFront g.A.Answers.Serves (at l.fn.self l.fn.answers (g.W.Write.contents l.fn.writer)) l.bytes (at l.self l.answers (g.W.Write.contents l.writer)) l.ahead

abbrev pub decreases-loop-text : goal.decreases-loop-text
decreases-loop-text g l = length l.ahead
