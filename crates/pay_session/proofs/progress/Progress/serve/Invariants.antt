use Rattle.std.proofs.Common.{◌≡◌, ◌≤◌, ◌*◌, ◌^◌, false, IfSome}
use Rattle.pay_session.specs.Calls.{AreFills}
use Rattle.pay_session.specs.Requests.{has_newline}
use Rattle.pay_session.specs.SessionSteps.{at, Ran}
use Rattle.pay_session.proofs.WholeSession.{Underway}
use Rattle.pay_session.proofs.progress.Progress.serve.Given as goal

-- the lines so far are answered, fewer than there were bytes, by a fill for each turn
abbrev pub invariant-loop : goal.invariant-loop
invariant-loop g l = record {
  unended : has_newline l.self.line ≡ false;
  few : l.self.answered ≤ l.counter * 2 ^ 64;
  ran : Ran g.A.Answers.Serves l.fn.answers l.answers;
  fills : AreFills g.R.KnownReader.MayAnswer l.counter l.fn.reader l.reader;
  underway : IfSome (g.R.Read.remaining l.fn.reader) (λ input. Underway g.A.Answers.Serves l.fn.answers (g.W.Write.contents l.fn.writer) input (g.R.Read.remaining l.reader) (at l.self l.answers (g.W.Write.contents l.writer)));
}
