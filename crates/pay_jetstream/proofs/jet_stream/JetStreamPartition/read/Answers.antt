use Rattle.std.proofs.Common.{rules}
use Rattle.pay_jetstream.proofs.Asking.{answers_then}
use Rattle.pay_jetstream.proofs.jet_stream.JetStreamPartition.read.Goals as goal

pub returns-then-branch-clause-written : goal.returns-then-branch-clause-written
returns-then-branch-clause-written g c = answers_then _ _ _ c.loop.invariant.written c.in_ok-take_frame.ensures.written

pub loop-preserved : goal.loop-preserved
loop-preserved g c = record { same = search rules; none = search rules; written = answers_then _ _ _ c.loop.invariant.written c.in_ok-take_frame.ensures.written }
