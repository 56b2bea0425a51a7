use Rattle.std.proofs.Common.{◌≡◌, false, take}
use Rattle.std.specs.Io.KnownBytes.{Appends}
use Rattle.pay_wire.specs.Replies.{text_of_journeys}
use Rattle.pay_wire.specs.Output.{has_failed}
use Rattle.pay_wire.proofs.sending.write_journeys.Given as goal

-- the writer has taken the lines of the first journeys, and has not failed
abbrev pub invariant-loop-journey : goal.invariant-loop-journey
invariant-loop-journey g l = record {
  front : Appends (g.W.Write.contents l.fn.output.writer.now) (g.W.Write.contents l.output.writer.now) (text_of_journeys (take l.journey-index l.journeys));
  same_writer : l.output.writer.ghost_name ≡ l.fn.output.writer.ghost_name;
  not_failed : has_failed l.output.state ≡ false;
}
