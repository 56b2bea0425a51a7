use Rattle.std.proofs.Common.{◌≡◌, ◌≤◌, false, length, take}
use Rattle.std.specs.Io.KnownBytes.{Appends}
use Rattle.pay_wire.specs.Calls.{AreWrites}
use Rattle.pay_wire.specs.Output.{has_failed}
use Rattle.pay_wire.proofs.sending.write_whole.Given as goal

-- the writer has taken the first bytes, by a write for each turn, and has not failed
abbrev pub invariant-loop : goal.invariant-loop
invariant-loop g l = record {
  within : l.taken ≤ length l.bytes;
  front : Appends (g.W.Write.contents l.fn.output.writer.now) (g.W.Write.contents l.output.writer.now) (take l.taken l.bytes);
  same_writer : l.output.writer.ghost_name ≡ l.fn.output.writer.ghost_name;
  not_failed : has_failed l.output.state ≡ false;
  writes : AreWrites g.W.KnownWriter.MayAnswer l.counter l.fn.output.writer.now l.output.writer.now;
}
