use Rattle.std.proofs.Common.{◌≡◌, false, take}
use Rattle.std.specs.Io.KnownBytes.{Appends}
use Rattle.pay_wire.specs.Replies.{text_of_postings}
use Rattle.pay_wire.specs.Output.{has_failed}
use Rattle.pay_wire.proofs.sending.write_postings.Given as goal

-- the writer has taken the lines of the first postings, and has not failed
abbrev pub invariant-loop-posting : goal.invariant-loop-posting
invariant-loop-posting g l = record {
  front : Appends (g.W.Write.contents l.fn.output.writer.now) (g.W.Write.contents l.output.writer.now) (text_of_postings (take l.posting-index l.postings));
  same_writer : l.output.writer.ghost_name ≡ l.fn.output.writer.ghost_name;
  not_failed : has_failed l.output.state ≡ false;
}
