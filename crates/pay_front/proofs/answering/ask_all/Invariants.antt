use Rattle.std.proofs.Common.{◌≡◌, length, map}
use Rattle.std.specs.Prelude.{vec_items}
use Rattle.pay_front.specs.Answers.{AreAsked}
use Rattle.pay_front.proofs.answering.ask_all.Given as goal

-- the partitions so far were asked
abbrev pub invariant-loop-partition : goal.invariant-loop-partition
invariant-loop-partition g l = record { asked : AreAsked g.P.Partitions.MayGive 0 l.line l.fn.partitions (map vec_items l.replies.items) l.partitions; count : length l.replies.items ≡ l.partition }
