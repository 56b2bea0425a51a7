use Rattle.std.proofs.Common.{arith}
use Rattle.pay_shard.proofs.Blocks.{no_more}
use Rattle.pay_shard.proofs.journal.Journal.room.Goals as goal

pub overflow_sub-result : goal.overflow_sub-result
overflow_sub-result c = let most = no_more c.self.inside.len c.self.inside.blocks.items c.self.invariant.1 in omega arith
