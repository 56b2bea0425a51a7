use Rattle.std.proofs.Common.{length, ap, sym, ◌∙◌, arith}
use Rattle.pay_shard.specs.JournalParts.{JournalParts, all_past}
use Rattle.pay_shard.proofs.Blocks.{many_past, no_more}
use Rattle.pay_shard.proofs.journal.Journal.len.Goals as goal

pub overflow_add-result : goal.overflow_add-result
overflow_add-result c =
    let most = no_more c.self.inside.len c.self.inside.blocks.items c.self.invariant.1 in
    let few = c.self.invariant.1.few in
    omega arith

pub returns : goal.returns
returns c = sym (many_past (all_past c.self.inside.past) c.self.inside.len c.self.inside.blocks.items c.self.invariant.0 c.self.invariant.1) ∙ ap (λ (j : JournalParts). length j.items) c.self.view_is
