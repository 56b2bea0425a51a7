use Rattle.std.proofs.Common.{ap, ◌∙◌, ◌++◌, arith}
use Rattle.pay_shard.specs.JournalParts.{JournalParts, all_past}
use Rattle.pay_shard.proofs.Blocks.{no_more, blocks_still, items_still, one_longer}
use Rattle.pay_shard.proofs.journal.Journal.add_block.Goals as goal

pub invariant_of-self-2 : goal.invariant_of-self-2
invariant_of-self-2 c = (
  c.self.invariant.0,
  blocks_still c.self.inside.len c.self.inside.blocks.items c.push.new.self.items c.in_ok-block.block c.self.invariant.1 (omega arith) c.in_ok-block.ensures c.in_ok-push.ensures.items,
)

pub returns-clause-items : goal.returns-clause-items
returns-clause-items c =
    ap (λ l. all_past c.self.inside.past ++ l) (items_still c.self.inside.blocks.items c.push.new.self.items c.in_ok-block.block c.in_ok-block.ensures c.in_ok-push.ensures.items)
    ∙ ap (λ (j : JournalParts). j.items) c.self.view_is

pub returns-clause-ok : goal.returns-clause-ok
returns-clause-ok c =
    let most = no_more c.self.inside.len c.self.inside.blocks.items c.self.invariant.1 in
    let longer = one_longer c.self.inside.blocks.items c.push.new.self.items c.in_ok-block.block c.in_ok-push.ensures.items in
    let room = ap (λ (j : JournalParts). j.memory.room) c.self.view_is in
    omega arith
