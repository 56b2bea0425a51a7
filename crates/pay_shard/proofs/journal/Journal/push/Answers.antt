use Rattle.std.proofs.Common.{ap, sym, ◌∙◌, ◌++◌, ◌∷◌, [], arith}
use Rattle.std.proofs.lemmas.List.{append_assoc}
use Rattle.pay_shard.specs.JournalParts.{JournalParts, all_in, all_past}
use Rattle.pay_shard.proofs.Blocks.{has_room, blocks_more, items_more}
use Rattle.pay_shard.proofs.journal.Journal.push.Goals as goal

pub add-requires : goal.add-requires
add-requires c =
    let room = ap (λ (j : JournalParts). j.memory.room) c.self.view_is in
    has_room c.args.item c.self.inside.len _ c.self.inside.blocks.items c.index_mut.result.now c.self.invariant.1 (omega arith) (omega arith) c.index_mut.ensures.value

pub invariant_of-self : goal.invariant_of-self
invariant_of-self c =
    let room = ap (λ (j : JournalParts). j.memory.room) c.self.view_is in (
      c.self.invariant.0,
      blocks_more c.args.item c.self.inside.len _ c.self.inside.blocks.items c.index_mut.result.now c.add.new.self c.self.invariant.1 (omega arith) (omega arith) (omega arith) c.index_mut.ensures.value c.add.ensures,
    )

pub returns-clause-items : goal.returns-clause-items
returns-clause-items c =
    let room = ap (λ (j : JournalParts). j.memory.room) c.self.view_is in
    ap (λ l. all_past c.self.inside.past ++ l) (items_more c.args.item c.self.inside.len _ c.self.inside.blocks.items c.index_mut.result.now c.add.new.self c.self.invariant.1 (omega arith) (omega arith) c.index_mut.ensures.value c.add.ensures)
    ∙ sym (append_assoc (all_past c.self.inside.past) (all_in c.self.inside.blocks.items) (c.args.item ∷ []))
    ∙ ap (λ (j : JournalParts). j.items ++ c.args.item ∷ []) c.self.view_is
