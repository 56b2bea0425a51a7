use Rattle.std.proofs.Common.{◌++◌, ◌-◌, ◌*◌, length, ap, ◌∙◌, sym, subst, arith}
use Rattle.pay_shard.specs.JournalParts.{JournalParts, AreBlocks, all_in, all_past}
use Rattle.pay_shard.proofs.Blocks.{many_past, none_left, no_more, all_past_still}
use Rattle.pay_shard.proofs.Pasts.{past_then}
use Rattle.pay_shard.proofs.journal.Journal.forget.Goals as goal

pub overflow_add-self : goal.overflow_add-self
overflow_add-self c =
    let most = no_more c.self.inside.len c.self.inside.blocks.items c.self.invariant.1 in
    let few = c.self.invariant.1.few in
    omega arith

pub invariant_of-self : goal.invariant_of-self
invariant_of-self c = (
  ap length (past_then c.of-earlier.result c.of-blocks.result) ∙ (λ i. length (all_past (c.of-earlier.ensures i) ++ all_in (c.of-blocks.ensures i).items))
      ∙ many_past (all_past c.self.inside.past) c.self.inside.len c.self.inside.blocks.items c.self.invariant.0 c.self.invariant.1,
  subst (AreBlocks _ 0) (sym c.new.ensures.items) (none_left c.self.inside.len c.self.inside.blocks.items c.self.invariant.1),
)

pub returns : goal.returns
returns c =
    let past = past_then c.of-earlier.result c.of-blocks.result ∙ (λ i. all_past (c.of-earlier.ensures i) ++ all_in (c.of-blocks.ensures i).items) in
    let none = ap all_in c.new.ensures.items in
    let items = (λ i. past i ++ all_in c.new.result.items)
    ∙ all_past_still (all_past c.self.inside.past) c.args.self.now.items (all_in c.self.inside.blocks.items) (all_in c.new.result.items) (ap (λ (j : JournalParts). j.items) c.self.view_is) none in
    let many = sym (many_past (all_past c.self.inside.past) c.self.inside.len c.self.inside.blocks.items c.self.invariant.0 c.self.invariant.1) ∙ ap (λ (j : JournalParts). length j.items) c.self.view_is in
    let room = ap (λ l. 1024 * length l - 0) c.new.ensures.items in
    λ i. record { items = items i; memory = record { forgotten = many i; room = room i } }
