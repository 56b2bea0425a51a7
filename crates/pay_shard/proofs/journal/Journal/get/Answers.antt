use Rattle.std.proofs.Common.{◌-◌, ap, refl, arith}
use Rattle.pay_shard.specs.JournalParts.{JournalParts, all_in, all_past}
use Rattle.pay_shard.proofs.Blocks.{got, got_none, got_after}
use Rattle.pay_shard.proofs.journal.Journal.get.Goals as goal

pub returns-in_err-block-clause-kept : goal.returns-in_err-block-clause-kept
returns-in_err-block-clause-kept c after =
    got_after (all_past c.self.inside.past) (all_in c.self.inside.blocks.items) c.args.self.now.items c.self.inside.forgotten c.args.place c.from_residual.result c.self.invariant.0 (omega arith)
    (got_none c.self.inside.len (c.args.place - c.self.inside.forgotten) c.self.inside.blocks.items c.deref.result.now c.from_residual.result (all_in c.self.inside.blocks.items) c.self.invariant.1 c.deref.ensures.value c.in_err-block.ensures c.from_residual.ensures refl)
    (ap (λ (j : JournalParts). j.items) c.self.view_is)

pub returns-clause-kept : goal.returns-clause-kept
returns-clause-kept c after =
    got_after (all_past c.self.inside.past) (all_in c.self.inside.blocks.items) c.args.self.now.items c.self.inside.forgotten c.args.place c.get.result c.self.invariant.0 (omega arith)
    (got c.self.inside.len (c.args.place - c.self.inside.forgotten) c.self.inside.blocks.items c.deref.result.now c.in_ok-block.block.now c.get.result (all_in c.self.inside.blocks.items) c.self.invariant.1 c.deref.ensures.value c.in_ok-block.ensures c.get.ensures refl)
    (ap (λ (j : JournalParts). j.items) c.self.view_is)
