use Rattle.std.proofs.Common.{arith, sym, ◌∙◌, subst, ◌-◌, ◌^◌, ◌<◌}
use Rattle.std.proofs.lemmas.List.{length-set}
use Rattle.pay_blocks.specs.Laid.{raised}
use Rattle.pay_blocks.proofs.Edits.{changed_more, changed_all, holds_further}
use Rattle.pay_blocks.proofs.later.raise_from.Goals as goal

pub raise-requires : goal.raise-requires
raise-requires g c =
    subst (λ b. b.start < 2 ^ 64 - 1) (sym c.index_mut-block.ensures.value) (c.loop-place.invariant.fits c.loop-place.place _ (omega arith) (omega (arith, c.args.blocks.now.ok.0)))

pub loop-place-preserved : goal.loop-place-preserved
loop-place-preserved g c = record {
  changed = changed_more raised _ _ _ _ _ (omega (arith, c.args.blocks.now.ok.0)) c.index_mut-block.ensures.value c.raise.ensures c.loop-place.invariant.changed;
  fits = holds_further (λ b. b.start < 2 ^ 64 - 1) _ _ _ c.loop-place.invariant.fits;
  many = length-set _ _ _ ∙ c.loop-place.invariant.many;
  capacity = c.loop-place.invariant.capacity;
}

pub returns-clause-items : goal.returns-clause-items
returns-clause-items g c = changed_all raised _ _ _ (omega (arith, c.args.blocks.now.ok.0)) c.loop-place.invariant.changed
