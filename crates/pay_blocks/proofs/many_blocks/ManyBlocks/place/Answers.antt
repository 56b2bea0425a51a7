use Rattle.std.proofs.Common.{[], length-append, ap, ◌≡◌, ◌+◌, ◌-◌, sym, subst, refl, arith, true, false}
use Rattle.pay_blocks.specs.Laid.{joined}
use Rattle.std.specs.List.Sorted.{IsPartitionedBy, IsPartitionPoint}
use Rattle.pay_blocks.proofs.Partitions.{parted_part}
use Rattle.pay_blocks.proofs.Searches.{parts_of, parted_blocks, place_first, place_later, place_within}
use Rattle.pay_blocks.proofs.many_blocks.ManyBlocks.place.Goals as goal

pub passed-passed-requires : goal.passed-passed-requires
passed-passed-requires g c = parted_blocks (g.S.ComesAfter.after c.args.sought.now) _ _ _ c.self.invariant.laid (ap (λ v. v.items) c.self.view_is) c.requires

pub place-requires : goal.place-requires
place-requires g c =
    let p = g.S.ComesAfter.after c.args.sought.now in
    parted_part p [] c.self.inside.first.items (joined c.self.inside.later.items) (subst (IsPartitionedBy p) (sym (ap (λ v. v.items) c.self.view_is)) c.requires)

pub returns-then-passed-eq0-clause-place : goal.returns-then-passed-eq0-clause-place
returns-then-passed-eq0-clause-place g c =
    place_first (g.S.ComesAfter.after c.args.sought.now) _ _ _ _ _ c.self.invariant.laid (ap (λ v. v.items) c.self.view_is) c.requires
    c.passed-passed.ensures.passed c.if-passed-eq0.true c.place.ensures.within c.place.ensures.place

pub place-requires-2 : goal.place-requires-2
place-requires-2 g c =
    let p = g.S.ComesAfter.after c.args.sought.now in
    let within = c.passed-passed.ensures.within in
    let some = c.if-passed-eq0.false in
    parted_part p _ _ _ (subst (IsPartitionedBy p)
    (parts_of _ _ _ (c.passed-passed.result - 1) _ (ap (λ v. v.items) c.self.view_is) (omega arith) c.index-block.ensures) c.requires)

pub overflow_add-result : goal.overflow_add-result
overflow_add-result g c =
    let low = place_within _ _ _ _ _ _ c.self.invariant.laid refl c.passed-passed.ensures.within c.if-passed-eq0.false c.index-block.ensures c.place-2.ensures.within in
    let many = length-append c.self.inside.first.items (joined c.self.inside.later.items) in
    omega (arith, c.start.ensures, c.self.invariant.counted, c.self.invariant.fits)

pub returns-clause-within : goal.returns-clause-within
returns-clause-within g c =
    let low = place_within _ _ _ _ _ _ c.self.invariant.laid (ap (λ v. v.items) c.self.view_is) c.passed-passed.ensures.within c.if-passed-eq0.false c.index-block.ensures c.place-2.ensures.within in
    omega (arith, c.start.ensures)

pub returns-clause-place : goal.returns-clause-place
returns-clause-place g c =
    let p = g.S.ComesAfter.after c.args.sought.now in
    subst (λ n. IsPartitionPoint (λ x. p x ≡ true) (λ x. p x ≡ false) c.args.self.now.items (n + c.place-2.result)) (sym c.start.ensures)
    (place_later p _ _ _ _ _ _ c.self.invariant.laid (ap (λ v. v.items) c.self.view_is) c.requires
    c.passed-passed.ensures.passed c.passed-passed.ensures.within c.if-passed-eq0.false c.index-block.ensures c.place-2.ensures.within c.place-2.ensures.place)
