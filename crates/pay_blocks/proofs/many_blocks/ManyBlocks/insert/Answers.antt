use Rattle.std.proofs.Common.{ap, ◌-◌, refl, arith}
use Rattle.pay_blocks.proofs.Changes.{starts_fit, starts_fit_set, inserted_first, kept_first, inserted_later, laid_later, kept_later, within_later, laid_few, laid_capacity}
use Rattle.pay_blocks.proofs.many_blocks.ManyBlocks.insert.Goals as goal

pub make_way-requires-clause-fits : goal.make_way-requires-clause-fits
make_way-requires-clause-fits g c k d low lt =
    let room = c.requires.room in
    let same = ap (λ v. v.room) c.self.view_is in
    let most = starts_fit _ _ _ c.self.invariant.laid c.self.invariant.counted k d lt in
    let ready = c.self.invariant.ready (omega arith) in
    omega (arith, ready.counts)

pub invariant_of-self : goal.invariant_of-self
invariant_of-self g c =
    kept_first _ _ _ _ _ _ _ _ _ _ _ _ _ _ _ _ _ _ c.self.invariant (record { laid = c.self.invariant.laid; within = c.begun-begun.ensures.within; begun = c.begun-begun.ensures.begun; ahead = c.begun-begun.ensures.ahead; whole = ap (λ v. v.items) c.self.view_is }) c.if-begun-eq0.true c.requires.within
    c.put-next.ensures.put c.make_way.ensures c.put-next.ensures.spare refl
    (let room = c.requires.room in let same = ap (λ v. v.room) c.self.view_is in let ready = c.self.invariant.ready (omega arith) in omega (arith, ready.counts))

pub returns-then-begun-eq0 : goal.returns-then-begun-eq0
returns-then-begun-eq0 g c =
    inserted_first _ _ _ _ _ _ _ _ _ (record { laid = c.self.invariant.laid; within = c.begun-begun.ensures.within; begun = c.begun-begun.ensures.begun; ahead = c.begun-begun.ensures.ahead; whole = ap (λ v. v.items) c.self.view_is }) c.if-begun-eq0.true c.requires.within c.put-next.ensures.put c.make_way.ensures

pub put_in-next-requires-clause-within : goal.put_in-next-requires-clause-within
put_in-next-requires-clause-within g c d = within_later _ _ _ _ _ d (record { laid = c.self.invariant.laid; within = c.begun-begun.ensures.within; begun = c.begun-begun.ensures.begun; ahead = c.begun-begun.ensures.ahead; whole = ap (λ v. v.items) c.self.view_is }) c.if-begun-eq0.false c.requires.within

pub put_in-next-requires-clause-few : goal.put_in-next-requires-clause-few
put_in-next-requires-clause-few g c d = laid_few _ _ _ d c.self.invariant.laid (let within = c.begun-begun.ensures.within in let some = c.if-begun-eq0.false in omega arith)

pub put_in-next-requires-clause-fits : goal.put_in-next-requires-clause-fits
put_in-next-requires-clause-fits g c d =
    let within = c.begun-begun.ensures.within in
    let some = c.if-begun-eq0.false in
    let most = starts_fit _ _ _ c.self.invariant.laid c.self.invariant.counted (c.begun-begun.result - 1) d (omega arith) in
    omega (arith, c.self.ranges)

pub put_in-next-requires-clause-room : goal.put_in-next-requires-clause-room
put_in-next-requires-clause-room g c d = laid_capacity _ _ _ d c.self.invariant.laid (let within = c.begun-begun.ensures.within in let some = c.if-begun-eq0.false in omega arith)

pub make_way-requires-2-clause-fits : goal.make_way-requires-2-clause-fits
make_way-requires-2-clause-fits g c =
    let room = c.requires.room in
    let same = ap (λ v. v.room) c.self.view_is in
    let ready = c.self.invariant.ready (omega arith) in
    starts_fit_set _ _ _ _ _ _ c.self.invariant.laid c.self.invariant.counted ready.counts c.if-begun-eq0.false c.put_in-next.ensures.put.4

pub invariant_of-self-2 : goal.invariant_of-self-2
invariant_of-self-2 g c =
    kept_later _ _ _ _ _ _ _ _ _ _ _ _ _ _ _ c.self.invariant (ap (λ v. v.items) c.self.view_is) c.requires.within
    (inserted_later _ _ _ _ _ _ _ _ _ _ _ (record { laid = c.self.invariant.laid; within = c.begun-begun.ensures.within; begun = c.begun-begun.ensures.begun; ahead = c.begun-begun.ensures.ahead; whole = ap (λ v. v.items) c.self.view_is }) c.if-begun-eq0.false c.requires.within
    c.put_in-next.ensures.put.2 c.put_in-next.ensures.put.3 c.put_in-next.ensures.put.4 c.make_way-2.ensures)
    (laid_later _ _ _ _ _ _ _ _ _ _ _ (record { laid = c.self.invariant.laid; within = c.begun-begun.ensures.within; begun = c.begun-begun.ensures.begun; ahead = c.begun-begun.ensures.ahead; whole = ap (λ v. v.items) c.self.view_is }) c.if-begun-eq0.false c.requires.within
    c.put_in-next.ensures.put.2 c.put_in-next.ensures.put.3 c.put_in-next.ensures.put.4 c.make_way-2.ensures)
    c.put_in-next.ensures.spare refl
    (let room = c.requires.room in let same = ap (λ v. v.room) c.self.view_is in let ready = c.self.invariant.ready (omega arith) in omega (arith, ready.counts))

pub returns : goal.returns
returns g c =
    inserted_later _ _ _ _ _ _ _ _ _ _ _ (record { laid = c.self.invariant.laid; within = c.begun-begun.ensures.within; begun = c.begun-begun.ensures.begun; ahead = c.begun-begun.ensures.ahead; whole = ap (λ v. v.items) c.self.view_is }) c.if-begun-eq0.false c.requires.within
    c.put_in-next.ensures.put.2 c.put_in-next.ensures.put.3 c.put_in-next.ensures.put.4 c.make_way-2.ensures
