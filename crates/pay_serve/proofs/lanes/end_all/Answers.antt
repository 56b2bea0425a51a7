use Rattle.std.proofs.Common.{◌<◌, ◌++◌, [], ◌∷◌, sym, ◌∙◌, subst, arith, length, vec_capacity}
use Rattle.std.specs.List.{AllZip}
use Rattle.std.proofs.lemmas.Iterator.Adapters.{YieldsList-from_vec}
use Rattle.std.proofs.lemmas.Iterator.Consumers.{YieldsList-turn}
use Rattle.std.proofs.lemmas.Slice.Zip.{AllZip-long}
use Rattle.pay_serve.specs.TriedLanes.{GivesBack}
use Rattle.pay_serve.proofs.TriedOver.{one_more_of_each}
use Rattle.pay_serve.proofs.lanes.end_all.Goals as goal

-- one more lane is back
pub loop-one-preserved : goal.loop-one-preserved
loop-one-preserved g c =
    let was = c.loop-one.invariant in (
      subst (AllZip GivesBack (c.loop-one.yielded ++ c.in-Some.one ∷ [])) (sym c.push_reserved.ensures.items)
          (one_more_of_each GivesBack c.loop-one.yielded c.loop-one.lanes.items c.in-Some.one c.end.result was.0 c.end.ensures),
      c.push_reserved.ensures.capacity ∙ was.1,
    )

pub push_reserved-requires : goal.push_reserved-requires
push_reserved-requires g c =
    let turn =
    (YieldsList-turn (YieldsList-from_vec {s = c.into_iter-one-iterator.result} c.args.informed.items c.into_iter-one-iterator.ensures.into_iter_gives.0 (c.into_iter-one-iterator.ensures.into_iter_gives.1 ∙ c.args.informed.ok.0))
    c.loop-one.yielded c.loop-one.one-iterator c.loop-one.yielded_by c.next.result c.next.new.self c.in-Some.one c.in-Some.is c.next.ensures.steps) in
    let many = AllZip-long GivesBack c.loop-one.yielded c.loop-one.lanes.items c.loop-one.invariant.0 in
    let same = c.loop-one.invariant.1 in
    let fits : length c.loop-one.lanes.items < vec_capacity c.loop-one.lanes = omega (arith, turn.0, many, same, c.requires.room) in
    subst (λ n. n < vec_capacity c.loop-one.lanes) (sym c.loop-one.lanes.ok.0) fits
