use Rattle.std.proofs.Common.{◌<◌, ◌++◌, [], ◌∷◌, sym, ◌∙◌, subst, arith, length, vec_capacity}
use Rattle.std.specs.List.{AllZip}
use Rattle.std.proofs.lemmas.Iterator.Adapters.{YieldsList-from_vec}
use Rattle.std.proofs.lemmas.Iterator.Consumers.{YieldsList-turn}
use Rattle.std.proofs.lemmas.Slice.Zip.{AllZip-long}
use Rattle.pay_serve.specs.TriedLanes.{IsToldOf}
use Rattle.pay_serve.proofs.TriedOver.{one_more_of_each}
use Rattle.pay_serve.proofs.lanes.tell_all.Goals as goal

-- one more lane is told
pub loop-one-preserved : goal.loop-one-preserved
loop-one-preserved g c =
    let was = c.loop-one.invariant in (
      subst (AllZip (IsToldOf c.args.begins) (c.loop-one.yielded ++ c.in-Some.one ∷ [])) (sym c.push_reserved.ensures.items)
          (one_more_of_each (IsToldOf c.args.begins) c.loop-one.yielded c.loop-one.informed.items c.in-Some.one c.tell.result was.0 c.tell.ensures),
      c.push_reserved.ensures.capacity ∙ was.1,
    )

pub push_reserved-requires : goal.push_reserved-requires
push_reserved-requires g c =
    let turn =
    (YieldsList-turn (YieldsList-from_vec {s = c.into_iter-one-iterator.result} c.args.tried.items c.into_iter-one-iterator.ensures.into_iter_gives.0 (c.into_iter-one-iterator.ensures.into_iter_gives.1 ∙ c.args.tried.ok.0))
    c.loop-one.yielded c.loop-one.one-iterator c.loop-one.yielded_by c.next.result c.next.new.self c.in-Some.one c.in-Some.is c.next.ensures.steps) in
    let many = AllZip-long (IsToldOf c.args.begins) c.loop-one.yielded c.loop-one.informed.items c.loop-one.invariant.0 in
    let same = c.loop-one.invariant.1 in
    let fits : length c.loop-one.informed.items < vec_capacity c.loop-one.informed = omega (arith, turn.0, many, same, c.requires.room) in
    subst (λ n. n < vec_capacity c.loop-one.informed) (sym c.loop-one.informed.ok.0) fits
