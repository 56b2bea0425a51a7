use Rattle.std.proofs.Common.{length, ◌+◌, arith, refl}
use Rattle.pay_close.proofs.AllAsked.{next_is, few_put, got_none, waits_for, got_any, late_within}
use Rattle.pay_close.proofs.asking.ask_all.Goals as goal

pub loop-place-init : goal.loop-place-init
loop-place-init g c = (got_none _ c.args.day c.shards-of.result c.put_all.new.tickets.items _ _ _ _ _ c.new-answered.result c.put_all.ensures.put c.new-answered.ensures.all c.new-answered.ensures.fault, c.put_all.ensures.transcript)

pub get-requires : goal.get-requires
get-requires g c =
    waits_for _ c.args.day c.shards-of.result c.put_all.new.tickets.items _ _ c.loop-place.place _ _ _ c.loop-place.answered c.of.result _ c.loop-place.invariant.0
    (next_is c.loop-place.place c.put_all.new.tickets.items _ c.of.result _ c.deref.ensures.0 c.of.ensures (omega (arith, c.loop-place-test.true)))

-- one more
pub loop-place-preserved : goal.loop-place-preserved
loop-place-preserved g c =
    let i = c.loop-place.invariant in
    let first = next_is c.loop-place.place c.put_all.new.tickets.items _ c.of.result _ c.deref.ensures.0 c.of.ensures (omega (arith, c.loop-place-test.true)) in
    let few = few_put (length c.put_all.new.tickets.items) c.shards-of.result c.put_all.result _ c.put_all.ensures.all c.put_all.ensures.refused in (
      got_any _ c.args.day c.shards-of.result c.put_all.new.tickets.items _ _ c.loop-place.place _ _ _ _ _ _ c.loop-place.answered c.keep.new.self c.of.result _ i.0 first refl (omega (arith, few, c.loop-place-test.true))
          c.get.ensures.none_added c.get.ensures.transcript c.get.ensures.got (c.loop-place.place + 1) c.get.result _ refl c.get.ensures.reply c.get.ensures.late (late_within g.D.Desk.parts _ c.loop-place.desk _ i.0.waits) c.keep.ensures,
      λ ticket answer h. c.get.ensures.transcript ticket answer (i.1 ticket answer h),
    )
