use Rattle.pay_compare.specs.Laws.{IsTouchWithin}
use Rattle.pay_kept.proofs.Lists.{in_at, one_more}
use Rattle.pay_kept.proofs.outside.first_outside.Goals as goal

pub returns-then-not-is_within-clause-some : goal.returns-then-not-is_within-clause-some
returns-then-not-is_within-clause-some c =
    (in_at c.args.taps.now.touches c.loop-place.place _ c.touch_at-touch.ensures, λ within. let is = c.is_within.ensures.1 within in let not_so = c.if-not-is_within.true in absurd (cc))

pub loop-place-preserved : goal.loop-place-preserved
loop-place-preserved c =
    one_more (IsTouchWithin c.args.old.now c.args.last) c.args.taps.now.touches c.loop-place.place c.touch_at-touch.result c.touch_at-touch.ensures c.loop-place.invariant (c.is_within.ensures.0 c.if-not-is_within.false)
