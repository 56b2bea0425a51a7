use Rattle.std.proofs.Common.{length, ap, arith}
use Rattle.pay_fix.proofs.touches.effective.Goals as goal

pub returns-clause-few : goal.returns-clause-few
returns-clause-few c = omega (arith, c.in_ok-sort_touches.ensures.as_many, c.in_ok-add_fills.ensures.few, c.in_ok-add_taps.ensures.few, ap length c.in_ok-list.ensures.items, c.len.ensures.numbered.within, c.as_slice-accepted.ensures.few)
