use Rattle.pay_hopper.proofs.LastPaying.{all_marked}
use Rattle.pay_hopper.proofs.PayingSets.{paying_marks_is}
use Rattle.pay_hopper.proofs.hopper.paying.Goals as goal

pub returns-clause-computed : goal.returns-clause-computed
returns-clause-computed c =
    let marked = all_marked _ _ _ _ _ c.loop-tap-test.false c.loop-tap.invariant in cc

pub returns-clause-described : goal.returns-clause-described
returns-clause-described c = rw (returns-clause-computed c) (paying_marks_is _ _)
