use Rattle.std.proofs.Common.{sym, ◌∙◌, arith, below_more}
use Rattle.std.proofs.lemmas.Bool.Decides.{nat_tests}
use Rattle.pay_lanes.proofs.Numbers.{range_length, not_there, all_in_place, here_too}
use Rattle.pay_lanes.proofs.ending.are_in_order.Goals as goal

pub loop-place-init : goal.loop-place-init
loop-place-init c = λ k lt d. let no : ⊥ = omega arith in absurd no

pub returns-then-number-place : goal.returns-then-number-place
returns-then-number-place c = (
  λ no. cc,
  λ e. absurd (not_there c.args.lanes.now c.args.count c.loop-place.place c.index-lanes-place.result c.loop-place-test.true c.index-lanes-place.is (λ same. c.if-number-place.true (c.number.ensures.value ∙ same)) e),
)

pub loop-place-preserved : goal.loop-place-preserved
loop-place-preserved c =
    below_more _ _ c.loop-place.invariant
    (here_too c.args.lanes.now c.loop-place.place c.index-lanes-place.result c.loop-place-test.true c.index-lanes-place.is (sym c.number.ensures.value ∙ c.if-number-place.false))

pub returns : goal.returns
returns c = (
  λ yes. all_in_place c.args.lanes.now c.args.count c.loop-place.place c.loop-place-test.false c.loop-place.invariant (grind (arith, nat_tests)),
  λ e. let same = range_length c.args.lanes.now 0 c.args.count e in grind (arith, nat_tests),
)
