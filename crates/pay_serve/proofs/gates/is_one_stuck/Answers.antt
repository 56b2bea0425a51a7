use Rattle.std.proofs.Common.{sym, ◌∙◌, arith, below_more}
use Rattle.pay_serve.proofs.TakenAgain.{one_is, none_is, free_too}
use Rattle.pay_serve.proofs.gates.is_one_stuck.Goals as goal

pub loop-place-init : goal.loop-place-init
loop-place-init g c = λ k less d. let no : ⊥ = omega arith in absurd no

pub loop-place-preserved : goal.loop-place-preserved
loop-place-preserved g c =
    below_more _ _ c.loop-place.invariant (free_too c.args.gates.now c.loop-place.place c.index-gates-place.result c.loop-place-test.true c.index-gates-place.is (sym c.is_stuck.ensures.value ∙ c.if-is_stuck.false))

pub returns-then-is_stuck-clause-value : goal.returns-then-is_stuck-clause-value
returns-then-is_stuck-clause-value g c =
    sym (one_is c.args.gates.now c.loop-place.place c.index-gates-place.result c.loop-place-test.true c.index-gates-place.is (sym c.is_stuck.ensures.value ∙ c.if-is_stuck.true))

pub returns-clause-value : goal.returns-clause-value
returns-clause-value g c = none_is c.args.gates.now c.loop-place.place c.loop-place-test.false c.loop-place.invariant
