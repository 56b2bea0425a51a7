use Rattle.std.proofs.Common.{rules, arith, ◌≡◌, ℕ, get_or, length, sym, subst}
use Rattle.std.specs.Prelude.{pos}
use Rattle.pay_postings.specs.Words.{added}
use Rattle.pay_settle.specs.declared.fault.SettleFault.TheVariants.{TooLarge}
use Rattle.pay_settle.specs.Sums.{HasNoBits}
use Rattle.pay_settle.proofs.Adding.{added_at, by_fault, sums_are}
use Rattle.pay_settle.proofs.settlement.with_shares.Goals as goal

pub returns-in_err-further-clause-too_large : goal.returns-in_err-further-clause-too_large
returns-in_err-further-clause-too_large c =
    let place = c.loop-place.place in
    let sums : length c.args.sums.now ≡ 16 = search rules in
    let amounts : length c.args.amounts.now ≡ 16 = search rules in
    by_fault c.from_residual.result (λ fault. (fault ≡ TooLarge) × (k : ℕ) × HasNoBits (get_or (added c.args.sums.now c.args.amounts.now) k (pos 0))) c.in_err-further.field-0.0 (search rules) (
      c.in_err-further.ensures.too_large.0,
      place,
      subst HasNoBits (sym (added_at c.args.sums.now c.args.amounts.now place (omega (arith, c.loop-place-test.true, sums)) (omega (arith, c.loop-place-test.true, amounts)))) c.in_err-further.ensures.too_large.1,
    )

pub returns-clause-value : goal.returns-clause-value
returns-clause-value c =
    sums_are c.args.sums.now c.args.amounts.now c.loop-place.further 16 (search rules) (search rules) c.loop-place.invariant.all (λ k below. c.loop-place.invariant.value k (omega (arith, below, c.loop-place-test.false)))
