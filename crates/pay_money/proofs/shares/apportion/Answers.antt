use Rattle.std.proofs.Common.{◌∙◌, sym, ap, arith}
use Rattle.std.specs.Prelude.{sum}
use Rattle.std.proofs.lemmas.List.{length-set}
use Rattle.std.proofs.lemmas.List.FromFn.{fill_by_all}
use Rattle.std.proofs.lemmas.List.Sums.{get_or-le-sum_by}
use Rattle.pay_money.specs.Shares.{share}
use Rattle.pay_money.proofs.Proportions.{weights_so_far, next_share, one_share_more, shares_together}
use Rattle.pay_money.proofs.shares.apportion.Goals as goal

pub loop-place-preserved : goal.loop-place-preserved
loop-place-preserved c = record {
  whole = c.loop-place.invariant.whole;
  before = omega (arith, c.loop-place.invariant.before, weights_so_far c.args.weights.now c.loop-place.place);
  all = (c.loop-place.invariant.all.0, length-set c.loop-place.shares c.loop-place.place _ ∙ c.loop-place.invariant.all.1);
  value =
      one_share_more c.args.total c.args.weights.now c.loop-place.shares c.loop-place.place _ (omega (arith, c.loop-place.invariant.all.1))
      (next_share c.args.total c.args.weights.now c.loop-place.place c.sum-whole.result c.loop-place.before c.growth.result c.loop-place.invariant.whole c.loop-place.invariant.before c.growth.ensures.value)
      c.loop-place.invariant.value;
}

pub returns-clause-value : goal.returns-clause-value
returns-clause-value c =
    fill_by_all (share c.args.total c.args.weights.now) c.loop-place.shares _ 0 (c.loop-place.invariant.all.1 ∙ sym c.loop-place.invariant.all.0) (λ k h. c.loop-place.invariant.value k (omega (arith, c.loop-place.invariant.all.0, h)))

pub returns-clause-together : goal.returns-clause-together
returns-clause-together c = ap sum (returns-clause-value c) ∙ shares_together c.args.total c.args.weights.now c.requires.covered

pub returns-clause-in_range : goal.returns-clause-in_range
returns-clause-in_range c k d h = omega (arith, get_or-le-sum_by (λ n. n) c.loop-place.shares k d h, returns-clause-together c)
