use Rattle.std.proofs.Common.{◌≡◌, ℕ, ◌<◌, length, take, get_or}
use Rattle.std.specs.Prelude.{sum}
use Rattle.pay_money.specs.declared.limits.TheConstants.{OPERATORS}
use Rattle.pay_money.specs.Shares.{share}
use Rattle.pay_money.proofs.shares.apportion.Given as goal

-- the shares before a place are there, and the weights before it are summed up
abbrev pub invariant-loop-place : goal.invariant-loop-place
invariant-loop-place l = record {
  whole : l.whole ≡ sum l.weights;
  before : l.before ≡ sum (take l.place l.weights);
  all : (length l.weights ≡ OPERATORS) × (length l.shares ≡ OPERATORS);
  value : (k : ℕ) → k < l.place → get_or l.shares k 0 ≡ share l.total l.weights k;
}
