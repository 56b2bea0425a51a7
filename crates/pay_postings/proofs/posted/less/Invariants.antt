use Rattle.std.proofs.Common.{◌≡◌, ◌<◌, ℕ, length, get_or}
use Rattle.std.specs.Prelude.{pos, ◌-ℤ◌}
use Rattle.pay_money.specs.declared.limits.TheConstants.{OPERATORS}
use Rattle.pay_postings.proofs.posted.less.Given as goal

-- the differences before a place are there
abbrev pub invariant-loop-place : goal.invariant-loop-place
invariant-loop-place l = record {
  all : length l.left ≡ OPERATORS;
  value : (k : ℕ) → k < l.place → get_or l.left k (pos 0) ≡ pos (get_or l.shares k 0) -ℤ pos (get_or l.posted k 0);
}
