use Rattle.std.proofs.Common.{◌≡◌, ◌<◌, ℕ, length, get_or}
use Rattle.std.specs.Prelude.{pos, unsigned_abs}
use Rattle.pay_money.specs.declared.limits.TheConstants.{OPERATORS}
use Rattle.pay_postings.proofs.posting_rows.magnitudes.Given as goal

-- the magnitudes before a place are there
abbrev pub invariant-loop-place : goal.invariant-loop-place
invariant-loop-place l = record {
  all : length l.magnitudes ≡ OPERATORS;
  value : (k : ℕ) → k < l.place → get_or l.magnitudes k 0 ≡ unsigned_abs (get_or l.amounts k (pos 0));
}
