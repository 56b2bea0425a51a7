use Rattle.std.proofs.Common.{◌≡◌, ◌<◌, ℕ, length, get_or}
use Rattle.std.specs.Prelude.{pos, ◌+ℤ◌}
use Rattle.pay_money.specs.declared.limits.TheConstants.{OPERATORS}
use Rattle.pay_settle.proofs.settlement.with_shares.Given as goal

-- the sums before a place are there
abbrev pub invariant-loop-place : goal.invariant-loop-place
invariant-loop-place l = record {
  all : length l.further ≡ OPERATORS;
  value : (k : ℕ) → k < l.place → get_or l.further k (pos 0) ≡ get_or l.sums k (pos 0) +ℤ get_or l.amounts k (pos 0);
}
