use Rattle.std.proofs.Common.{◌≡◌, ◌<◌, ℕ, length, get_or}
use Rattle.std.specs.Prelude.{pos}
use Rattle.pay_money.specs.declared.limits.TheConstants.{OPERATORS}
use Rattle.pay_audit.proofs.settling.as_amounts.Given as goal

-- the amounts before a place are there
abbrev pub invariant-loop-place : goal.invariant-loop-place
invariant-loop-place l = record {
  all : length l.amounts ≡ OPERATORS;
  value : (k : ℕ) → k < l.place → get_or l.amounts k (pos 0) ≡ pos (get_or l.shares k 0);
}
