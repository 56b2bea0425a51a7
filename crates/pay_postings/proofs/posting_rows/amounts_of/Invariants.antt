use Rattle.std.proofs.Common.{◌≡◌, ◌<◌, ◌+◌, ℕ, length, get_or, drop}
use Rattle.std.specs.Prelude.{pos}
use Rattle.pay_money.specs.declared.limits.TheConstants.{OPERATORS}
use Rattle.pay_postings.specs.PostingRows.{amount_of}
use Rattle.pay_postings.proofs.posting_rows.amounts_of.Given as goal

-- the amounts are those of the rows from a place on
abbrev pub invariant-loop-place : goal.invariant-loop-place
invariant-loop-place l = record {
  all : length l.amounts ≡ OPERATORS;
  value : (k : ℕ) → k < OPERATORS → get_or l.amounts k (pos 0) ≡ amount_of (drop l.place l.shares) l.id (k + 1);
}
