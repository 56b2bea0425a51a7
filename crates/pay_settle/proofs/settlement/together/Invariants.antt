use Rattle.std.proofs.Common.{◌≡◌, ◌*◌, ◌≤◌, take}
use Rattle.std.specs.Prelude.{unsigned_abs}
use Rattle.pay_postings.specs.Words.{total}
use Rattle.pay_settle.proofs.settlement.together.Given as goal

-- the amounts before a place are added, each of which has 64 bits
abbrev pub invariant-loop-amount : goal.invariant-loop-amount
invariant-loop-amount l = record {
  value : l.sum ≡ total (take l.amount-index l.amounts);
  in_range : unsigned_abs l.sum ≤ l.amount-index * 9_223_372_036_854_775_808;
}
