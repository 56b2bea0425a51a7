use Rattle.std.proofs.Common.{List, ◌++◌, take}
use Rattle.std.specs.List.{AllByRecursion}
use Rattle.pay_rules.specs.declared.posting.Posting.{Posting}
use Rattle.pay_settle.specs.Settled.{AreSumsOf}
use Rattle.pay_settle.specs.Sums.{AddsUp}
use Rattle.pay_settle.proofs.settlement.Settlement.add_all.Given as goal

-- the sums are those with the postings so far
abbrev pub invariant-loop-posting : goal.invariant-loop-posting
invariant-loop-posting l = record {
  sums : (list : List Posting) → AreSumsOf list l.fn.self → AreSumsOf (list ++ take l.posting-index l.postings) l.self;
  adds_up : AllByRecursion AddsUp (take l.posting-index l.postings);
}
