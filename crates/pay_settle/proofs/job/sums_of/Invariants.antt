use Rattle.std.proofs.Common.{take}
use Rattle.std.specs.List.{AllByRecursion}
use Rattle.pay_settle.specs.Ledgers.{postings_in}
use Rattle.pay_settle.specs.Settled.{AreSumsOf}
use Rattle.pay_settle.specs.Sums.{AddsUp}
use Rattle.pay_settle.proofs.job.sums_of.Given as goal

-- the sums are those of the ledgers so far
abbrev pub invariant-loop-ledger : goal.invariant-loop-ledger
invariant-loop-ledger l = record {
  sums : AreSumsOf (postings_in (take l.ledger-index l.ledgers)) l.sums;
  adds_up : AllByRecursion AddsUp (postings_in (take l.ledger-index l.ledgers));
}
