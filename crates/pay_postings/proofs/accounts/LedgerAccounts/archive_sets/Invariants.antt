use Rattle.std.proofs.Common.{◌≡◌, List, [], ◌++◌, drop}
use Rattle.pay_rules.specs.SetsParts.{SetsParts}
use Rattle.pay_postings.specs.Ledger.{LedgerParts}
use Rattle.pay_postings.specs.Batches.{Agrees, AreThere, Covers, with_batch, lists, posted_after, StillAgrees}
use Rattle.pay_postings.proofs.accounts.LedgerAccounts.archive_sets.Given as goal

-- the same accounts are there, and what is left comes after the batch so far
abbrev pub invariant-loop-set : goal.invariant-loop-set
invariant-loop-set l = record {
  same : AreThere l.initial.self l.self;
  posted : (ledger : LedgerParts) → Agrees l.initial.self (with_batch ledger (lists l.initial.batch)) → Covers l.initial.self [] l.sets
      → StillAgrees ledger l.initial.self l.self (lists l.batch)
      × ((later : List SetsParts) → posted_after ledger (lists l.batch) [] (drop l.set-index l.sets ++ later) ≡ posted_after ledger (lists l.initial.batch) [] (l.sets ++ later));
}
