use Rattle.std.proofs.Common.{[], take, IsOk}
use Rattle.pay_postings.specs.Ledger.{LedgerParts}
use Rattle.pay_postings.specs.Archive.{archived_sets}
use Rattle.pay_postings.specs.Batches.{Agrees, Covers}
use Rattle.pay_postings.specs.Judged.{AreSetsUpTo}
use Rattle.pay_postings.proofs.accounts.LedgerAccounts.judge_sets.Given as goal

-- the sets so far are of no account above the highest, and none of them is refused
abbrev pub invariant-loop-place : goal.invariant-loop-place
invariant-loop-place l = record {
  up : AreSetsUpTo l.highest (take l.place l.sets);
  ok : (ledger : LedgerParts) → Agrees l.self ledger → Covers l.self [] l.sets → IsOk (archived_sets (ledger.taps, ledger.fixes) (take l.place l.sets));
}
