use Rattle.std.proofs.Common.{[], take, IsOk}
use Rattle.pay_postings.specs.Ledger.{LedgerParts}
use Rattle.pay_postings.specs.Postings.{post_each}
use Rattle.pay_postings.specs.Batches.{Agrees, Covers}
use Rattle.pay_postings.specs.Judged.{AreUpTo}
use Rattle.pay_postings.proofs.accounts.LedgerAccounts.judge_quotes.Given as goal

-- the quotes so far are of no account above the highest, and none of them is refused
abbrev pub invariant-loop-place : goal.invariant-loop-place
invariant-loop-place l = record {
  up : AreUpTo l.highest (take l.place l.quotes);
  ok : (ledger : LedgerParts) → Agrees l.self ledger → Covers l.self l.quotes [] → IsOk (post_each ledger.postings (take l.place l.quotes));
}
