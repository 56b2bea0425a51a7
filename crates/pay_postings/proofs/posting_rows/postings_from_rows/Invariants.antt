use Rattle.std.proofs.Common.{◌≡◌, drop}
use Rattle.pay_postings.specs.PostingRows.{with_rows}
use Rattle.std.specs.Prelude.{[]}
use Rattle.pay_postings.proofs.posting_rows.postings_from_rows.Given as goal

-- what is left, after the postings so far, comes to all
abbrev pub invariant-loop-id : goal.invariant-loop-id
invariant-loop-id l = with_rows l.account l.shares l.postings (drop l.id-index l.rows) ≡ with_rows l.account l.shares [] l.rows
