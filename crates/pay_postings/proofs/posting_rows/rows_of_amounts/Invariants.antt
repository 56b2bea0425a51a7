use Rattle.std.proofs.Common.{◌≡◌, ◌+◌, ◌++◌, drop}
use Rattle.pay_postings.specs.PostingRows.{share_rows_from}
use Rattle.pay_postings.proofs.posting_rows.rows_of_amounts.Given as goal

-- the rows so far, and those of the operators that are left, are all
abbrev pub invariant-loop-place : goal.invariant-loop-place
invariant-loop-place l = l.rows.items ++ share_rows_from l.id (l.place + 1) (drop l.place l.amounts) ≡ share_rows_from l.id 1 l.amounts
