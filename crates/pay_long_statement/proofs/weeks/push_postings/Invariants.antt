use Rattle.std.proofs.Common.{◌≡◌, ◌++◌, drop}
use Rattle.pay_long_statement.specs.Text.{rows_bytes}
use Rattle.pay_long_statement.specs.Weeks.{posted_rows}
use Rattle.pay_long_statement.proofs.weeks.push_postings.Given as goal

abbrev pub invariant-loop-posting : goal.invariant-loop-posting
invariant-loop-posting l =
    l.text.items ++ rows_bytes l.names (posted_rows (drop l.posting-index l.postings)) ≡ l.fn.text.items ++ rows_bytes l.names (posted_rows l.postings)
