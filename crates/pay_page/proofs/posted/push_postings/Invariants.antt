use Rattle.std.proofs.Common.{◌≡◌, ◌++◌, drop}
use Rattle.std.specs.List.{flat_map}
use Rattle.std.specs.String.{string_bytes}
use Rattle.pay_page.specs.Posted.{posting_row}
use Rattle.pay_page.proofs.posted.push_postings.Given as goal

abbrev pub invariant-loop-posting : goal.invariant-loop-posting
invariant-loop-posting l =
    string_bytes l.text ++ flat_map (posting_row l.names l.now) (drop l.posting-index l.postings) ≡ string_bytes l.fn.text ++ flat_map (posting_row l.names l.now) l.postings
