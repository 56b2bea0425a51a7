use Rattle.std.proofs.Common.{◌≡◌, take}
use Rattle.pay_postings.specs.Words.{postings_of}
use Rattle.pay_ledger.proofs.lookup.of_week.Given as goal

abbrev pub invariant-loop-posting : goal.invariant-loop-posting
invariant-loop-posting l = l.list.items ≡ postings_of l.account l.week (take l.posting-index l.posting-items)
