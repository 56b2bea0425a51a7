use Rattle.std.proofs.Common.{◌≡◌, take}
use Rattle.pay_postings.specs.Postings.{net}
use Rattle.pay_postings.proofs.posted.net_of.Given as goal

abbrev pub invariant-loop-posting : goal.invariant-loop-posting
invariant-loop-posting l = l.net ≡ net l.account l.week (take l.posting-index l.postings)
