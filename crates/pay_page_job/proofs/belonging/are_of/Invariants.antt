use Rattle.std.proofs.Common.{◌≡◌, drop}
use Rattle.pay_page_job.specs.Followed.{are_of}
use Rattle.pay_page_job.proofs.belonging.are_of.Given as goal

abbrev pub invariant-loop-posting : goal.invariant-loop-posting
invariant-loop-posting l = are_of l.account l.week (drop l.posting-index l.postings) ≡ are_of l.account l.week l.postings
