use Rattle.std.proofs.Common.{◌≡◌, [], replicate}
use Rattle.pay_page_job.proofs.followed.Followed.new.Given as goal

abbrev pub invariant-loop : goal.invariant-loop
invariant-loop l = l.journals.items ≡ replicate l.counter []
