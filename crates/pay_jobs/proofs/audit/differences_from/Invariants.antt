use Rattle.std.proofs.Common.{◌≤◌, length}
use Rattle.pay_jobs.proofs.audit.differences_from.Given as goal

abbrev pub invariant-loop : goal.invariant-loop
invariant-loop g l = 1 ≤ length l.list.items
