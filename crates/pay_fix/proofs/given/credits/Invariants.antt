use Rattle.std.proofs.Common.{◌≡◌, ◌≤◌, ◌*◌, take, sum_by}
use Rattle.pay_rules.specs.declared.limits.TheConstants.{MOST_CREDIT}
use Rattle.pay_rules.specs.StandingCredits.{given_by}
use Rattle.pay_fix.proofs.given.credits.Given as goal

abbrev pub invariant-loop-fix : goal.invariant-loop-fix
invariant-loop-fix l = record {
  value : l.sum ≡ sum_by (given_by l.accepted l.from l.through) (take l.fix-index l.accepted);
  in_range : l.sum ≤ l.fix-index * MOST_CREDIT;
}
