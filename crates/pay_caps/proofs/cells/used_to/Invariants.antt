use Rattle.std.proofs.Common.{◌≤◌}
use Rattle.pay_caps.specs.declared.limits.TheConstants.{SPANS}
use Rattle.pay_caps.specs.Cells.{used_of}
use Rattle.pay_caps.proofs.cells.used_to.Given as goal

-- no more are in use than those that are left
abbrev pub invariant-loop-used : goal.invariant-loop-used
invariant-loop-used l = record {
  in_most : used_of l.spans ≤ l.used;
  in_range : l.used ≤ SPANS;
}

abbrev pub decreases-loop-used : goal.decreases-loop-used
decreases-loop-used l = l.used
