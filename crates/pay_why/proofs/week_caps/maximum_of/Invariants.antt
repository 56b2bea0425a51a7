use Rattle.std.proofs.Common.{◌≡◌, ◌*◌, ◌≤◌, take, sum_by}
use Rattle.pay_money.specs.declared.limits.TheConstants.{MOST_MONEY}
use Rattle.pay_why.proofs.week_caps.maximum_of.Given as goal

abbrev pub invariant-loop-cells : goal.invariant-loop-cells
invariant-loop-cells l = record {
  value : l.sum ≡ sum_by (λ cells. cells.maximum) (take l.cells-index l.sums);
  in_range : l.sum ≤ l.cells-index * MOST_MONEY;
}
