use Rattle.std.proofs.Common.{◌≡◌, ◌+◌, drop, map, sum_by}
use Rattle.std.specs.Prelude.{sum}
use Rattle.std.specs.List.{enumerate_from}
use Rattle.pay_rules.specs.LinkedLegs.{all_legs}
use Rattle.pay_rules.specs.Portions.{leg_portion, leg_portions}
use Rattle.pay_shares.specs.Adding.{with_portions}
use Rattle.pay_shares.proofs.Weighing.{pence}
use Rattle.pay_shares.proofs.operator_weights.add_run.Given as goal

-- what is added so far, and the portions of the legs that are left, come to all
abbrev pub invariant-loop-index : goal.invariant-loop-index
invariant-loop-index l = record {
  value :
      with_portions l.weights (map (leg_portion l.tables l.legs l.fare) (enumerate_from (l.index + 1) (drop l.index l.others)))
      ≡ with_portions l.fn.weights (leg_portions l.tables (all_legs l.run) l.fare);
  together : sum l.weights + sum_by pence (map (leg_portion l.tables l.legs l.fare) (enumerate_from (l.index + 1) (drop l.index l.others))) ≡ sum l.fn.weights + l.fare;
}
