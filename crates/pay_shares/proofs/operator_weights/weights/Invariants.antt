use Rattle.std.proofs.Common.{◌≡◌, take}
use Rattle.std.specs.Prelude.{sum}
use Rattle.pay_rules.specs.OperatorWeights.{sum_of_fares, weights}
use Rattle.pay_shares.proofs.operator_weights.weights.Given as goal

abbrev pub invariant-loop-journey : goal.invariant-loop-journey
invariant-loop-journey l = record {
  value : l.weights ≡ weights l.tables (take l.journey-index l.journeys);
  together : sum l.weights ≡ sum_of_fares (take l.journey-index l.journeys);
}
