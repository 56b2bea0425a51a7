use Rattle.std.proofs.Common.{arith}
use Rattle.pay_shares.proofs.Fares.{first_leg, first_pence}
use Rattle.pay_shares.proofs.operator_weights.add_run.Goals as goal

pub loop-index-init : goal.loop-index-init
loop-index-init c = record {
  value =
      first_leg c.args.tables.now c.args.fare c.part.result c.args.run.now c.first-first.result.now c.others-others.result.now c.args.weights.now c.add_portion.new.weights
      c.first-first.ensures c.others-others.ensures c.part.ensures.value c.add_portion.ensures.value;
  together =
      omega (
        arith,
        c.add_portion.ensures.together,
        first_pence c.nothing_is_lost.ensures.parts c.args.tables.now c.args.fare c.part.result c.first-first.result.now c.others-others.result.now c.part.ensures.value,
      );
}
