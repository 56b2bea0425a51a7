use Rattle.std.proofs.Common.{sym, subst}
use Rattle.pay_lanes.specs.Words.{IsSameLane}
use Rattle.pay_office.proofs.Waited.{none_waits}
use Rattle.pay_office.proofs.desk.LaneDesk.new.Goals as goal

pub invariant_of-result : goal.invariant_of-result
invariant_of-result g c = record {
  same = subst (λ b. IsSameLane b c.args.lane) (sym c.of.ensures) (c.same_lanes.ensures.itself c.args.lane);
  some = c.requires.shards.0;
  few = c.requires.shards.1;
  waits = none_waits c.args.lane c.new_in.result.items c.number.ensures.own c.new_in.ensures;
}
