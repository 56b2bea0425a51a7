use Rattle.std.proofs.Common.{rules}
use Rattle.pay_lanes.proofs.Owned.{none_single, none_own}
use Rattle.pay_lanes.proofs.lane.Lane.new.Goals as goal

-- nothing was sent
pub invariant_of-result : goal.invariant_of-result
invariant_of-result c = (
  none_own c.args.number c.args.shards.items c.requires.shards,
  none_single c.args.number c.args.shards.items c.requires.shards,
  search rules,
  search rules,
  search rules,
)
