use Rattle.std.proofs.Common.{◌∙◌, sym, ap}
use Rattle.pay_lanes.specs.Working.{entries_of}
use Rattle.pay_lanes.proofs.Gated.{none_passed}
use Rattle.pay_lanes.proofs.InMemory.{new_kept}
use Rattle.pay_lanes.proofs.Openings.{new_told}
use Rattle.pay_lanes.proofs.worker.Worker.new.Goals as goal

pub invariant_of-result : goal.invariant_of-result
invariant_of-result g c = (
  record {
    popped = c.requires.requests.0 ∙ sym (ap entries_of c.requires.shard);
    made = c.requires.requests.1;
    told = new_told c.args.shard c.args.lanes.items c.requires.shard c.requires.lanes;
    held = tt;
  },
  c.requires.left.0,
  c.requires.left.1,
  none_passed (g.G.Gate.Holds c.args.gate) c.args.shard c.args.lanes.items c.requires.shard c.requires.gate,
  c.requires.gates.0,
  c.requires.gates.1,
  new_kept g.G.Gate.forgets c.args.shard c.requires.shard c.requires.memory,
)
