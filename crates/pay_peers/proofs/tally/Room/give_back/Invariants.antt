use Rattle.std.proofs.Common.{◌≤◌}
use Rattle.pay_peers.proofs.tally.Room.give_back.Given as goal

abbrev pub invariant-loop : goal.invariant-loop
invariant-loop g l = l.seen ≤ g.row.N
