use Rattle.std.proofs.Common.{◌≡◌, ◌≤◌, length}
use Rattle.pay_shard.specs.Words.{NothingIsLost}
use Rattle.pay_close.specs.Gathers.{ArePut}
use Rattle.pay_close.proofs.asking.put_all.Given as goal

-- the shards so far were asked
abbrev pub invariant-loop-shard : goal.invariant-loop-shard
invariant-loop-shard g l =
    (length l.tickets.items ≡ l.shard)
    × ArePut l.day l.of l.tickets.items (g.D.Desk.parts l.fn.desk).taken (g.D.Desk.parts l.desk).taken (g.D.Desk.parts l.fn.desk).standing (g.D.Desk.parts l.desk).standing
    × NothingIsLost (g.D.Desk.parts l.fn.desk).transcript (g.D.Desk.parts l.desk).transcript
    × (l.shard ≤ l.of)
