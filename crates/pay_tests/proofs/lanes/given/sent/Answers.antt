use Rattle.std.proofs.Common.{length}
use Rattle.pay_tests.proofs.lanes.given.sent.Goals as goal

pub send-requires-clause-shards : goal.send-requires-clause-shards
send-requires-clause-shards g c = c.requires (length c.args.lane.now.shards)
