use Rattle.pay_close.proofs.OneShard.{gathers_one, closes_one}
use Rattle.pay_close.proofs.laws.one_shard.Goals as goal

pub returns-clause-gathered : goal.returns-clause-gathered
returns-clause-gathered c = gathers_one c.any_shards.ensures.gathered

pub returns-clause-closed : goal.returns-clause-closed
returns-clause-closed c = closes_one c.any_shards.ensures.closed
