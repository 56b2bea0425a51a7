use Rattle.pay_serve.proofs.OneClose.{closes_are_one}
use Rattle.pay_serve.proofs.laws.closes_are_one.Goals as goal

pub returns : goal.returns
returns c = closes_are_one c.any_shards.ensures.merged
