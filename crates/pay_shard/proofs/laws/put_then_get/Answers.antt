use Rattle.pay_shard.proofs.PutThenGet.{command_of_last, last_one, stands_as_before}
use Rattle.pay_shard.proofs.laws.put_then_get.Goals as goal

pub returns : goal.returns
returns g c = record { command = command_of_last; waits = last_one; stands = stands_as_before }
