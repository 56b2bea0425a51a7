use Rattle.pay_partitions.proofs.Parted.{one}
use Rattle.pay_partitions.proofs.laws.partitions_are_one.Goals as goal

pub returns : goal.returns
returns c = one c.own_requests.ensures
