use Rattle.pay_partitions.proofs.Parted.{one_moved, same_moved}
use Rattle.pay_partitions.proofs.laws.moves_are_the_same.Goals as goal

pub returns-clause-moves : goal.returns-clause-moves
returns-clause-moves c = same_moved c.own_requests.ensures

pub returns-clause-moved : goal.returns-clause-moved
returns-clause-moved c = one_moved c.own_requests.ensures
