use Rattle.pay_follow.proofs.Replicas.{agree}
use Rattle.pay_follow.proofs.laws.replicas_agree.Goals as goal

pub returns : goal.returns
returns g c = λ one other. agree (g.P.Partition.HasLine one) (g.Q.Partition.HasLine other)
