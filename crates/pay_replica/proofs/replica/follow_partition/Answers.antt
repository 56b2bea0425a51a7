use Rattle.std.proofs.Common.{ap, subst}
use Rattle.pay_follow.specs.Words.{HasEnded, read_up_to, replica}
use Rattle.pay_replica.specs.Replicas.{IsGivenAtAll}
use Rattle.pay_replica.proofs.replica.follow_partition.Goals as goal

pub returns-clause-followed : goal.returns-clause-followed
returns-clause-followed g c =
    let begun = c.in_ok-begun.begun in
    record {
      begun = begun;
      new = c.in_ok-begun.ensures.begun;
      last = c.follow_on.new.desk.shard;
      ended = subst (λ s. HasEnded g.S.Store IsGivenAtAll begun.zone (replica s c.args.ledger.now (read_up_to 0)) (c.follow_on.new.desk.shard, c.follow_on.new.ledger) c.follow_on.result) (ap (λ d. d.shard) c.forgetting-desk.ensures) c.follow_on.ensures.followed;
    }
