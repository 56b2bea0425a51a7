-- Words for the crates above: a partition of a log, and how its lines are followed.
pub use Rattle.pay_follow.specs.Partitions.{PartitionParts, read_on, read_up_to, publish, AreLines, Within}
pub use Rattle.pay_follow.specs.Following.{outcome_of, under, HasFollowed, Replica, replica, Follows, IsStoppedAt, HasStopped}
pub use Rattle.pay_follow.specs.Resuming.{HasEnded}
