use Rattle.pay_shard.proofs.Journals.{replies_answered, answered_at}
use Rattle.pay_shard.proofs.laws.answers_of_run.Goals as goal

pub returns-clause-replies : goal.returns-clause-replies
returns-clause-replies c = λ shard editions base items. replies_answered shard 0 editions base items

pub returns-clause-places : goal.returns-clause-places
returns-clause-places c = answered_at
