use Rattle.pay_shard.proofs.Merging.{merged_replies, merged_states, merged_histories}
use Rattle.pay_shard.proofs.laws.merge.Goals as goal

pub returns-clause-replies : goal.returns-clause-replies
returns-clause-replies c = merged_replies

pub returns-clause-states : goal.returns-clause-states
returns-clause-states c = merged_states

pub returns-clause-histories : goal.returns-clause-histories
returns-clause-histories c = merged_histories
