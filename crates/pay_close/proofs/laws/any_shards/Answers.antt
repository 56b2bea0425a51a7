use Rattle.pay_shard.specs.Words.{replay, items_of, all_items}
use Rattle.pay_close.proofs.AnyShards.{shards_whole, shards_gathered, shards_closed}
use Rattle.pay_close.proofs.laws.any_shards.Goals as goal

pub returns-clause-gathered : goal.returns-clause-gathered
returns-clause-gathered c = λ editions of each whole day put some is many are. (shards_whole editions each day of whole put some is many are, shards_gathered editions each day of whole put some is many are)

pub returns-clause-closed : goal.returns-clause-closed
returns-clause-closed c = shards_closed

pub returns-clause-merged : goal.returns-clause-merged
returns-clause-merged c = λ editions of each books merged day put some is asked many are.
    shards_closed editions of (λ shard. replay editions (each shard) (items_of shard merged)) (record { state = replay editions books.state (all_items merged); ledger = books.ledger }) day put some
    (c.merge.ensures.states editions of each books.state merged is asked) many are
