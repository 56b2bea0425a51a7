use Rattle.pay_shard.proofs.NewAlone.{run_alone, stay_new, others_stay, stand_after}
use Rattle.pay_shard.proofs.laws.accepted_alone.Goals as goal

pub returns : goal.returns
returns c = record { alone = run_alone; newly = stay_new; others = others_stay; after = stand_after }
