use Rattle.pay_shard.proofs.JournalFronts.{replay_goes_on, front_has_reply}
use Rattle.pay_shard.proofs.laws.fronts.Goals as goal

pub returns : goal.returns
returns c = record { replayed = replay_goes_on; reply = front_has_reply }
