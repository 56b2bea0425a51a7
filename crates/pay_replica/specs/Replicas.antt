-- What a replica comes to, by the texts that it was begun with.
use Rattle.std.specs.Prelude.{ℕ, List, [], Option, length}
use Rattle.sqlite.specs.Held.{Held}
use Rattle.sqlite.specs.Store.{Ghosts}
use Rattle.pay_shard.specs.Words.{ShardParts, with_memory}
use Rattle.pay_jobs.specs.Words.{HasBegun, texts}
use Rattle.pay_jobs.specs.declared.begun.Begun.{Begun}
use Rattle.pay_jetstream.specs.Given.{IsGivenBy}
use Rattle.pay_follow.specs.Words.{HasEnded, read_up_to, replica}
use Rattle.pay_follow.specs.declared.stop.Stop.{Stop}

-- a server gave this line for this place, at one of the connections to it
abbrev pub IsGivenAtAll : ℕ → List ℕ → Type 0
IsGivenAtAll place line = (origin : ℕ × Option (List ℕ)) × IsGivenBy origin place line

-- a shard whose journal is no more in memory
abbrev pub forgotten : ShardParts → ShardParts
forgotten shard = with_memory shard (record { forgotten = length shard.journal; room = 0 })

-- With a new desk, by a fare file and the clock of a zone, it followed its partition from the first line on, and stopped.
pub record HasFollowedFrom {S : Type 0} (store : Ghosts S) (fares zone : List ℕ) (before after : Held S) (stop : Stop) : Type 0 where
  pub begun : Begun
  pub new : HasBegun (texts fares zone []) begun
  pub last : ShardParts
  pub ended : HasEnded store IsGivenAtAll begun.zone (replica (forgotten begun.desk.shard) before (read_up_to 0)) (last, after) stop
