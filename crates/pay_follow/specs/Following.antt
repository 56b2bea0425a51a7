-- How the lines of a partition are followed.
use Rattle.std.specs.Prelude.{◌≡◌, true, ℕ, ◌+◌, suc, List, [], ◌∷◌, ◌++◌, length, map, Option, ⊤}
use Rattle.jiff.specs.declared.tz.timezone.TimeZone.{TimeZone}
use Rattle.sqlite.specs.Held.{Held, state}
use Rattle.sqlite.specs.State.{HasCleanDisk}
use Rattle.sqlite.specs.Store.{Ghosts}
use Rattle.pay_postings.specs.Words.{LedgerParts}
use Rattle.pay_shard.specs.Words.{ShardParts}
use Rattle.pay_wire.specs.Words.{spelling_of_reply}
use Rattle.pay_wire.specs.declared.reply.SpelledReply.{SpelledReply}
use Rattle.pay_wire.specs.declared.reply.SpelledReply.TheVariants.{No}
use Rattle.pay_session.specs.Words.{request_of}
use Rattle.pay_run.specs.Words.{Machine, Outcome, outcome, tells_failure, machine_on, has_ledger_in}
use Rattle.pay_follow.specs.Partitions.{PartitionParts, read_on, AreLines}
use Rattle.pay_follow.specs.declared.stop.Stop.{Stop}
use Rattle.pay_follow.specs.declared.stop.Stop.TheVariants.{Read, Unanswered, Memory, Unpublished, NoMorePlaces}

-- what the machine comes to by lines, where nothing fails
abbrev pub outcome_of : Machine → List (List ℕ) → Outcome
outcome_of m lines = outcome [] m (map request_of lines)

-- replies under their places, from a place on
abbrev pub under : ℕ → List SpelledReply → List (ℕ × List ℕ)
under place [] = []
under place (reply ∷ replies) = (place, spelling_of_reply reply) ∷ under (suc place) replies

-- The lines of the next places were taken, each once and in order; what was published under each is the machine's reply to it; and so the
-- machine came from where it was to where it is.
pub record HasFollowed (HasLine : ℕ → List ℕ → Type 0) (before after : PartitionParts) (was now : Machine) : Type 0 where
  pub lines : List (List ℕ)
  pub are_lines : AreLines HasLine (suc before.last) lines
  pub read : after.last ≡ before.last + length lines
  pub published : after.published ≡ before.published ++ under (suc before.last) (outcome_of was lines).replies
  pub machine : now ≡ (outcome_of was lines).after

-- A replica: its shard, what holds its ledger, and its partition.
pub record Replica (L : Type 0) : Type 0 where
  pub shard : ShardParts
  pub ledger : L
  pub partition : PartitionParts

abbrev pub replica : {L : Type 0} → ShardParts → L → PartitionParts → Replica L
replica shard ledger partition = record { shard = shard; ledger = ledger; partition = partition }

-- The same from one moment of a replica to another, over whatever ledger there is. Where its disk has not returned what was written, nothing
-- is said.
abbrev pub Follows : {S : Type 0} → Ghosts S → (ℕ → List ℕ → Type 0) → TimeZone → (before after : Replica (Held S)) → Type 0
Follows store HasLine zone before after = HasCleanDisk (state store after.ledger) → (ledger : Option LedgerParts) → has_ledger_in store before.ledger ledger
    → (its : Option LedgerParts) × has_ledger_in store after.ledger its × HasFollowed HasLine before.partition after.partition (machine_on zone before.shard ledger) (machine_on zone after.shard its)

-- Where a replica stops: before it read the next line; or after that, and then the reply was not published, or that is not known. A reply
-- that tells no failure is none to stop at.
abbrev pub IsStoppedAt : Stop → PartitionParts → PartitionParts → Type 0
IsStoppedAt (Read fault) before after = after ≡ before
IsStoppedAt (Unanswered why) before after = (after ≡ read_on before) × (tells_failure (No why) ≡ true)
IsStoppedAt Memory before after = after ≡ read_on before
IsStoppedAt (Unpublished fault) before after = after.last ≡ suc before.last
IsStoppedAt NoMorePlaces before after = after ≡ before

-- after a stop before the next line all is as it was
abbrev pub IfRead : {X : Type 0} → Stop → X → X → Type 0
IfRead (Read fault) before after = after ≡ before
IfRead _ before after = ⊤

-- so is what is said of a stop before the reply to the line that was read last was published
abbrev pub IfUnpublished : Stop → Type 0 → Type 0
IfUnpublished (Unpublished fault) A = A
IfUnpublished _ A = ⊤

-- Of the line that was read last this is the reply: all was followed, once it is published too.
pub record IsOwed {S : Type 0} (store : Ghosts S) (HasLine : ℕ → List ℕ → Type 0) (zone : TimeZone) (before after : Replica (Held S)) (reply : List ℕ) : Type 0 where
  pub was : ℕ
  pub next : after.partition.last ≡ suc was
  pub more : List (ℕ × List ℕ)
  pub follows : Follows store HasLine zone before (replica after.shard after.ledger (record { last = suc was; published = (before.partition.published ++ more) ++ (suc was, reply) ∷ [] }))

-- A replica followed its partition until a moment, and then stopped. Of its ledger it can be said what it was then where it can be said in
-- the end.
pub record HasStopped {S : Type 0} (store : Ghosts S) (HasLine : ℕ → List ℕ → Type 0) (zone : TimeZone) (before after : Replica (Held S)) (stop : Stop) : Type 0 where
  pub until : Replica (Held S)
  pub follows : Follows store HasLine zone before until
  pub since : HasCleanDisk (state store until.ledger) → HasCleanDisk (state store before.ledger)
  pub clean : HasCleanDisk (state store after.ledger) → HasCleanDisk (state store until.ledger)
  pub stopped : IsStoppedAt stop until.partition after.partition
  pub goes_on : IfRead stop until after
