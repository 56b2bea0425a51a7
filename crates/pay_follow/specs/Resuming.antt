-- How a replica goes on where the connection to its log was lost.
use Rattle.std.specs.Prelude.{◌≡◌, true, false, ℕ, suc, List, Bool}
use Rattle.jiff.specs.declared.tz.timezone.TimeZone.{TimeZone}
use Rattle.sqlite.specs.Held.{Held, state}
use Rattle.sqlite.specs.State.{HasCleanDisk}
use Rattle.sqlite.specs.Store.{Ghosts}
use Rattle.pay_shard.specs.Words.{ShardParts}
use Rattle.pay_follow.specs.Partitions.{PartitionParts, publish, read_on}
use Rattle.pay_follow.specs.Following.{Replica, replica, Follows, HasStopped}
use Rattle.pay_follow.specs.declared.stop.LogFault.{LogFault}
use Rattle.pay_follow.specs.declared.stop.Stop.{Stop}
use Rattle.pay_follow.specs.declared.stop.Stop.TheVariants.{Read, Unpublished}
use Rattle.pay_follow.specs.declared.resuming.Progress.{Progress}

-- A replica between two openings: its shard, what holds its ledger, the place of the line that was read last, and the reply to it, if that
-- was perhaps not published.
pub record Moment (L : Type 0) : Type 0 where
  pub shard : ShardParts
  pub ledger : L
  pub last : ℕ
  pub owed : Bool
  pub reply : List ℕ

abbrev pub moment : {L : Type 0} → ShardParts → L → Progress → Moment L
moment shard ledger p = record { shard = shard; ledger = ledger; last = p.last; owed = p.owed; reply = p.answered.reply.items }

-- Since it began it followed its partition until a moment: until now, or until before the line whose reply is owed; and then with that
-- reply it followed it until now.
pub record IsUnderway {S : Type 0} (store : Ghosts S) (HasLine : ℕ → List ℕ → Type 0) (zone : TimeZone) (began : Replica (Held S)) (now : Moment (Held S)) : Type 0 where
  pub until : Replica (Held S)
  pub follows : Follows store HasLine zone began until
  pub since : HasCleanDisk (state store until.ledger) → HasCleanDisk (state store began.ledger)
  pub clean : HasCleanDisk (state store now.ledger) → HasCleanDisk (state store until.ledger)
  pub paid : now.owed ≡ false → (until ≡ replica now.shard now.ledger until.partition) × (until.partition.last ≡ now.last)
  pub owed : now.owed ≡ true → (was : PartitionParts) × (suc was.last ≡ now.last) × Follows store HasLine zone began (replica now.shard now.ledger (publish (read_on was) now.reply))

-- So it did whenever it began, if it did before.
abbrev pub GoesOn : {S : Type 0} → Ghosts S → (ℕ → List ℕ → Type 0) → TimeZone → (before after : Moment (Held S)) → Type 0
GoesOn store HasLine zone before after = (began : Replica _) → IsUnderway store HasLine zone began before → IsUnderway store HasLine zone began after

-- it followed its partition, and stopped
abbrev pub HasEnded : {S : Type 0} → Ghosts S → (ℕ → List ℕ → Type 0) → TimeZone → (began : Replica (Held S)) → ShardParts × Held S → Stop → Type 0
HasEnded store HasLine zone began now stop = (last : PartitionParts) × HasStopped store HasLine zone began (replica now.0 now.1 last) stop

abbrev pub Ends : {S : Type 0} → Ghosts S → (ℕ → List ℕ → Type 0) → TimeZone → (before after : Moment (Held S)) → Stop → Type 0
Ends store HasLine zone before after stop = (began : Replica _) → IsUnderway store HasLine zone began before → HasEnded store HasLine zone began (after.shard, after.ledger) stop

-- a partition could not be opened
abbrev pub unopened_stop : LogFault → Bool → Stop
unopened_stop fault true = Unpublished fault
unopened_stop fault false = Read fault
