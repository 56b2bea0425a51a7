-- The accounts that are open: what they owe for a week is not what was posted for it.
use Rattle.std.specs.Prelude.{◌≡◌, ℕ, Bool, not, pos, List, [], ◌∷◌, length, Result, Ok, Err, IsTrue, refl}
use Rattle.std.specs.List.{filter}
use Rattle.std.specs.Ordering.{int_eq}
use Rattle.sqlite.specs.State.{State, HasCleanDisk, Survives}
use Rattle.pay_rules.specs.QuoteParts.{QuoteParts}
use Rattle.pay_rules.specs.declared.posting.Posting.{Posting}
use Rattle.pay_postings.specs.Words.{LedgerParts, net}
use Rattle.pay_ledger.specs.Words.{is_of_store, IsLedger, IsAsBefore}
use Rattle.pay_shard.specs.Words.{DeskParts}
use Rattle.pay_shard.specs.declared.desk.DeskFault.{DeskFault}
use Rattle.pay_till.specs.Words.{Taken, MaySometimeRefuse, MaySometimeBeLate}
use Rattle.pay_wire.specs.declared.refusal.Refusal.{Refusal}
use Rattle.pay_close.specs.Batches.{gathered, IsWhole}
use Rattle.pay_close.specs.Faults.{is_outside}
use Rattle.pay_close.specs.Gathers.{IsStopped}
use Rattle.pay_close.specs.declared.fault.NotClosed.{NotClosed}
use Rattle.pay_close.specs.declared.fault.NotClosed.TheVariants.{Desk, Ledger}

-- whether what is quoted differs from what was posted for the account and the week
abbrev pub is_open : List Posting → QuoteParts → Bool
is_open postings quote = not (int_eq (net quote.account quote.week postings) (pos quote.due))

-- of how many quotes it does
abbrev pub open_count : List Posting → List QuoteParts → ℕ
open_count postings quotes = length (filter (is_open postings) quotes)

-- this is so of the ledger that a database is, as long as the disk has returned what was written and the connection stays open
abbrev pub IsSoOfLedger : State → State → (LedgerParts → Type 0) → Type 0
IsSoOfLedger old new IsSo = HasCleanDisk new → IsTrue new.is_open → (ledger : LedgerParts) → IsLedger old.now ledger → IsSo ledger

-- A ledger was only read: its database is as it was, if the connection is still open, and a crash leaves just what it would have left before.
pub record IsOnlyRead (old new : State) : Type 0 where
  pub unchanged : HasCleanDisk new → IsTrue new.is_open → IsAsBefore old new
  pub survives : Survives old new (λ _. ⊥)

-- all quotes came, and of so many of them something else was posted
abbrev pub IsCount : State → State → ℕ → List Taken → ℕ → Type 0
IsCount old new of put count = IsWhole of put × IsSoOfLedger old new (λ ledger. count ≡ open_count ledger.postings (gathered put).quotes)

-- what an answer to OPEN says; of a ledger nothing is refused but for a cause from outside
abbrev pub Opens : State → State → ℕ → List Taken → Result ℕ Refusal → Type 0
Opens old new of put (Ok count) = IsCount old new of put count
Opens old new of put (Err why) = IsSoOfLedger old new (λ ledger. IsTrue (is_outside why))

-- With `Refuses` for how a desk may refuse a command, and `Late` for whether a reply of it may be late.
module _ (Refuses : DeskFault → Type 0) (Late : Type 0) where
  -- the same, and where the desk failed the cause
  abbrev pub IsCounted : ℕ → State → State → List Taken → Result ℕ NotClosed → Type 0
  IsCounted of old new put (Ok count) = IsCount old new of put count
  IsCounted of old new put (Err (Desk fault)) = IsStopped Refuses Late of fault put
  IsCounted of old new put (Err (Ledger fault)) = IsWhole of put × IsSoOfLedger old new (λ ledger. IsTrue (is_of_store fault))

-- the same over a desk, with `parts` for what it is at a moment
abbrev pub IsCountedAt : {D O : Type 0} → (D → DeskParts O) → D → State → State → Result ℕ NotClosed → List Taken → Type 0
IsCountedAt parts before old new result put =
    IsCounted (MaySometimeRefuse parts (parts before).standing) (MaySometimeBeLate parts (parts before).standing) (parts before).standing.shards old new put result

-- ---- worked rows

-- what account 7 owes for the week of Monday 19730, at a version
owed : ℕ → ℕ → QuoteParts
owed version due = record { account = 7; week = 19_730; through = 19_736; version = version; due = due; edition = 4; shares = [] }

paid : ℕ → ℕ → Posting
paid version due = record { quote = owed version due; amount = pos due; share_amounts = [] }

-- nothing was posted yet
not_posted : open_count [] (owed 1 350 ∷ []) ≡ 1
unfolding owed
not_posted = refl

-- it was posted as it is owed, for an earlier version too
posted_as_owed : open_count (paid 1 350 ∷ []) (owed 1 350 ∷ owed 2 350 ∷ []) ≡ 0
unfolding owed paid
posted_as_owed = refl

-- a late tap came
late_tap : open_count (paid 1 350 ∷ []) (owed 2 525 ∷ []) ≡ 1
unfolding owed paid
late_tap = refl

-- it owes nothing, and nothing was posted
owes_nothing : open_count [] (owed 1 0 ∷ []) ≡ 0
unfolding owed
owes_nothing = refl

-- what was posted for another week is not asked
other_week : open_count (paid 1 350 ∷ []) (record { account = 7; week = 19_737; through = 19_743; version = 1; due = 350; edition = 4; shares = [] } ∷ []) ≡ 1
unfolding owed paid
other_week = refl
