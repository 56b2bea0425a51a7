-- What is restored of the archive that closes wrote.
use Rattle.std.specs.Prelude.{◌≡◌, ◌≤◌, ℕ, true, false, List, [], ◌∷◌, Some, Ok, ⊤}
use Rattle.std.specs.FinMap.{from_entries}
use Rattle.pay_tables.specs.Words.{FareEditions}
use Rattle.pay_rules.specs.declared.fix.What.{What}
use Rattle.pay_rules.specs.declared.fix.What.TheVariants as what
use Rattle.pay_rules.specs.Accepted.{Accepted}
use Rattle.pay_rules.specs.declared.posting.Posting.{Posting}
use Rattle.pay_rules.specs.SetsParts.{sets}
use Rattle.pay_rules.specs.State.{accepted_of}
use Rattle.pay_postings.specs.Words.{LedgerParts}
use Rattle.pay_set_rows.specs.InRange.{IsTapInRange, IsFixInRange}
use Rattle.pay_restore.specs.Archives.{IsAccount}
use Rattle.pay_restore.specs.Words.{tap_rows, fix_rows, restored, AreRestored}
use Rattle.pay_shard.specs.Words.{is_quoted}
use Rattle.pay_shard.specs.declared.asked.Asked.{Asked}
use Rattle.pay_shard.specs.declared.asked.Asked.TheVariants as asked
use Rattle.pay_shard.specs.declared.item.Entry.{Entry}
use Rattle.pay_close.specs.Close.{close, Event, Answered, Closed, history, accepted_after}

-- The numbers of a tap, or of a correction, are in their ranges. What only asks is never archived.
abbrev pub IsCommand : Asked → Type 0
IsCommand (asked.Tap tap) = IsAccount tap.account × IsTapInRange tap
IsCommand (asked.Fix fix) = IsAccount fix.account × IsFixInRange fix
IsCommand _ = ⊤

-- and so it is of each command of a history
abbrev pub AreCommands : List Event → Type 0
AreCommands [] = ⊤
AreCommands (Answered item ∷ later) = IsCommand item.entry.command × AreCommands later
AreCommands (Closed day ∷ later) = AreCommands later

-- the place of a Fill counts from 1
abbrev pub IsWhatPlaced : What → Type 0
IsWhatPlaced (what.Fill stamp place kind) = 1 ≤ place
IsWhatPlaced _ = ⊤

-- and so does that of a tap
abbrev pub IsPlaced : Asked → Type 0
IsPlaced (asked.Tap tap) = 1 ≤ tap.place
IsPlaced (asked.Fix fix) = IsWhatPlaced fix.what
IsPlaced _ = ⊤

-- the rows of a ledger's archive are not refused, and these are the accounts by them
abbrev pub AreRestoredFrom : FareEditions → LedgerParts → List (ℕ × Accepted) → Type 0
AreRestoredFrom editions ledger accounts = restored editions (tap_rows ledger.taps) (fix_rows ledger.fixes) ≡ Some accounts

-- the archive that a history leaves is not refused, and each account has just its own of it again
abbrev pub ArchiveIsRestored : Type 0
ArchiveIsRestored = (editions : FareEditions) (events : List Event) → AreCommands events
    → (accounts : List (ℕ × Accepted)) × AreRestoredFrom editions (history editions events).ledger accounts × AreRestored (history editions events).ledger.taps (history editions events).ledger.fixes accounts

-- once a day is closed, each account that the close selects is restored just as it is
abbrev pub ClosedIsRestored : Type 0
ClosedIsRestored = (editions : FareEditions) (events : List Event) (day : ℕ) (given : List Posting) (ledger : LedgerParts) → AreCommands events → close editions (history editions events) day ≡ Ok (given, ledger)
    → (accounts : List (ℕ × Accepted)) × AreRestoredFrom editions ledger accounts
    × ((account : ℕ) → is_quoted day (sets account (accepted_after editions events account)) ≡ true → accepted_of (from_entries accounts) account ≡ accepted_after editions events account)

-- ---- worked rows

-- to ask what is due may be of any account, and closes have no command
asked_and_closed : (entry : Entry) → AreCommands (Answered (record { entry = record entry { command = asked.Due 0 19_733 }; refused_memory = false }) ∷ Closed 19_733 ∷ [])
asked_and_closed entry = (tt, tt)
