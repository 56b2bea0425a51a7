-- What a journal's lines give back, and why one of them is not accepted.
use Rattle.std.specs.Prelude.{◌≡◌, ◌⊎◌, ℕ, ◌+◌, ◌-◌, true, false, List, [], ◌∷◌, ◌++◌, length, Option, None, refl}
use Rattle.std.specs.FinMap as map
use Rattle.jiff.specs.declared.tz.timezone.TimeZone.{TimeZone}
use Rattle.pay_postings.specs.Words.{LedgerParts}
use Rattle.pay_tables.specs.Words.{FareEditions}
use Rattle.pay_shard.specs.Words.{ShardParts, LocalParts, desk_parts}
use Rattle.pay_wire.specs.declared.refusal.Refusal.{Refusal}
use Rattle.pay_wire.specs.declared.refusal.Refusal.TheVariants as refusal
use Rattle.pay_wire.specs.declared.reply.SpelledReply.TheVariants.{No}
use Rattle.pay_session.specs.Words.{Event, asks_of, line_requests, rest_of}
use Rattle.pay_journal.specs.Words.{AreAccepted, is_barred}
use Rattle.pay_journal.specs.declared.replaying.Replayed.{Replayed}
use Rattle.pay_journal.specs.declared.replaying.ReplayFault.{ReplayFault}
use Rattle.pay_journal.specs.declared.replaying.ReplayFault.TheVariants as fault
use Rattle.pay_session.specs.declared.request.Request.{Request}
use Rattle.pay_run.specs.Commands.{commands_in, commands_of}
use Rattle.pay_run.specs.Journals.{machine_of, GivesBack}
use Rattle.pay_run.specs.Machine.{Machine, new_machine, machine_on, step}
use Rattle.pay_run.specs.Outcomes.{outcome, AreAllPriced}

-- how many bytes of a text are whole lines
abbrev pub whole_bytes : List ℕ → ℕ
whole_bytes text = length text - length (rest_of text)

-- The whole lines of a text were replayed over a desk that had no accounts: each is accepted, or was before, the desk has what the
-- machine then has, and they are so many, of so many bytes.
pub record IsReplayOf (zone : TimeZone) (editions : FareEditions) (past : List ℕ) (shard : ShardParts) (it : Replayed) : Type 0 where
  pub same : shard.editions ≡ editions
  -- over whatever ledger
  pub gives_back : (ledger : Option LedgerParts) → GivesBack zone editions (line_requests past) (machine_on zone shard ledger)
  pub lines : it.lines ≡ length (line_requests past)
  pub bytes : it.bytes ≡ whole_bytes past

-- Requests were handed to a desk that began with no accounts, and each was answered by prices.
pub record HasReplayed (zone : TimeZone) (editions : FareEditions) (desk : LocalParts) (requests : List Request) : Type 0 where
  pub first : LocalParts
  pub same : first.shard.editions ≡ editions
  pub no_base : first.shard.base ≡ map.empty
  pub no_journal : first.shard.journal ≡ []
  pub stands : (desk_parts desk).standing ≡ (desk_parts first).standing
  pub events : List Event
  pub accepted : AreAccepted zone desk_parts first desk requests events

-- The machine refuses a request so; or no journal may have it, as it has no question, no CLOSE and no QUIT.
abbrev pub IsRefusedSo : Machine → Request → Refusal → Type 0
IsRefusedSo m r why =
    ((is_barred (asks_of m.zone r) ≡ false) × ((step None m r).reply ≡ No why))
    ⊎ ((is_barred (asks_of m.zone r) ≡ true) × (why ≡ refusal.BadLine))

-- Of requests, those before the one of this number, from 1, are accepted, or were before.
pub record Reaches (m : Machine) (list : List Request) (line : ℕ) : Type 0 where
  pub done : List Request
  pub request : Request
  pub others : List Request
  pub requests : list ≡ done ++ request ∷ others
  pub counted : line ≡ length done + 1
  pub accepted : AreAllPriced (outcome [] m done).replies

-- and that one is refused so
abbrev pub StopsAt : Machine → List Request → ℕ → Refusal → Type 0
StopsAt m list line why = (reached : Reaches m list line) × IsRefusedSo (outcome [] m reached.done).after reached.request why

-- Why requests are not all accepted: one is refused, or memory was wanting for one.
abbrev pub IsNotReplayed : Machine → List Request → ReplayFault → Type 0
IsNotReplayed m list (fault.Line line why) = StopsAt m list line why
IsNotReplayed m list fault.Memory = (line : ℕ) × Reaches m list line

-- what was replayed to a desk is accepted, and gives back what the desk has
abbrev pub AreReplayed : LocalParts → Type 0
AreReplayed desk = (zone : TimeZone) (editions : FareEditions) (requests : List Request) → HasReplayed zone editions desk requests → GivesBack zone editions requests (machine_on zone desk.shard None)

-- and its journal has just the commands of that
abbrev pub HasCommands : LocalParts → Type 0
HasCommands desk = (zone : TimeZone) (editions : FareEditions) (requests : List Request) → HasReplayed zone editions desk requests → commands_in desk.shard.journal ≡ commands_of zone requests

-- ---- one text more

-- Whatever requests a desk was handed before, it was handed these after them, and each was answered by prices.
abbrev pub IsReplayedAfter : TimeZone → LocalParts → LocalParts → List Request → Type 0
IsReplayedAfter zone old new requests = (editions : FareEditions) (before : List Request) → HasReplayed zone editions old before → HasReplayed zone editions new (before ++ requests)

-- Whatever it was handed before is accepted, and after that these are not.
abbrev pub IsNotReplayedAfter : TimeZone → LocalParts → List Request → ReplayFault → Type 0
IsNotReplayedAfter zone old requests why = (editions : FareEditions) (before : List Request) → HasReplayed zone editions old before
    → AreAllPriced (outcome [] (new_machine zone editions None) before).replies × IsNotReplayed (machine_of zone editions before None) requests why

-- ---- worked rows

-- of five bytes two are a line
two_of_five : whole_bytes (65 ∷ 10 ∷ 66 ∷ 67 ∷ 68 ∷ []) ≡ 2
two_of_five = refl
