-- The journals of a service: what is taken again of them before the first connection, and what its shards keep after them.
use Rattle.std.specs.Prelude.{◌≡◌, ◌⊎◌, ℕ, ◌+◌, Bool, true, false, List, [], ◌∷◌, Result, Ok, Err, ⊤}
use Rattle.std.specs.List.{list_any}
use Rattle.jiff.specs.declared.tz.timezone.TimeZone.{TimeZone}
use Rattle.pay_shard.specs.Words.{DeskParts, NothingIsLost}
use Rattle.pay_journal.specs.Words.{IsReplayed, IsEnded}
use Rattle.pay_journal.specs.declared.replaying.Replayed.{Replayed}
use Rattle.pay_journal.specs.declared.replaying.ReplayFault.{ReplayFault}
use Rattle.pay_journal.specs.declared.replaying.ReplayFault.TheVariants as replaying
use Rattle.pay_lanes.specs.Words.{LaneParts, IsSameLane}
use Rattle.pay_serve.specs.KeepingGates.{GateParts}
use Rattle.pay_office.specs.Words.{LaneDeskParts, desk_parts}
use Rattle.pay_serve.specs.declared.fault.ServeFault.{ServeFault}
use Rattle.pay_serve.specs.declared.fault.ServeFault.TheVariants.{Memory, Journal, JournalLine}

-- why nothing is served where a line of the journal of this number is not accepted once more
abbrev pub journal_fault : ℕ → ReplayFault → ServeFault
journal_fault journal (replaying.Line line why) = JournalLine journal line why
journal_fault journal replaying.Memory = Memory

-- In a zone, over a desk with `parts` for what it is at a moment, from before to after.
module _ {D O : Type 0} (zone : TimeZone) (parts : D → DeskParts O) where
  -- The texts from one of this number on were taken again, one after another: each was accepted line by line, up to the first that was not. No
  -- answer was lost meanwhile.
  abbrev pub AreTakenAgain : ℕ → List (List ℕ) → D × D → Result ⊤ ServeFault → Type 0
  AreTakenAgain journal [] desk (Ok done) = desk.1 ≡ desk.0
  AreTakenAgain journal [] desk (Err fault) = ⊥
  AreTakenAgain journal (text ∷ texts) desk result =
      ((between : D) × (it : Replayed) × IsReplayed zone parts desk.0 between text it
      × NothingIsLost (parts desk.0).transcript (parts between).transcript × AreTakenAgain (journal + 1) texts (between, desk.1) result)
      ⊎ ((why : ReplayFault) × IsEnded zone parts desk.0 desk.1 text why × (result ≡ Err (journal_fault journal why)))

-- the same over a desk that begins with a lane, which is the same end still
pub record AreTakenThrough (zone : TimeZone) (texts : List (List ℕ)) (before after : LaneParts) (result : Result ⊤ ServeFault) : Type 0 where
  pub desk : LaneDeskParts
  pub lane : after ≡ desk.lane
  pub same : IsSameLane before after
  pub taken : AreTakenAgain zone desk_parts 0 texts (record { began = before; lane = before; waiting = [] }, desk) result

-- whether one of these could not keep something
abbrev pub is_one_stuck : List GateParts → Bool
is_one_stuck gates = list_any (λ (g : GateParts). g.stuck) gates

-- what is told of a service: that something could not be kept comes before all else
abbrev pub told_with : Bool → Result Bool ServeFault → Result Bool ServeFault
told_with true told = Err Journal
told_with false told = told
