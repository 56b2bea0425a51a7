-- How the job run ends: by the texts of its fare file, its zone and its journal, over the ledger that was opened for it.
use Rattle.std.specs.Prelude.{◌≡◌, ◌⊎◌, ℕ, List, Result, Ok, Err, Option, None, IfSome}
use Rattle.std.specs.Arc.{arc_value}
use Rattle.std.specs.FinMap as map
use Rattle.jiff.specs.Placed.{IsPosixZone}
use Rattle.jiff.specs.ZoneView.{plain_zone}
use Rattle.jiff.specs.Words.{read_whole}
use Rattle.sqlite.specs.Held.{Held, state}
use Rattle.sqlite.specs.State.{HasCleanDisk}
use Rattle.sqlite.specs.Store.{Ghosts}
use Rattle.pay_tables.specs.Words.{FareEditions}
use Rattle.pay_fare_file.specs.Words.{fare_text, fault_number, fault_name}
use Rattle.pay_fare_file.specs.declared.fault.FareFileFault.{FareFileFault}
use Rattle.pay_jobs.specs.Faults.{IsRefusal, IsWantOfMemory}
use Rattle.pay_postings.specs.Words.{LedgerParts, AgreesWith}
use Rattle.pay_shard.specs.Words.{ShardParts}
use Rattle.pay_session.specs.Words.{line_requests}
use Rattle.pay_wire.specs.declared.refusal.Refusal.{Refusal}
use Rattle.pay_run.specs.Words.{Machine, GivesBack, Before, After, Known, EndsRun, FailsRun, StopsAt, IsReplayOf}
use Rattle.pay_jobs.specs.Taken.{IsNotTakenWith}
use Rattle.pay_jobs.specs.Texts.{Texts}
use Rattle.pay_jobs.specs.declared.begun.Begun.{Begun}
use Rattle.pay_jobs.specs.declared.begun.FaresAndZone.{FaresAndZone}
use Rattle.pay_jobs.specs.declared.fault.Fault.{Fault}
use Rattle.pay_jobs.specs.declared.fault.Fault.TheVariants.{BadZone, JournalLine, Refused}
use Rattle.pay_session.specs.declared.sessions.Done.{Done}
use Rattle.pay_session.specs.declared.stop.SessionFault.{SessionFault}

-- ---- the machine with which a session begins

-- A machine that has accepted nothing, with the fare file that the first text says, and the zone of the second, a POSIX rule; and with this ledger, or with none.
pub record Begins (fares zone : List ℕ) (ledger : Option LedgerParts) (m : Machine) : Type 0 where
  pub says : fare_text fares ≡ Ok m.editions
  pub rule : IsPosixZone zone (plain_zone m.zone)
  pub new : m.accounts ≡ map.empty
  pub posted : m.ledger ≡ ledger

-- Such a machine which has, besides, what the whole lines of the journal give back.
pub record Resumes (texts : Texts) (ledger : Option LedgerParts) (m : Machine) : Type 0 where
  pub says : fare_text texts.fares ≡ Ok m.editions
  pub rule : IsPosixZone texts.zone (plain_zone m.zone)
  pub gives_back : GivesBack m.zone m.editions (line_requests texts.past) m
  pub posted : m.ledger ≡ ledger

-- ---- the first step: texts are read

-- a fare file and a zone, by their texts
pub record AreRead (fares zone : List ℕ) (read : FaresAndZone) : Type 0 where
  pub says : fare_text fares ≡ Ok (arc_value read.editions)
  pub rule : IsPosixZone zone (plain_zone read.zone)

-- A zone, and a desk that has what the whole lines of the journal give back, with how much of it was taken.
pub record HasBegun (texts : Texts) (begun : Begun) : Type 0 where
  pub editions : FareEditions
  pub says : fare_text texts.fares ≡ Ok editions
  pub rule : IsPosixZone texts.zone (plain_zone begun.zone)
  pub replay : IsReplayOf begun.zone editions texts.past begun.desk.shard begun.replayed

-- a refusal of the fare file, or want of memory
abbrev pub IsRefused : Fault → List ℕ → Type 0
IsRefused fault fares = IsWantOfMemory fault ⊎ ((why : FareFileFault) × (fare_text fares ≡ Err why) × IsRefusal fault (fault_number why) (fault_name why))

-- a fare file that is read, and a zone that is no POSIX rule
abbrev pub IsBadZone : List ℕ → List ℕ → Type 0
IsBadZone fares zone = (editions : FareEditions) × (fare_text fares ≡ Ok editions) × (read_whole zone ≡ None)

-- why the two are not read: the fare file, or, if that is read, the zone
abbrev pub AreNotRead : List ℕ → List ℕ → Fault → Type 0
AreNotRead fares zone fault = IsRefused fault fares ⊎ ((fault ≡ BadZone) × IsBadZone fares zone)

-- a fare file and a zone that are read, and a line of the journal that is not accepted
abbrev pub IsNotAccepted : Texts → ℕ → Refusal → Type 0
IsNotAccepted texts line why = (machine : Machine) × Begins texts.fares texts.zone None machine × StopsAt machine (line_requests texts.past) line why

-- why there is no such desk, by the fault
abbrev pub IsNotBegun : Texts → Fault → Type 0
IsNotBegun texts (Refused number name) = IsRefused (Refused number name) texts.fares
IsNotBegun texts BadZone = IsBadZone texts.fares texts.zone
IsNotBegun texts (JournalLine line why) = IsNotAccepted texts line why
IsNotBegun texts _ = ⊥

-- ---- the second step: a session is held

module _ {K L R W : Type 0} (known : Known K L R W) (texts : Texts) where
  -- The session of such a machine, over the ledger that was found, which agrees with what the journal gives back: it ended by itself, or not.
  pub record RanOver (found : Option LedgerParts) (before : Before K L R W) (after : After L R W) (ended : Result Done SessionFault) : Type 0 where
    pub machine : Machine
    pub resumes : Resumes texts found machine
    pub agrees : IfSome (known.remaining before.reader) (λ _. IfSome found (AgreesWith machine.editions machine.accounts))
    pub ends : EndsRun known machine before after ended
    pub fails : FailsRun known machine before after ended

  -- A session was held over a ledger that was opened, whatever this was found to be.
  pub record JobRan (before : Before K L R W) (after : After L R W) (ended : Result Done SessionFault) : Type 0 where
    pub sound : known.IsSound after.ledger → IfSome (known.remaining before.reader) (λ _. known.IsSound before.ledger)
    pub over : known.IsSound after.ledger → (found : Option LedgerParts) → known.IsFound before.ledger found → RanOver found before after ended

-- That is so for the texts by which it had begun.
abbrev pub HasRun : {K L R W : Type 0} → Known K L R W → Begun → Before K L R W → After L R W → Result Done SessionFault → Type 0
HasRun known begun before after ended = (texts : Texts) → HasBegun texts begun → JobRan known texts before after ended

-- From the ledger that was opened to what it is then: it is not taken with what the journal gives back.
pub record IsNotRun {S : Type 0} (store : Ghosts S) (shard : ShardParts) (opened last : Held S) (fault : Fault) : Type 0 where
  pub clean : HasCleanDisk (state store last) → HasCleanDisk (state store opened)
  pub why : IsNotTakenWith store opened last shard fault

-- why no session was held over the ledger, for the texts by which it had begun
abbrev pub HasNotRun : {S : Type 0} → Ghosts S → Begun → Held S → Held S → Fault → Type 0
HasNotRun store begun opened last fault = (texts : Texts) → HasBegun texts begun → IsNotRun store begun.desk.shard opened last fault
