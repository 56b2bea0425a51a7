-- What journals give back, beside what is kept with them.
use Rattle.std.specs.Prelude.{◌⊎◌, ℕ, List}
use Rattle.jiff.specs.declared.tz.timezone.TimeZone.{TimeZone}
use Rattle.pay_tables.specs.Words.{FareEditions}
use Rattle.pay_shard.specs.Words.{ShardParts, LocalParts}
use Rattle.pay_kept.specs.Words.{IsAsKept, IsNotAsKept}
use Rattle.pay_kept.specs.declared.fault.KeptFault.{KeptFault}
use Rattle.pay_run.specs.Words.{HasReplayed}
use Rattle.pay_jobs.specs.Faults.{IsKeptFault, IsWantOfMemory}
use Rattle.pay_jobs.specs.Replays.{IsStoppedAmong, all_requests}
use Rattle.pay_jobs.specs.declared.fault.Fault.{Fault}

-- why the accounts of a shard do not come to the same by what is kept
abbrev pub IsOtherThanKept : (kept zone : List ℕ) → ShardParts → Fault → Type 0
IsOtherThanKept kept zone shard fault = (why : KeptFault) × IsKeptFault why fault × IsNotAsKept kept zone shard why

-- By a fare file, a zone, the texts of journals, and the text of the zone.
module _ (editions : FareEditions) (zone : TimeZone) (texts : List (List ℕ)) (zone_text kept : List ℕ) where
  -- the accounts that the journals give back come to the same by what is kept
  pub record AreAsKept : Type 0 where
    pub desk : LocalParts
    pub replayed : HasReplayed zone editions desk (all_requests texts)
    pub alike : IsAsKept kept zone_text desk.shard

  -- accounts that they give back do not
  pub record DifferFromKept (fault : Fault) : Type 0 where
    pub desk : LocalParts
    pub replayed : HasReplayed zone editions desk (all_requests texts)
    pub why : IsOtherThanKept kept zone_text desk.shard fault

  -- that, or a line of a journal is not accepted, or memory was wanting
  abbrev pub AreOtherThanKept : Fault → Type 0
  AreOtherThanKept fault = DifferFromKept fault ⊎ (IsStoppedAmong zone editions texts 0 fault ⊎ IsWantOfMemory fault)
