-- An office: its workers as they were when their threads began, and what stands when they have ended.
use Rattle.std.specs.Prelude.{◌≡◌, Bool, List, All, length, map}
use Rattle.std.specs.FinMap.{empty}
use Rattle.std.specs.List.{AllZip}
use Rattle.pay_shard.specs.declared.item.Entry.{Entry}
use Rattle.pay_shard.specs.declared.item.Item.{Item}
use Rattle.pay_lanes.specs.Words.{LaneParts, WorkerParts, IsSameWorker, arrived, sent_by, AreKnown, IsAnswered, AreJournalsFrom, IsRight, Passed, HavePassed}
use Rattle.pay_lanes.specs.declared.opening.OpenLanesFault.{OpenLanesFault}
use Rattle.pay_lanes.specs.declared.opening.OpenLanesFault.TheVariants as opening
use Rattle.pay_office.specs.declared.office.StartFault.{StartFault}
use Rattle.pay_office.specs.declared.office.StartFault.TheVariants.{Count, NoThread, Memory}
use Rattle.pay_office.specs.declared.work.BeginFault.{BeginFault}
use Rattle.pay_office.specs.declared.work.BeginFault.TheVariants as beginning

-- why no office begins whose queues were not opened
abbrev pub start_fault : OpenLanesFault → StartFault
start_fault opening.Count = Count
start_fault opening.Memory = Memory

-- why no office begins where the thread of a worker does not
abbrev pub begun_fault : BeginFault → StartFault
begun_fault beginning.NoThread = NoThread
begun_fault beginning.Memory = Memory

-- a worker of a shard that began without accounts
abbrev pub IsFromNone : WorkerParts → Type 0
IsFromNone w = w.shard.base ≡ empty

-- With the workers as they are at the end: these journals are theirs, and these entries were left.
pub record IsEndOf (workers : List WorkerParts) (lanes : List LaneParts) (journals : List (List Item)) (left : List (List Entry)) : Type 0 where
  pub journals_are : journals ≡ map (λ (w : WorkerParts). w.shard.journal) workers
  pub many : length left ≡ length workers
  -- what each lane sent to a shard stands in its journal or is left there, in order, and each entry once
  pub sent : All (λ l. arrived l.number workers left ≡ sent_by l) lanes
  -- of a lane that was not opened there is nothing
  pub known : AreKnown workers left
  -- what each lane took from a shard is the first of what the run of its journal answers at the lane's items
  pub answered : All (λ l. All (IsAnswered l) workers) lanes
  -- what stands in a journal was asked of its shard, and is marked rightly
  pub asked : AreJournalsFrom (length workers) 0 journals
  pub right : All IsRight workers

-- An office of these workers has ended with these lanes: each worker is the same end still, over a shard that began as it did, without accounts.
pub record HasEnded (office : List WorkerParts) (lanes : List LaneParts) (journals : List (List Item)) (left : List (List Entry)) : Type 0 where
  pub workers : List WorkerParts
  pub same : AllZip IsSameWorker office workers
  pub from_none : All IsFromNone workers
  pub ends : IsEndOf workers lanes journals left

-- An office of these workers has ended with these lanes and these gates: each holds what it let pass of what its journal's run answers, and what each
-- lane took is the first of that.
pub record HaveLetPass {G : Type 0} (Holds : G → List Passed → Bool → Type 0) (office : List WorkerParts) (lanes : List LaneParts) (journals : List (List Item)) (gates : List G) : Type 0 where
  pub workers : List WorkerParts
  pub same : AllZip IsSameWorker office workers
  pub journals_are : journals ≡ map (λ (w : WorkerParts). w.shard.journal) workers
  pub passed : HavePassed Holds lanes workers gates
