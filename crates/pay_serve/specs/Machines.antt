-- A close over all shards of an office as the close of one machine over all accounts.
use Rattle.std.specs.Prelude.{◌≡◌, ◌≤◌, ◌<◌, ℕ, suc, Bool, List, [], ◌∷◌, ◌++◌, All, length, Option, Some, slice_get, ⊤}
use Rattle.std.specs.FinMap.{empty}
use Rattle.std.specs.List.{range_with_len}
use mathlib.Core.List.{IsPrefix}
use Rattle.pay_tables.specs.Words.{FareEditions}
use Rattle.pay_postings.specs.Words.{LedgerParts}
use Rattle.pay_shard.specs.Words.{replay, items_of, all_items, AreAskedOf, NothingIsLost}
use Rattle.pay_shard.specs.declared.item.Entry.{Entry}
use Rattle.pay_shard.specs.declared.item.Item.{Item}
use Rattle.pay_shard.specs.declared.reply.Answer.{Answer}
use Rattle.pay_lanes.specs.Words.{LaneParts, WorkerParts, shard_numbers, AreTogether, Passed}
use Rattle.pay_office.specs.Words.{HasEnded, HaveLetPass, answer_to}
use Rattle.pay_till.specs.Words.{Taken, AreQuotes, AreAnswered}
use Rattle.pay_close.specs.Words.{IsWhole, posted_of, close}

-- of the shards from one on, each has a front of its worker's journal
abbrev pub AreFronts : (ℕ → List Item) → ℕ → List WorkerParts → Type 0
AreFronts front shard [] = ⊤
AreFronts front shard (w ∷ workers) = IsPrefix (front shard) w.shard.journal × AreFronts front (suc shard) workers

-- What was put for a close was answered by these workers, each after a front of its journal. What is posted by that is what one machine
-- without accounts posts, once it was asked all of these fronts, in any order that keeps that of each.
pub record IsOneClose (fares : FareEditions) (day : ℕ) (workers : List WorkerParts) (put : List Taken) : Type 0 where
  pub front : ℕ → List Item
  pub fronts : AreFronts front 0 workers
  pub closed : (ledger : LedgerParts) (merged : List (ℕ × Item)) → AreAskedOf (length workers) merged
      → ((shard : ℕ) → shard < length workers → items_of shard merged ≡ front shard)
      → posted_of ledger put ≡ close fares (record { state = replay fares empty (all_items merged); ledger = ledger }) day

-- After a front of its journal stands in a worker's journal the entry of this lane by which it was asked this.
pub record IsAskedAfter (front : List Item) (lane : ℕ) (w : WorkerParts) (t : Taken) : Type 0 where
  pub item : Item
  pub later : List Item
  pub journal : w.shard.journal ≡ front ++ item ∷ later
  pub own : item.entry.lane ≡ lane
  pub ticket : item.entry.ticket ≡ t.ticket
  pub command : item.entry.command ≡ t.asked

-- of the shards from one on, each was asked after its front what was put to it
abbrev pub AreAskedAfter : (ℕ → List Item) → ℕ → ℕ → List WorkerParts → List Taken → Type 0
AreAskedAfter front lane shard [] put = ⊤
AreAskedAfter front lane shard (w ∷ workers) [] = ⊥
AreAskedAfter front lane shard (w ∷ workers) (t ∷ put) = IsAskedAfter (front shard) lane w t × AreAskedAfter front lane (suc shard) workers put

-- What was put for a close over this lane came to the close of one machine: by what stands in each journal before the lane's own entry there.
pub record IsOneCloseOf (fares : FareEditions) (day lane : ℕ) (workers : List WorkerParts) (put : List Taken) : Type 0 where
  pub one : IsOneClose fares day workers put
  pub asked : AreAskedAfter one.front lane 0 workers put

-- an office of shards without accounts, which price by this fare file
pub record IsNewOffice (fares : FareEditions) (office : List WorkerParts) : Type 0 where
  pub some : 1 ≤ length office
  pub numbers : shard_numbers office ≡ range_with_len 0 (length office)
  pub editions : All (λ (w : WorkerParts). w.shard.editions ≡ fares) office
  pub bases : All (λ (w : WorkerParts). w.shard.base ≡ empty) office

-- an office has ended with these lanes, by some journals and what was left
abbrev pub IsOver : List WorkerParts → List LaneParts → Type 0
IsOver office lanes = (journals : List (List Item)) × (left : List (List Entry)) × HasEnded office lanes journals left

-- and with these gates, which hold what they let pass of it
abbrev pub IsOverWith : {G : Type 0} → (G → List Passed → Bool → Type 0) → List WorkerParts → List LaneParts → List G → Type 0
IsOverWith Holds office lanes gates = (over : IsOver office lanes) × HaveLetPass Holds office lanes over.0 gates

-- An office has ended, and if it was new, and all its shards gave their quotes for a close, that was the close of one machine.
pub record IsOverAsOne (office : List WorkerParts) (lanes : List LaneParts) (day shards : ℕ) (put : List Taken) : Type 0 where
  pub over : IsOver office lanes
  pub one : (fares : FareEditions) → IsNewOffice fares office → IsWhole shards put → IsOneClose fares day over.2.workers put

-- A close over any lane of a new office, while the other lanes sent whatever they did, is the close of one machine, if all shards gave their quotes for
-- it: so it turns out once the office has ended. Of the lane no answer was lost since the close.
abbrev pub ClosesAreOne : Type 0
ClosesAreOne = (fares : FareEditions) (office : List WorkerParts) (lanes : List LaneParts) (l : LaneParts) (place day : ℕ) (put : List Taken) (transcript : ℕ → Option Answer)
    → IsNewOffice fares office → AreTogether office lanes → slice_get lanes place ≡ Some l
    → AreQuotes day (length l.shards) 0 put → AreAnswered transcript put → IsWhole (length l.shards) put → NothingIsLost transcript (λ ticket. answer_to ticket l.answers.got)
    → (over : IsOver office lanes) → IsOneCloseOf fares day l.number over.2.workers put
