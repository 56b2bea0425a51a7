-- What the gate of a shard has kept, by the items of the shard's journal.
use Rattle.std.specs.Prelude.{◌≡◌, ℕ, Bool, true, false, List, [], ◌∷◌, ◌++◌, All, zip, Option}
use Rattle.std.specs.Io.KnownBytes.{Appends}
use Rattle.pay_tables.specs.Words.{FareEditions}
use Rattle.pay_rules.specs.State.{State}
use Rattle.pay_shard.specs.Words.{answers, new_items}
use Rattle.pay_shard.specs.declared.item.Item.{Item}
use Rattle.pay_journal.specs.Words.{lines_of_items, IsRest}
use Rattle.pay_lanes.specs.Words.{LaneParts, WorkerParts, Passed, entries_of, IsFirstOf, HasPassed}
use Rattle.pay_serve.specs.Keeping.{kept_lines, of_others}
use Rattle.pay_serve.specs.KeepingGates.{GateParts, HoldsPassed}

-- all items of a journal; or where the shard takes nothing more, all but the last one
abbrev pub IsAllOrButLast : Bool → List Item → List Item → Type 0
IsAllOrButLast false items journal = items ≡ journal
IsAllOrButLast true items journal = (last : Item) × (journal ≡ items ++ last ∷ [])

-- the entries of some items of a worker's journal, each with what the run answers
abbrev pub answered_of : WorkerParts → List Item → List Passed
answered_of w items = zip (entries_of items) (answers w.shard.number w.shard.editions w.shard.base items)

-- With these lanes, a gate has kept the line of each newly accepted item of a worker's journal, but those of the spared lane, once and in
-- order. If the worker takes nothing more, that is so of all items but the last one, to which no lane had an answer; it takes nothing more
-- exactly if the gate is stuck.
pub record HasKept (lanes : List LaneParts) (w : WorkerParts) (g : GateParts) : Type 0 where
  pub is_stuck : g.stuck ≡ w.shut
  pub items : List Item
  pub are : IsAllOrButLast w.shut items w.shard.journal
  -- after the lines there is nothing, or where the gate is stuck, a front of one more
  pub rest : List ℕ
  pub bytes : Appends g.held_first g.holds (lines_of_items (of_others (new_items w.shard.editions w.shard.base items)) ++ rest)
  pub is_rest : IsRest g.stuck rest
  -- what each lane took are the first of the answers to these
  pub taken : All (IsFirstOf w.shard.number (answered_of w items)) lanes

-- a gate has kept no line; after what its keeper held there is nothing, or where it is stuck, a front of a line
abbrev pub HasKeptNone : GateParts → Type 0
HasKeptNone g = (rest : List ℕ) × Appends g.held_first g.holds rest × IsRest g.stuck rest

-- what a gate let pass it has kept
abbrev pub PassedAreKept : {K : Type 0} → (K → Option (List ℕ)) → (K → Type 0) → (K → Type 0) → Type 0
PassedAreKept {K = K} holds HasFailed IsSettled = (lanes : List LaneParts) (w : WorkerParts) (g : GateParts) → HasPassed (HoldsPassed holds HasFailed IsSettled g) lanes w → HasKept lanes w g

-- of what the run of a journal answers the lines of its newly accepted items are kept, but those of the spared lane, once and in order
abbrev pub KeptAreNew : Type 0
KeptAreNew = (shard : ℕ) (editions : FareEditions) (base : State) (items : List Item)
    → kept_lines (zip (entries_of items) (answers shard editions base items)) ≡ lines_of_items (of_others (new_items editions base items))
