-- How blocks lie one after another.
use Rattle.std.specs.Prelude.{◌≡◌, ℕ, ◌+◌, ◌-◌, ◌^◌, ◌<◌, ◌≤◌, Bool, false, Option, Some, List, [], ◌∷◌, ◌++◌, length, slice_get, slice_set, slice_index_or}
use Rattle.std.specs.List.{flat_map, insert, remove}
use Rattle.std.specs.Option.{option_to_list}
use Rattle.pay_blocks.specs.declared.limits.TheConstants.{MOST}
use Rattle.pay_blocks.specs.Parts.{BlockParts}

-- the items of blocks, one block after another
abbrev pub joined : {X : Type 0} → List (BlockParts X) → List X
joined = flat_map (λ block. block.items)

-- blocks that lie one after another from a place on, none of them empty or too long, each with memory for as many as a block may have
abbrev pub AreLaid : {X : Type 0} → ℕ → List (BlockParts X) → Type 0
AreLaid start [] = Unit {0}
AreLaid start (block ∷ blocks) =
    (block.start ≡ start) × (1 ≤ length block.items) × (length block.items ≤ MOST) × (MOST ≤ block.capacity) × AreLaid (start + length block.items) blocks

-- a block that begins one place later
abbrev pub raised : {X : Type 0} → BlockParts X → BlockParts X
raised block = record { start = block.start + 1; items = block.items; capacity = block.capacity }

-- and one place earlier
abbrev pub lowered : {X : Type 0} → BlockParts X → BlockParts X
lowered block = record { start = block.start - 1; items = block.items; capacity = block.capacity }

-- whether there is a first item, and it meets a test
abbrev pub begins : {X : Type 0} → (X → Bool) → List X → Bool
begins p [] = false
begins p (x ∷ xs) = p x

-- a block once one more is put in, and what is split off where it was full: that lies after it
pub record IsPut {X : Type 0} (old : BlockParts X) (offset : ℕ) (item : X) (new : BlockParts X) (next : Option (BlockParts X)) : Type 0 where
  pub start : new.start ≡ old.start
  pub items : new.items ++ joined (option_to_list next) ≡ insert old.items offset item
  pub some : 1 ≤ length new.items
  pub few : length new.items ≤ MOST
  pub capacity : old.capacity ≤ new.capacity
  pub beyond : AreLaid (new.start + length new.items) (option_to_list next)
  pub full : 1 ≤ length (option_to_list next) → MOST ≤ length old.items

-- memory is there for one more, wherever it comes: for a short list in the first block, and else for a block more
pub record IsReady {X : Type 0} (first : BlockParts X) (later : List (BlockParts X)) (count spare blocks : ℕ) : Type 0 where
  pub counts : count < 2 ^ 64 - 1
  pub short : length first.items < MOST → length first.items < first.capacity
  pub full : MOST ≤ length first.items → (MOST ≤ spare) × (length later < blocks)
  pub long : 1 ≤ length later → (MOST ≤ spare) × (length later < blocks)

-- the first block, and the later ones after it; how many items there are; for how many more there is room
pub record AreBlocks {X : Type 0} (first : BlockParts X) (later : List (BlockParts X)) (count room : ℕ) (spare : List X) (spare_capacity blocks : ℕ) : Type 0 where
  pub start : first.start ≡ 0
  pub few : length first.items ≤ MOST
  pub laid : AreLaid (length first.items) later
  pub counted : count ≡ length first.items + length (joined later)
  pub fits : count < 2 ^ 64
  pub unused : spare ≡ []
  pub ready : 1 ≤ room → IsReady first later count spare_capacity blocks

-- blocks, once an item was taken out of one of them: that one has all others, where it had them
abbrev pub IsTakenFrom : {X : Type 0} → List (BlockParts X) → List (BlockParts X) → ℕ → ℕ → X → Type 0
IsTakenFrom {X} before after at place item =
    (old new : BlockParts X) × (old ≡ slice_index_or before at old) × (slice_get old.items (place - old.start) ≡ Some item) × (new.start ≡ old.start)
    × (new.items ≡ remove old.items (place - old.start)) × (new.capacity ≡ old.capacity) × (after ≡ slice_set before at new)
