-- A list in blocks, as callers see it and as its blocks see themselves.
use Rattle.std.specs.Prelude.{ℕ, ◌-◌, List, Option, None, Some, length, min, refl}
use Rattle.std.specs.Coded.{Coded, code_by, coded×, coded_ℕ, coded_list}
use Rattle.pay_blocks.specs.declared.limits.TheConstants.{MOST}

-- the items in order, and for how many more there is room that takes no memory
pub record BlocksParts (X : Type 0) : Type 0 where
  pub items : List X
  pub room : ℕ

abbrev pub blocks_code : {X : Type 0} → Coded X → Coded (BlocksParts X)
blocks_code {X} code = code_by (List X × ℕ) (coded× (coded_list code) coded_ℕ) (λ b. (b.items, b.room)) (λ p. record { items = p.0; room = p.1 }) (λ _. refl)

-- a few items in one piece, which takes no more than a block, unless there are blocks
abbrev pub parts_of : {X : Type 0} → List X → ℕ → Option (BlocksParts X) → BlocksParts X
parts_of few capacity None = record { items = few; room = min capacity MOST - length few }
parts_of few capacity (Some many) = many

-- a block: the place of its first item in the list, its items, and how many it may have in its memory
pub record BlockParts (X : Type 0) : Type 0 where
  pub start : ℕ
  pub items : List X
  pub capacity : ℕ

abbrev pub block_code : {X : Type 0} → Coded X → Coded (BlockParts X)
block_code {X} code = code_by (ℕ × (List X × ℕ)) (coded× coded_ℕ (coded× (coded_list code) coded_ℕ)) (λ b. (b.start, (b.items, b.capacity))) (λ p. record { start = p.0; items = p.1.0; capacity = p.1.1 }) (λ _. refl)
