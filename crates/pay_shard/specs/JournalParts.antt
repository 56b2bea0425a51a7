-- What a journal keeps: items, of which the last ones stand in blocks that are filled one after another.
use Rattle.std.specs.Prelude.{◌≡◌, ℕ, ◌+◌, ◌-◌, ◌*◌, ◌^◌, ◌<◌, min, List, [], ◌∷◌, ◌++◌, length, refl}
use Rattle.std.specs.Coded.{Coded, code_by, coded×, coded_ℕ, coded_list}
use Rattle.pay_shard.specs.contracts.item.Item as item
use Rattle.pay_shard.specs.declared.limits.TheConstants.{BLOCK_ITEMS}
use Rattle.pay_shard.specs.declared.item.Item.{Item}
use Rattle.pay_shard.specs.declared.past.Past.{Past, fold-Past}
use Rattle.pay_shard.specs.declared.past.Past.TheOpen.{Past-F}

-- how many of the first items a journal has forgotten, and for how many more it has room that takes no memory
pub record JournalMemory : Type 0 where
  pub forgotten : ℕ
  pub room : ℕ

-- all items, and what of them is in memory
pub record JournalParts : Type 0 where
  pub items : List Item
  pub memory : JournalMemory

abbrev pub journal_memory_code : Coded JournalMemory
journal_memory_code = code_by (ℕ × ℕ) (coded× coded_ℕ coded_ℕ) (λ m. (m.forgotten, m.room)) (λ p. record { forgotten = p.0; room = p.1 }) (λ _. refl)

abbrev pub journal_code : Coded JournalParts
journal_code = code_by (List Item × JournalMemory) (coded× (coded_list item.the_row.coded) journal_memory_code) (λ j. (j.items, j.memory)) (λ p. record { items = p.0; memory = p.1 }) (λ _. refl)

-- the items of blocks, one block after another
abbrev pub all_in : List (List Item) → List Item
all_in [] = []
all_in (block ∷ blocks) = block ++ all_in blocks

-- the items that were forgotten: those of the past before, and then those of the blocks
abbrev pub past_step : Past-F (List Item) → List Item
past_step Past-F.None = []
past_step (Past-F.Then earlier blocks) = earlier.value ++ all_in blocks.value.items

abbrev pub all_past : Past → List Item
all_past = fold-Past (List Item) past_step

-- so many items fill the blocks one after another
abbrev pub AreFilled : ℕ → List (List Item) → Type 0
AreFilled many [] = many ≡ 0
AreFilled many (block ∷ blocks) = (length block ≡ min many BLOCK_ITEMS) × AreFilled (many - BLOCK_ITEMS) blocks

-- and with those before them the blocks take no more items than a number of 64 bits counts
pub record AreBlocks (before many : ℕ) (blocks : List (List Item)) : Type 0 where
  pub filled : AreFilled many blocks
  pub few : before + BLOCK_ITEMS * length blocks < 2 ^ 64
