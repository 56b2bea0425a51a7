-- What a shard keeps.
use Rattle.std.specs.Prelude.{◌≡◌, ℕ, ◌+◌, ◌≤◌, List, ◌∷◌, [], ◌++◌, length, Bool, true, false, refl}
use Rattle.std.specs.Coded.{Coded, code_by, coded×, coded_ℕ, coded_list}
use Rattle.pay_tables.specs.EditionCodes.{fare_editions_code}
use Rattle.pay_tables.specs.Words.{FareEditions}
use Rattle.pay_rules.specs.State.{State, state_code}
use Rattle.pay_shard.specs.Runs.{replay, answer_at, answers}
use Rattle.pay_shard.specs.JournalParts.{JournalMemory, journal_memory_code}
use Rattle.pay_shard.specs.contracts.item.Item as item
use Rattle.pay_shard.specs.declared.limits.TheConstants.{BLOCK_ITEMS}
use Rattle.pay_shard.specs.declared.item.Item.{Item}
use Rattle.pay_shard.specs.declared.item.Entry.{Entry}
use Rattle.pay_shard.specs.declared.reply.Answer.{Answer}

pub record ShardParts : Type 0 where
  -- its number
  pub number : ℕ
  -- the fare file
  pub editions : FareEditions
  -- what the accounts had accepted when the journal began
  pub base : State
  pub journal : List Item
  -- what of the journal is in memory
  pub memory : JournalMemory

-- it is stored as the tuple of these
abbrev pub shard_code : Coded ShardParts
shard_code =
    code_by (ℕ × (FareEditions × (State × (List Item × JournalMemory)))) (coded× coded_ℕ (coded× fare_editions_code (coded× state_code (coded× (coded_list item.the_row.coded) journal_memory_code))))
    (λ s. (s.number, (s.editions, (s.base, (s.journal, s.memory))))) (λ p. record { number = p.0; editions = p.1.0; base = p.1.1.0; journal = p.1.1.1.0; memory = p.1.1.1.1 }) (λ _. refl)

-- what the accounts have accepted: the replay of the journal
abbrev pub state_now : ShardParts → State
state_now s = replay s.editions s.base s.journal

-- all answers that it has given
abbrev pub answers_given : ShardParts → List Answer
answers_given s = answers s.number s.editions s.base s.journal

-- the answer to an item that is the next of its journal
abbrev pub next_answer : ShardParts → Item → Answer
next_answer s item = answer_at s.number (length s.journal) s.editions (state_now s) item

-- an entry as an item
abbrev pub item_of : Entry → Bool → Item
item_of entry refused_memory = record { entry = entry; refused_memory = refused_memory }

-- it with more items, and with this in memory
abbrev pub with_items : ShardParts → List Item → JournalMemory → ShardParts
with_items s items memory = record { number = s.number; editions = s.editions; base = s.base; journal = s.journal ++ items; memory = memory }

-- with one more
abbrev pub with_item : ShardParts → Item → JournalMemory → ShardParts
with_item s item memory = record { number = s.number; editions = s.editions; base = s.base; journal = s.journal ++ item ∷ []; memory = memory }

-- and with this in memory alone
abbrev pub with_memory : ShardParts → JournalMemory → ShardParts
with_memory s memory = record { number = s.number; editions = s.editions; base = s.base; journal = s.journal; memory = memory }

-- what it has of its journal in memory: all items, where it forgets none; else no more than a block of them, with the room for others
abbrev pub IsKeptBy : Bool → ShardParts → Type 0
IsKeptBy false s = s.memory.forgotten ≡ 0
IsKeptBy true s = length s.journal + s.memory.room ≤ s.memory.forgotten + BLOCK_ITEMS
