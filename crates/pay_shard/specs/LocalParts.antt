-- What a desk over one shard keeps.
use Rattle.std.specs.Prelude.{◌≡◌, ℕ, ◌+◌, ◌<◌, ◌==◌, Bool, cond, length, List, [], ◌∷◌, map, Option, Some, ⊤, refl}
use Rattle.std.specs.Coded.{Coded, code_by, coded×, coded_ℕ, coded_list}
use Rattle.std.specs.List.{AllByRecursion, IsDistinct, slice_get}
use Rattle.pay_tables.specs.Words.{FareEditions}
use Rattle.pay_rules.specs.State.{State}
use Rattle.pay_shard.specs.Desks.{DeskParts}
use Rattle.pay_shard.specs.ShardParts.{ShardParts, shard_code, answers_given, next_answer, with_item, IsKeptBy}
use Rattle.pay_shard.specs.declared.asked.Asked.{Asked}
use Rattle.pay_shard.specs.declared.desk.DeskFault.TheVariants.{Memory}
use Rattle.pay_shard.specs.declared.item.Item.{Item}
use Rattle.pay_shard.specs.declared.reply.Answer.{Answer}

pub record LocalParts : Type 0 where
  pub shard : ShardParts
  -- the tickets of the replies that were not asked for yet
  pub waiting : List ℕ

-- it is stored as the pair of the two
abbrev pub local_code : Coded LocalParts
local_code = code_by (ShardParts × List ℕ) (coded× shard_code (coded_list coded_ℕ)) (λ l. (l.shard, l.waiting)) (λ p. record { shard = p.0; waiting = p.1 }) (λ _. refl)

-- the commands of a journal, each with its ticket
abbrev pub commands_of : List Item → List (ℕ × Asked)
commands_of items = map (λ (i : Item). (i.entry.ticket, i.entry.command)) items

-- the answer to a ticket, which is a place of the shard's journal
abbrev pub transcript_of : ShardParts → ℕ → Option Answer
transcript_of s ticket = slice_get (answers_given s) ticket

-- Such a desk began with a fare file and accounts. It refuses for want of memory alone, and no reply of it is late.
abbrev pub desk_parts : LocalParts → DeskParts (FareEditions × State)
desk_parts d = record {
  standing = record { origin = (d.shard.editions, d.shard.base); shards = 1; waiting = d.waiting };
  taken = commands_of d.shard.journal;
  transcript = transcript_of d.shard;
  MayRefuse = λ fault. fault ≡ Memory;
  MayBeLate = ⊥;
}

-- each entry is of lane 0, and its ticket is its place, from a place on
abbrev pub AreInPlace : ℕ → List Item → Type 0
AreInPlace place [] = ⊤
AreInPlace place (item ∷ items) = ((item.entry.lane ≡ 0) × (item.entry.ticket ≡ place)) × AreInPlace (place + 1) items

-- each ticket is below a place
abbrev pub AreBelow : ℕ → List ℕ → Type 0
AreBelow place tickets = AllByRecursion (λ t. t < place) tickets

-- A command was taken: it is one item more, whose place is the ticket, and the answer to the ticket is the next one.
pub record IsTaken (ticket : ℕ) (command : Asked) (before after : ShardParts) : Type 0 where
  pub item : Item
  pub is_entry : item.entry ≡ record { lane = 0; ticket = ticket; command = command }
  pub is_next : ticket ≡ length before.journal
  pub added : after ≡ with_item before item after.memory
  pub answered : transcript_of after ticket ≡ Some (next_answer before item)

-- the tickets of answers
abbrev pub tickets_of : List Answer → List ℕ
tickets_of answers = map (λ (a : Answer). a.ticket) answers

-- no ticket stands twice
abbrev pub AreDistinct : List ℕ → Type 0
AreDistinct tickets = IsDistinct (λ x y. y == x) tickets

-- each answer is that of the run
abbrev pub AreOfRun : ShardParts → List Answer → Type 0
AreOfRun s answers = AllByRecursion (λ (a : Answer). transcript_of s a.ticket ≡ Some a) answers

-- answers without the first to a ticket
abbrev pub answers_without : ℕ → List Answer → List Answer
answers_without ticket [] = []
answers_without ticket (answer ∷ answers) = cond (answer.ticket == ticket) answers (answer ∷ answers_without ticket answers)

-- what such a desk may keep: a shard of number 0 with all of its journal in memory, or no more than a block, and answers to some of its tickets
abbrev pub IsLocal : Bool → ShardParts → List Answer → Type 0
IsLocal forgets s answers = ((s.number ≡ 0) × IsKeptBy forgets s × AreInPlace 0 s.journal) × (AreOfRun s answers × AreDistinct (tickets_of answers))
