-- What a desk is that keeps the line of each command that it accepts anew.
use Rattle.std.specs.Prelude.{◌≡◌, ◌⊎◌, ℕ, Bool, true, false, List, [], ◌++◌, length, take, Option, refl}
use Rattle.std.specs.Coded.{Coded, code_by, coded×, coded_ℕ, coded_bool, coded_list, coded_option}
use Rattle.std.specs.Io.KnownBytes.{Appends}
use Rattle.pay_tables.specs.Words.{FareEditions}
use Rattle.pay_rules.specs.State.{State}
use Rattle.pay_shard.specs.Words.{LocalParts, local_code, commands_of, transcript_of, AreInPlace, AreBelow, DeskParts, Standing, ShardParts, with_items, replay, new_items, IsHistory}
use Rattle.pay_shard.specs.contracts.item.Item as item
use Rattle.pay_shard.specs.declared.asked.Asked.{Asked}
use Rattle.pay_shard.specs.declared.desk.DeskFault.TheVariants.{Memory, NotKept}
use Rattle.pay_shard.specs.declared.item.Item.{Item}
use Rattle.pay_journal.specs.Lines.{line_of, lines_of_items}

pub record KeptParts : Type 0 where
  -- the desk over a shard, without what it accepted and could not keep
  pub seen : LocalParts
  -- the items of its journal when it began, and what its keeper held then
  pub first : List Item
  pub held_first : Option (List ℕ)
  -- what its keeper holds
  pub holds : Option (List ℕ)
  -- whether something could not be kept, so that nothing is taken any more
  pub stuck : Bool

-- it is stored as the tuple of these
abbrev pub kept_code : Coded KeptParts
kept_code =
    code_by (LocalParts × (List Item × (Option (List ℕ) × (Option (List ℕ) × Bool))))
    (coded× local_code (coded× (coded_list item.the_row.coded) (coded× (coded_option (coded_list coded_ℕ)) (coded× (coded_option (coded_list coded_ℕ)) coded_bool))))
    (λ k. (k.seen, (k.first, (k.held_first, (k.holds, k.stuck))))) (λ p. record { seen = p.0; first = p.1.0; held_first = p.1.1.0; holds = p.1.1.1.0; stuck = p.1.1.1.1 }) (λ _. refl)

-- what such a desk began with: a fare file, accounts, the items of a journal, and what its keeper held
pub record Beginning : Type 0 where
  pub editions : FareEditions
  pub base : State
  pub items : List Item
  pub holds : Option (List ℕ)

-- some keeper of a type may fail
abbrev pub CanFail : {K : Type 0} → (K → Type 0) → Type 0
CanFail {K = K} HasFailed = (keeper : K) × HasFailed keeper

-- how such a desk stands
abbrev pub standing_of : KeptParts → Standing Beginning
standing_of k = record {
  origin = record { editions = k.seen.shard.editions; base = k.seen.shard.base; items = k.first; holds = k.held_first };
  shards = 1;
  waiting = k.seen.waiting;
}

-- It refuses for want of memory, and because something could not be kept, if its keeper may fail. No reply of it is late.
abbrev pub kept_parts : Type 0 → KeptParts → DeskParts Beginning
kept_parts Fails k = record {
  standing = standing_of k;
  taken = commands_of k.seen.shard.journal;
  transcript = transcript_of k.seen.shard;
  MayRefuse = λ fault. (fault ≡ Memory) ⊎ ((fault ≡ NotKept) × Fails);
  MayBeLate = ⊥;
}

-- of more items of its journal, those that were newly accepted
abbrev pub new_since : KeptParts → List Item → List Item
new_since k later = new_items k.seen.shard.editions (replay k.seen.shard.editions k.seen.shard.base k.first) later

-- after the lines that were kept there is nothing; or where the desk is stuck, a front of one line more, which may be all of it
abbrev pub IsRest : Bool → List ℕ → Type 0
IsRest false rest = rest ≡ []
IsRest true rest = (a : Asked) × (n : ℕ) × (rest ≡ take n (line_of a))

-- Its keeper holds what it held when the desk began, and the line of each command that was newly accepted since, once and in order.
pub record KeepsLines (k : KeptParts) : Type 0 where
  pub later : List Item
  pub rest : List ℕ
  pub begins : k.seen.shard.journal ≡ k.first ++ later
  pub bytes : Appends k.held_first k.holds (lines_of_items (new_since k later) ++ rest)
  pub is_rest : IsRest k.stuck rest

-- what is seen of a local desk: all but what could not be kept, and no ticket waits that is not seen
pub record IsSeen (stuck : Bool) (seen : ShardParts) (desk : LocalParts) : Type 0 where
  pub more : List Item
  pub is_more : desk.shard ≡ with_items seen more desk.shard.memory
  pub none : stuck ≡ false → more ≡ []
  pub below : AreBelow (length seen.journal) desk.waiting

-- a journal as such a desk has it
pub record IsOwn (seen : ShardParts) : Type 0 where
  pub number : seen.number ≡ 0
  pub in_place : AreInPlace 0 seen.journal
  pub history : IsHistory seen.editions seen.base seen.journal

-- what such a desk keeps: a local desk and a keeper, which has failed if it is stuck
pub record IsKeptDesk (Failed : Type 0) (desk : LocalParts) (k : KeptParts) : Type 0 where
  pub seen : IsSeen k.stuck k.seen.shard desk
  pub own : IsOwn k.seen.shard
  pub failed : k.stuck ≡ true → Failed
  pub lines : KeepsLines k

-- ---- worked rows

-- a line that was torn
torn : (a : Asked) → IsRest true (take 3 (line_of a))
torn a = (a, 3, refl)

-- a desk that is not stuck has none
none_torn : IsRest false []
none_torn = refl
