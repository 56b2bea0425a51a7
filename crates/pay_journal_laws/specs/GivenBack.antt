-- The accounts that texts of lines give back.
use Rattle.std.specs.Prelude.{◌≡◌, ◌↔◌, ℕ, List, ◌++◌}
use Rattle.std.specs.FinMap.{empty}
use Rattle.std.specs.List.{AllByRecursion}
use Rattle.jiff.specs.declared.tz.timezone.TimeZone.{TimeZone}
use Rattle.pay_rules.specs.InTurn.{IsIn}
use Rattle.pay_tables.specs.Words.{FareEditions}
use Rattle.pay_shard.specs.Words.{run, replay, new_items, AreAllPriced, asked_by, AreUnmarked, accepted_asked, items_of, all_items, AreAskedOf}
use Rattle.pay_shard.specs.declared.asked.Asked.{Asked}
use Rattle.pay_shard.specs.declared.item.Item.{Item}
use Rattle.pay_session.specs.declared.request.Request.{Request}
use Rattle.pay_journal_laws.specs.Texts.{requests_in, asked_in, Puts}

-- ---- with a fare file and a merge of journals

module _ (fares : FareEditions) (merged : List (ℕ × Item)) where
  -- the items of a shard that are newly accepted
  abbrev pub new_of : ℕ → List Item
  new_of shard = new_items fares empty (items_of shard merged)

  -- some shard answered this by prices
  abbrev pub IsPricedIn : Asked → Type 0
  IsPricedIn a = (shard : ℕ) × IsIn (accepted_asked fares empty (items_of shard merged)) a

-- Each line of texts puts a command to a desk. Whoever asks for these commands is answered by prices each time, and ends where one machine ends that
-- was asked a merge of journals.
pub record GiveBack (fares : FareEditions) (zone : TimeZone) (merged : List (ℕ × Item)) (texts : List (List ℕ)) : Type 0 where
  pub lines : AllByRecursion (λ (r : Request). (a : Asked) × Puts zone r a) (requests_in texts)
  pub back : (again : List Item) → AreUnmarked again → asked_by again ≡ asked_in zone (requests_in texts)
      → AreAllPriced (run fares empty again).replies × (replay fares empty again ≡ replay fares empty (all_items merged))

-- Each line of texts puts a command to a desk, and whoever asks for these commands is answered by prices each time.
pub record AreTaken (fares : FareEditions) (zone : TimeZone) (texts : List (List ℕ)) : Type 0 where
  pub lines : AllByRecursion (λ (r : Request). (a : Asked) × Puts zone r a) (requests_in texts)
  pub priced : (again : List Item) → AreUnmarked again → asked_by again ≡ asked_in zone (requests_in texts) → AreAllPriced (run fares empty again).replies

-- ---- laws

-- What a run from no accounts answers by prices is asked for by one of its newly accepted items: a repeat repeats one of these.
abbrev pub RepeatsAreOfNew : Type 0
RepeatsAreOfNew = (editions : FareEditions) (items : List Item) (a : Asked) → IsIn (accepted_asked editions empty items) a → IsIn (asked_by (new_items editions empty items)) a

-- of a merge of journals, one of some shard's newly accepted items asks for this
abbrev pub IsNewIn : FareEditions → List (ℕ × Item) → Asked → Type 0
IsNewIn editions merged a = (shard : ℕ) × IsIn (asked_by (new_items editions empty (items_of shard merged))) a

-- Whoever asks for just what several shards newly accepted, however often and in whatever order, is answered by prices each time, and ends
-- where one machine ends that was asked all of their journals.
abbrev pub NewGivesBack : Type 0
NewGivesBack = (editions : FareEditions) (of : ℕ) (merged : List (ℕ × Item)) → AreAskedOf of merged → (again : List Item) → AreUnmarked again
    → ((a : Asked) → IsIn (asked_by again) a ↔ IsNewIn editions merged a)
    → AreAllPriced (run editions empty again).replies × (replay editions empty again ≡ replay editions empty (all_items merged))

-- Texts are taken that stand in front of others, where all of them together give accounts back.
abbrev pub PartsAreTaken : Type 0
PartsAreTaken = (fares : FareEditions) (zone : TimeZone) (merged : List (ℕ × Item)) (part texts : List (List ℕ))
    → GiveBack fares zone merged (part ++ texts) → AreTaken fares zone part
