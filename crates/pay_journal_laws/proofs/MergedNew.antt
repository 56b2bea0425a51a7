-- What several shards newly accept is what one machine newly accepts of a merge of their journals, and gives back where that ends.
use Rattle.std.proofs.Common.{◌≡◌, ◌⊎◌, inl, inr, ℕ, eqb, Bool, true, false, cond, List, [], ◌∷◌, map, filter, refl, sym, ap, ◌∙◌, eqb-true, eq-eqb}
use Rattle.std.specs.Prelude.{◌↔◌, if◌then◌else◌}
use Rattle.std.specs.FinMap.{empty}
use Rattle.pay_rules.specs.InTurn.{IsIn}
use Rattle.pay_tables.specs.Words.{FareEditions}
use Rattle.pay_rules.specs.State.{State}
use Rattle.pay_shard.specs.Words.{item_step, run, replay, is_new, new_items, AreAllPriced, AreAllNew, asked_by, items_of, all_items, IsAskedOf, AreAskedOf, IsWhole, MergeRepliesAsShards, MergeEndsAsShards, NewRunAlone, NewStayNew, AskedAlikeEndsAlike}
use Rattle.pay_shard.specs.declared.asked.Asked.{Asked}
use Rattle.pay_shard.specs.declared.item.Item.{Item}
use Rattle.pay_shard.specs.declared.reply.Reply.{Reply}
use Rattle.pay_shard.specs.declared.reply.Reply.TheVariants as reply
use Rattle.pay_journal_laws.specs.GivenBack.{NewGivesBack}

-- ---- one item

module _ (editions : FareEditions) (i : Item) where
  abbrev mine : Bool → ℕ → List (ℕ × Item) → List Item
  mine b k later = map (λ (m : ℕ × Item). m.1) (cond b ((k, i) ∷ later) later)

  alone : (b : Bool) (k : ℕ) (first : Reply) (s : State) → b ≡ true
      → map (λ (r : ℕ × Reply). r.1) (cond b ((k, first) ∷ []) []) ≡ (run editions s (mine b k [])).replies → first ≡ (item_step editions s i).reply
  alone true k first s is e = cc
  alone false k first s is e = absurd (cc)

  -- it is new, or something later is
  here_or_later : (b : Bool) (later : List Item) (a : Asked) → IsIn (asked_by (if b then i ∷ later else later)) a → ((b ≡ true) × (i.entry.command ≡ a)) ⊎ IsIn (asked_by later) a
  here_or_later true later a (inl here) = inl (refl, here)
  here_or_later true later a (inr more) = inr more
  here_or_later false later a has = inr has

  is_here : (b : Bool) (later : List Item) (a : Asked) → b ≡ true → i.entry.command ≡ a → IsIn (asked_by (if b then i ∷ later else later)) a
  is_here true later a is here = inl here
  is_here false later a is here = absurd (cc)

  is_later : (b : Bool) (later : List Item) (a : Asked) → IsIn (asked_by later) a → IsIn (asked_by (if b then i ∷ later else later)) a
  is_later true later a has = inr has
  is_later false later a has = has

  -- of a shard, what is new of the items after it is new of all
  grown : (b : Bool) (k : ℕ) (s : State) (later : List (ℕ × Item)) (a : Asked)
      → IsIn (asked_by (new_items editions (replay editions s (mine b k [])) (map (λ (m : ℕ × Item). m.1) later))) a → IsIn (asked_by (new_items editions s (mine b k later))) a
  grown true k s later a has = is_later (is_new (item_step editions s i).reply) (new_items editions (item_step editions s i).after (map (λ (m : ℕ × Item). m.1) later)) a has
  grown false k s later a has = has

  own : (b : Bool) (k : ℕ) (s : State) (later : List (ℕ × Item)) (a : Asked) → b ≡ true → is_new (item_step editions s i).reply ≡ true → i.entry.command ≡ a → IsIn (asked_by (new_items editions s (mine b k later))) a
  own true k s later a is new here = is_here (is_new (item_step editions s i).reply) (new_items editions (item_step editions s i).after (map (λ (m : ℕ × Item). m.1) later)) a new here
  own false k s later a is new here = absurd (cc)

  -- and the other way round
  parted : (b : Bool) (k : ℕ) (s : State) (later : List (ℕ × Item)) (a : Asked) → IsIn (asked_by (new_items editions s (mine b k later))) a
      → ((b ≡ true) × (is_new (item_step editions s i).reply ≡ true) × (i.entry.command ≡ a)) ⊎ IsIn (asked_by (new_items editions (replay editions s (mine b k [])) (map (λ (m : ℕ × Item). m.1) later))) a
  parted true k s later a has = by (here_or_later (is_new (item_step editions s i).reply) (new_items editions (item_step editions s i).after (map (λ (m : ℕ × Item). m.1) later)) a has)
    where
      by : ((is_new (item_step editions s i).reply ≡ true) × (i.entry.command ≡ a)) ⊎ IsIn (asked_by (new_items editions (item_step editions s i).after (map (λ (m : ℕ × Item). m.1) later))) a
          → ((true ≡ true) × (is_new (item_step editions s i).reply ≡ true) × (i.entry.command ≡ a)) ⊎ IsIn (asked_by (new_items editions (item_step editions s i).after (map (λ (m : ℕ × Item). m.1) later))) a
      by (inl here) = inl (refl, here.0, here.1)
      by (inr more) = inr more
  parted false k s later a has = inr has

-- ---- all items of a merge

module _ (replies : MergeRepliesAsShards) (states : MergeEndsAsShards) (editions : FareEditions) (of : ℕ) where
  alike : (each : ℕ → State) (whole : State) (k : ℕ) (i : Item) → IsWhole of each whole → IsAskedOf of k i.entry.command → (item_step editions whole i).reply ≡ (item_step editions (each k) i).reply
  alike each whole k i is its = alone editions i (eqb k k) k (item_step editions whole i).reply (each k) (eq-eqb k k refl) (replies editions of each whole ((k, i) ∷ []) is (its, tt) k)

  abbrev next : (ℕ → State) → ℕ → Item → ℕ → State
  next each k i shard = replay editions (each shard) (items_of shard ((k, i) ∷ []))

  in_shards : (merged : List (ℕ × Item)) (each : ℕ → State) (whole : State) → IsWhole of each whole → AreAskedOf of merged → (a : Asked)
      → IsIn (asked_by (new_items editions whole (all_items merged))) a → (shard : ℕ) × IsIn (asked_by (new_items editions (each shard) (items_of shard merged))) a
  in_shards [] each whole is all a has = absurd has
  in_shards ((k, i) ∷ merged) each whole is all a has =
      by (here_or_later editions i (is_new (item_step editions whole i).reply) (new_items editions (item_step editions whole i).after (all_items merged)) a has)
      (in_shards merged (next each k i) (item_step editions whole i).after (states editions of each whole ((k, i) ∷ []) is (all.0, tt)) all.1 a)
    where
      by : ((is_new (item_step editions whole i).reply ≡ true) × (i.entry.command ≡ a)) ⊎ IsIn (asked_by (new_items editions (item_step editions whole i).after (all_items merged))) a
          → (IsIn (asked_by (new_items editions (item_step editions whole i).after (all_items merged))) a → (shard : ℕ) × IsIn (asked_by (new_items editions (next each k i shard) (items_of shard merged))) a)
          → (shard : ℕ) × IsIn (asked_by (new_items editions (each shard) (items_of shard ((k, i) ∷ merged)))) a
      by (inl here) later =
          let new : is_new (item_step editions (each k) i).reply ≡ true = ap is_new (sym (alike each whole k i is all.0)) ∙ here.0 in
          (k, own editions i (eqb k k) k (each k) (filter (λ (m : ℕ × Item). eqb m.0 k) merged) a (eq-eqb k k refl) new here.1)
      by (inr more) later =
          let there = later more in
          (there.0, grown editions i (eqb k there.0) k (each there.0) (filter (λ (m : ℕ × Item). eqb m.0 there.0) merged) a there.1)

  of_shards : (merged : List (ℕ × Item)) (each : ℕ → State) (whole : State) → IsWhole of each whole → AreAskedOf of merged → (a : Asked) (shard : ℕ)
      → IsIn (asked_by (new_items editions (each shard) (items_of shard merged))) a → IsIn (asked_by (new_items editions whole (all_items merged))) a
  of_shards [] each whole is all a shard has = absurd has
  of_shards ((k, i) ∷ merged) each whole is all a shard has =
      by (parted editions i (eqb k shard) k (each shard) (filter (λ (m : ℕ × Item). eqb m.0 shard) merged) a has)
      (of_shards merged (next each k i) (item_step editions whole i).after (states editions of each whole ((k, i) ∷ []) is (all.0, tt)) all.1 a shard)
    where
      by : ((eqb k shard ≡ true) × (is_new (item_step editions (each shard) i).reply ≡ true) × (i.entry.command ≡ a)) ⊎ IsIn (asked_by (new_items editions (next each k i shard) (items_of shard merged))) a
          → (IsIn (asked_by (new_items editions (next each k i shard) (items_of shard merged))) a → IsIn (asked_by (new_items editions (item_step editions whole i).after (all_items merged))) a)
          → IsIn (asked_by (new_items editions whole (all_items ((k, i) ∷ merged)))) a
      by (inl here) later =
          let same : k ≡ shard = eqb-true k shard here.0 in
          let new : is_new (item_step editions whole i).reply ≡ true = ap is_new (alike each whole k i is all.0) ∙ (ap (λ n. is_new (item_step editions (each n) i).reply) same ∙ here.1) in
          is_here editions i (is_new (item_step editions whole i).reply) (new_items editions (item_step editions whole i).after (all_items merged)) a new here.2
      by (inr more) later = is_later editions i (is_new (item_step editions whole i).reply) (new_items editions (item_step editions whole i).after (all_items merged)) a (later more)

-- ---- what they give back

new_is_priced : (replies : List Reply) → AreAllNew replies → AreAllPriced replies
new_is_priced [] new = tt
new_is_priced (reply.Priced priced ∷ replies) new = (refl, new_is_priced replies new.1)
new_is_priced (reply.No why ∷ replies) new = let no : false ≡ true = new.0 in absurd (cc)
new_is_priced (reply.Memory ∷ replies) new = let no : false ≡ true = new.0 in absurd (cc)
new_is_priced (reply.Due quote ∷ replies) new = let no : false ≡ true = new.0 in absurd (cc)
new_is_priced (reply.Shown shown ∷ replies) new = let no : false ≡ true = new.0 in absurd (cc)
new_is_priced (reply.Quotes batch ∷ replies) new = let no : false ≡ true = new.0 in absurd (cc)

pub gives_back : MergeRepliesAsShards → MergeEndsAsShards → NewRunAlone → NewStayNew → AskedAlikeEndsAlike → NewGivesBack
gives_back replies states alone stay ends editions of merged all again unmarked same =
    let list = new_items editions empty (all_items merged) in
    let alike : (a : Asked) → IsIn (asked_by list) a ↔ IsIn (asked_by again) a = λ a. (
      λ has. (same a).1 (in_shards replies states editions of merged (λ _. empty) empty (λ _. refl) all a has),
      λ has. let there = (same a).0 has in of_shards replies states editions of merged (λ _. empty) empty (λ _. refl) all a there.0 there.1,
    ) in
    let both = ends editions empty list again alike unmarked (new_is_priced (run editions empty list).replies (stay editions empty (all_items merged))) in
    (both.0, both.1 ∙ ap (λ r. r.after) (alone editions empty (all_items merged)))
