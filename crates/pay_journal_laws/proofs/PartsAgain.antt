-- What is accepted of texts that are a part of others.
use Rattle.std.proofs.Common.{◌≡◌, ◌⊎◌, inl, inr, ℕ, false, List, [], ◌∷◌, ◌++◌, map, refl, sym, ap, ◌∙◌, subst}
use Rattle.std.specs.FinMap.{empty}
use Rattle.std.specs.List.{AllByRecursion}
use Rattle.std.proofs.lemmas.Grind.{flat_map-append}
use Rattle.pay_rules.specs.InTurn.{IsIn}
use Rattle.pay_tables.specs.Words.{FareEditions}
use Rattle.pay_rules.specs.State.{State}
use Rattle.pay_shard.specs.Words.{item_step, run, AreAllPriced, asked_by, AreUnmarked}
use Rattle.pay_shard.specs.declared.asked.Asked.{Asked}
use Rattle.pay_shard.specs.declared.item.Item.{Item}
use Rattle.pay_session.specs.Words.{line_requests, asks_of, IsReadByLine}
use Rattle.pay_session.specs.declared.request.Request.{Request}
use Rattle.pay_journal_laws.specs.Texts.{requests_in, put_by, asked_in, Puts, CutAskWithin, PartAsksAlike}
use Rattle.pay_journal_laws.specs.GivenBack.{PartsAreTaken}
use Rattle.pay_journal_laws.proofs.TextsAgain.{front_asks}

-- ---- what stands in lists

module _ {X : Type 0} where
  in_front : (xs ys : List X) (x : X) → IsIn xs x → IsIn (xs ++ ys) x
  in_front [] ys x has = absurd has
  in_front (y ∷ xs) ys x (inl is) = inl is
  in_front (y ∷ xs) ys x (inr later) = inr (in_front xs ys x later)

  in_back : (xs ys : List X) (x : X) → IsIn ys x → IsIn (xs ++ ys) x
  in_back [] ys x has = has
  in_back (y ∷ xs) ys x has = inr (in_back xs ys x has)

  in_either : (xs ys : List X) (x : X) → IsIn (xs ++ ys) x → IsIn xs x ⊎ IsIn ys x
  in_either [] ys x has = inr has
  in_either (y ∷ xs) ys x (inl is) = inl (inl is)
  in_either (y ∷ xs) ys x (inr later) = elim (in_either xs ys x later) [ inl front ↦ inl (inr front) | inr back ↦ inr back ]

all_front : {X : Type 0} (P : X → Type 0) (xs ys : List X) → AllByRecursion P (xs ++ ys) → AllByRecursion P xs
all_front P [] ys all = tt
all_front P (x ∷ xs) ys all = (all.0, all_front P xs ys all.1)

-- ---- items that ask for commands

abbrev item_for : Asked → Item
item_for a = record { entry = record { lane = 0; ticket = 0; command = a }; refused_memory = false }

for_asked : (list : List Asked) → asked_by (map item_for list) ≡ list
for_asked [] = refl
for_asked (a ∷ list) = ap (λ l. a ∷ l) (for_asked list)

for_unmarked : (list : List Asked) → AreUnmarked (map item_for list)
for_unmarked [] = tt
for_unmarked (a ∷ list) = (refl, for_unmarked list)

unmarked_both : (items more : List Item) → AreUnmarked items → AreUnmarked more → AreUnmarked (items ++ more)
unmarked_both [] more front back = back
unmarked_both (i ∷ items) more front back = (front.0, unmarked_both items more front.1 back)

asked_both : (items more : List Item) → asked_by (items ++ more) ≡ asked_by items ++ asked_by more
asked_both [] more = refl
asked_both (i ∷ items) more = ap (λ l. i.entry.command ∷ l) (asked_both items more)

-- the run of the first items is the front of the run
priced_front : (editions : FareEditions) (state : State) (items more : List Item) → AreAllPriced (run editions state (items ++ more)).replies → AreAllPriced (run editions state items).replies
priced_front editions state [] more all = tt
priced_front editions state (i ∷ items) more all = (all.0, priced_front editions (item_step editions state i).after items more all.1)

-- ---- parts

pub requests_both : (part texts : List (List ℕ)) → requests_in (part ++ texts) ≡ requests_in part ++ requests_in texts
requests_both part texts = flat_map-append line_requests part texts

pub parts_are_taken : PartsAreTaken
parts_are_taken fares zone merged part texts gives =
    let rest : List Asked = asked_in zone (requests_in texts) in
    let commands : asked_in zone (requests_in (part ++ texts)) ≡ asked_in zone (requests_in part) ++ rest =
    ap (asked_in zone) (requests_both part texts) ∙ flat_map-append (λ r. put_by (asks_of zone r)) (requests_in part) (requests_in texts) in
    record {
      lines = all_front (λ (r : Request). (a : Asked) × Puts zone r a) (requests_in part) (requests_in texts)
          (subst (AllByRecursion (λ (r : Request). (a : Asked) × Puts zone r a)) (requests_both part texts) gives.lines);
      priced = λ again unmarked same.
          let more : List Item = map item_for rest in
          let asks : asked_by (again ++ more) ≡ asked_in zone (requests_in (part ++ texts)) = asked_both again more ∙ ((λ i. same i ++ for_asked rest i) ∙ sym commands) in
          priced_front fares empty again more (gives.back (again ++ more) (unmarked_both again more unmarked (for_unmarked rest)) asks).0;
    }

-- texts with a part of them in front ask for what they do
pub part_asks_alike : PartAsksAlike
part_asks_alike texts later part alike within r = (
  λ has. subst (λ rs. IsIn rs r) (sym (requests_both part later)) (in_back (requests_in part) (requests_in later) r ((alike r).0 has)),
  λ has. (alike r).1 (elim (in_either (requests_in part) (requests_in later) r (subst (λ rs. IsIn rs r) (requests_both part later) has)) [
    | inl here ↦ within r here
    | inr there ↦ there
  ]),
)

pub cut_ask_within : IsReadByLine → CutAskWithin
cut_ask_within read [] [] cut r has = has
cut_ask_within read [] (c ∷ others) cut r has = absurd cut
cut_ask_within read (text ∷ texts) [] cut r has = absurd cut
cut_ask_within read (text ∷ texts) (c ∷ others) cut r has = elim (in_either (line_requests c) (requests_in others) r has) [
  | inl here ↦
      let it = front_asks read c cut.0.0 in
      in_front (line_requests text) (requests_in texts) r
      (subst (λ rs. IsIn rs r) (sym (ap line_requests cut.0.1 ∙ it.1)) (in_front (line_requests c) it.0 r here))
  | inr later ↦ in_back (line_requests text) (requests_in texts) r (cut_ask_within read texts others cut.1 r later)
]
