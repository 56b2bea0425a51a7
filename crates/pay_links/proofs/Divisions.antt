-- There is one way to divide legs and lone taps into journeys, and `journeys` computes it.
use Rattle.std.proofs.Common.{◌≡◌, Bool, true, false, List, [], ◌∷◌, ◌++◌, map, if◌then◌else◌, refl, ap, subst, sym, ◌∙◌}
use Rattle.std.specs.List.{AllByRecursion}
use Rattle.std.proofs.lemmas.List.Elements.{recursion_from_All, All-from_recursion}
use Rattle.pay_tables.specs.Words.{FareTables}
use Rattle.pay_rules.specs.declared.parts.Leg.{Leg}
use Rattle.pay_rules.specs.declared.parts.RailPart.{RailPart}
use Rattle.pay_rules.specs.declared.parts.RailPart.TheVariants as part
use Rattle.pay_rules.specs.LinkedLegs.{LinkedLegs, joined, all_legs}
use Rattle.pay_rules.specs.RailJourneys.{is_same, is_linked, alone, run_before, journeys, EachAndNext, IsRun, IsJourney, goes_on, parts_of_journey, parts_of, AreJourneys}
use Rattle.pay_rules.specs.declared.journey.Journey.{Journey}
use Rattle.pay_rules.specs.declared.journey.Journey.TheVariants as journey

-- ---- each and the next, by recursion on the list

-- R holds of an item and the first of others, where there is one
abbrev IsBefore : {A : Type 0} → (A → A → Type 0) → A → List A → Type 0
IsBefore R one [] = Unit {0}
IsBefore R one (next ∷ later) = R one next

abbrev IsChain : {A : Type 0} → (A → A → Type 0) → List A → Type 0
IsChain R [] = Unit {0}
IsChain R (one ∷ later) = IsBefore R one later × IsChain R later

chain_from_each : {A : Type 0} (R : A → A → Type 0) (items : List A) → EachAndNext R items → IsChain R items
chain_from_each R [] h = tt
chain_from_each R (one ∷ []) h = (tt, tt)
chain_from_each R (one ∷ next ∷ later) h =
    (h [] later one next refl, chain_from_each R (next ∷ later) (λ before after a b e. h (one ∷ before) after a b (ap (λ l. one ∷ l) e)))

chain_at : {A : Type 0} (R : A → A → Type 0) (before after : List A) (one next : A) → IsChain R (before ++ one ∷ next ∷ after) → R one next
chain_at R [] after one next c = c.0
chain_at R (first ∷ before) after one next c = chain_at R before after one next c.1

each_from_chain : {A : Type 0} (R : A → A → Type 0) (items : List A) → IsChain R items → EachAndNext R items
each_from_chain R items c before after one next e = chain_at R before after one next (subst (IsChain R) e c)

-- ---- journeys, by recursion on the list

abbrev Apart : Leg → Type 0
Apart leg = is_same leg ≡ false

abbrev Linked : FareTables → Leg → Leg → Type 0
Linked tables leg next = is_linked tables leg next ≡ true

abbrev Ends : FareTables → Journey → Journey → Type 0
Ends tables one next = goes_on tables one next ≡ false

run_is : (tables : FareTables) (legs : LinkedLegs) → AllByRecursion Apart (all_legs legs) → IsChain (Linked tables) (all_legs legs) → IsRun tables legs
run_is tables legs apart linked = record {
  apart = All-from_recursion Apart (all_legs legs) apart;
  linked = each_from_chain (Linked tables) (all_legs legs) linked;
}

-- a leg that goes on into a run is of the run
one_more : (tables : FareTables) (leg : Leg) (legs : LinkedLegs) → Apart leg → Linked tables leg legs.first → IsRun tables legs → IsRun tables (joined (alone leg) legs)
one_more tables leg legs a l r =
    run_is tables (joined (alone leg) legs) (a, recursion_from_All Apart (all_legs legs) r.apart) (l, chain_from_each (Linked tables) (all_legs legs) r.linked)

record Divides (tables : FareTables) (parts : List RailPart) (list : List Journey) : Type 0 where
  all : parts_of list ≡ parts
  each : AllByRecursion (IsJourney tables) list
  maximal : IsChain (Ends tables) list

-- a journey before others, into which it does not go on
put_before : (tables : FareTables) (one : Journey) (parts : List RailPart) (list : List Journey) → IsJourney tables one → IsBefore (Ends tables) one list →
    Divides tables parts list → Divides tables (parts_of_journey one ++ parts) (one ∷ list)
put_before tables one parts list j b d = record { all = ap (λ ps. parts_of_journey one ++ ps) d.all; each = (j, d.each); maximal = (b, d.maximal) }

-- where no next journey could be gone on into
ends_before : (tables : FareTables) (one : Journey) (list : List Journey) → ((next : Journey) → Ends tables one next) → IsBefore (Ends tables) one list
ends_before tables one [] h = tt
ends_before tables one (next ∷ later) h = h next

-- a run ends where its last leg's last run ends
ends_too : (tables : FareTables) (leg : Leg) (legs : LinkedLegs) (list : List Journey) →
    IsBefore (Ends tables) (journey.Run legs) list → IsBefore (Ends tables) (journey.Run (joined (alone leg) legs)) list
ends_too tables leg legs [] b = tt
ends_too tables leg legs (journey.Run next ∷ later) b = b
ends_too tables leg legs (journey.Same other ∷ later) b = refl
ends_too tables leg legs (journey.Lone tap ∷ later) b = refl
ends_too tables leg legs (journey.Bus tap pays ∷ later) b = refl

alone_is : (tables : FareTables) (leg : Leg) → Apart leg → IsRun tables (alone leg)
alone_is tables leg a = run_is tables (alone leg) (a, tt) (tt, tt)

-- a leg before a run
before_run : (tables : FareTables) (leg : Leg) (parts : List RailPart) (legs : LinkedLegs) (later : List Journey) (on : Bool) → Apart leg → is_linked tables leg legs.first ≡ on →
    Divides tables parts (journey.Run legs ∷ later) →
    Divides tables (part.Leg leg ∷ parts) (if on then journey.Run (joined (alone leg) legs) ∷ later else journey.Run (alone leg) ∷ journey.Run legs ∷ later)
before_run tables leg parts legs later true a l d = record {
  all = ap (λ ps. part.Leg leg ∷ ps) d.all;
  each = (one_more tables leg legs a l d.each.0, d.each.1);
  maximal = (ends_too tables leg legs later d.maximal.0, d.maximal.1);
}
before_run tables leg parts legs later false a l d =
    put_before tables (journey.Run (alone leg)) parts (journey.Run legs ∷ later) (alone_is tables leg a) l d

-- a leg that is no journey by itself before journeys
before_any : (tables : FareTables) (leg : Leg) (parts : List RailPart) (list : List Journey) → Apart leg → Divides tables parts list →
    Divides tables (part.Leg leg ∷ parts) (run_before tables (alone leg) list)
before_any tables leg parts [] a d = put_before tables (journey.Run (alone leg)) parts [] (alone_is tables leg a) tt d
before_any tables leg parts (journey.Run legs ∷ later) a d = before_run tables leg parts legs later (is_linked tables leg legs.first) a refl d
before_any tables leg parts (journey.Same other ∷ later) a d = put_before tables (journey.Run (alone leg)) parts (journey.Same other ∷ later) (alone_is tables leg a) refl d
before_any tables leg parts (journey.Lone tap ∷ later) a d = put_before tables (journey.Run (alone leg)) parts (journey.Lone tap ∷ later) (alone_is tables leg a) refl d
before_any tables leg parts (journey.Bus tap pays ∷ later) a d = put_before tables (journey.Run (alone leg)) parts (journey.Bus tap pays ∷ later) (alone_is tables leg a) refl d

leg_before_is : (tables : FareTables) (leg : Leg) (parts : List RailPart) (list : List Journey) (same : Bool) → is_same leg ≡ same → Divides tables parts list →
    Divides tables (part.Leg leg ∷ parts) (if same then journey.Same leg ∷ list else run_before tables (alone leg) list)
leg_before_is tables leg parts list true s d = put_before tables (journey.Same leg) parts list s (ends_before tables (journey.Same leg) list (λ _. refl)) d
leg_before_is tables leg parts list false s d = before_any tables leg parts list s d

-- what is computed divides them
journeys_divide : (tables : FareTables) (parts : List RailPart) → Divides tables parts (journeys tables parts)
journeys_divide tables [] = record { all = refl; each = tt; maximal = tt }
journeys_divide tables (part.Lone tap ∷ parts) =
    put_before tables (journey.Lone tap) parts (journeys tables parts) tt (ends_before tables (journey.Lone tap) (journeys tables parts) (λ _. refl)) (journeys_divide tables parts)
journeys_divide tables (part.Leg leg ∷ parts) = leg_before_is tables leg parts (journeys tables parts) (is_same leg) refl (journeys_divide tables parts)

pub journeys_are : (tables : FareTables) (parts : List RailPart) → AreJourneys tables parts (journeys tables parts)
journeys_are tables parts = let d = journeys_divide tables parts in record {
  all = d.all;
  each = All-from_recursion (IsJourney tables) (journeys tables parts) d.each;
  maximal = each_from_chain (Ends tables) (journeys tables parts) d.maximal;
}

-- ---- no other way

-- a run that does not go on into the next journey stands by itself
run_stands : (tables : FareTables) (legs : LinkedLegs) (later : List Journey) → IsBefore (Ends tables) (journey.Run legs) later → run_before tables legs later ≡ journey.Run legs ∷ later
run_stands tables legs [] b = refl
run_stands tables legs (journey.Run next ∷ later) b = rw b
run_stands tables legs (journey.Same other ∷ later) b = refl
run_stands tables legs (journey.Lone tap ∷ later) b = refl
run_stands tables legs (journey.Bus tap pays ∷ later) b = refl

-- the legs of a run are computed to be that run
run_found : (tables : FareTables) (first : Leg) (others : List Leg) (parts : List RailPart) (later : List Journey) → journeys tables parts ≡ later →
    AllByRecursion Apart (first ∷ others) → IsChain (Linked tables) (first ∷ others) → IsBefore (Ends tables) (journey.Run (record { first = first; others = others })) later →
    journeys tables (map part.Leg (first ∷ others) ++ parts) ≡ journey.Run (record { first = first; others = others }) ∷ later
run_found tables first [] parts later h a l b = rw (h, a.0) (run_stands tables (alone first) later b)
run_found tables first (next ∷ more) parts later h a l b =
    rw (run_found tables next more parts later h a.1 l.1 (before_too tables first next more later b), l.0, a.0)
  where
    before_too : (tables : FareTables) (first next : Leg) (more : List Leg) (later : List Journey) →
        IsBefore (Ends tables) (journey.Run (record { first = first; others = next ∷ more })) later → IsBefore (Ends tables) (journey.Run (record { first = next; others = more })) later
    before_too tables first next more [] b = tt
    before_too tables first next more (journey.Run other ∷ later) b = b
    before_too tables first next more (journey.Same other ∷ later) b = refl
    before_too tables first next more (journey.Lone tap ∷ later) b = refl
    before_too tables first next more (journey.Bus tap pays ∷ later) b = refl

-- journeys are computed to be themselves
found : (tables : FareTables) (list : List Journey) → AllByRecursion (IsJourney tables) list → IsChain (Ends tables) list → journeys tables (parts_of list) ≡ list
found tables [] j m = refl
found tables (journey.Run legs ∷ later) j m =
    run_found tables legs.first legs.others (parts_of later) later (found tables later j.1 m.1)
    (recursion_from_All Apart (all_legs legs) j.0.apart) (chain_from_each (Linked tables) (all_legs legs) j.0.linked) m.0
found tables (journey.Same leg ∷ later) j m = rw j.0 (ap (λ l. journey.Same leg ∷ l) (found tables later j.1 m.1))
found tables (journey.Lone tap ∷ later) j m = ap (λ l. journey.Lone tap ∷ l) (found tables later j.1 m.1)
found tables (journey.Bus tap pays ∷ later) j m = absurd j.0

-- what is described is what is computed
computed : (tables : FareTables) (parts : List RailPart) (list : List Journey) → AreJourneys tables parts list → journeys tables parts ≡ list
computed tables parts list are =
    ap (journeys tables) (sym are.all) ∙ found tables list (recursion_from_All (IsJourney tables) list are.each) (chain_from_each (Ends tables) list are.maximal)

pub one_division : (tables : FareTables) (parts : List RailPart) (list others : List Journey) →
    AreJourneys tables parts list → AreJourneys tables parts others → list ≡ others
one_division tables parts list others a b = sym (computed tables parts list a) ∙ computed tables parts others b
