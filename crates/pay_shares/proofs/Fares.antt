-- The portions of fares are the fares together, and each falls to one of the operators.
use Rattle.std.proofs.Common.{◌≡◌, ℕ, ◌+◌, ◌<◌, ◌≤◌, List, [], ◌∷◌, ◌++◌, length, get_or, take, map, sum_by, refl, ap, sym, ◌∙◌, arith}
use Rattle.std.specs.Prelude.{sum}
use Rattle.std.specs.List.{enumerate_from, range_with_len}
use Rattle.std.proofs.lemmas.Grind.{flat_map-append}
use Rattle.std.proofs.lemmas.List.{append-nil, take_more}
use Rattle.std.proofs.lemmas.List.Sums.{sum_by-cons, sum_by-append, sum_by_more, sum-map}
use Rattle.pay_money.specs.declared.limits.TheConstants.{OPERATORS}
use Rattle.pay_money.specs.Words.{part, parts}
use Rattle.pay_tables.specs.declared.place.Place.{Place}
use Rattle.pay_tables.specs.declared.place.Place.TheVariants.{Station, Route}
use Rattle.pay_tables.specs.Words.{FareTables, IsPlace}
use Rattle.pay_rules.specs.declared.parts.Leg.{Leg}
use Rattle.pay_rules.specs.LinkedLegs.{LinkedLegs, all_legs}
use Rattle.pay_rules.specs.declared.journey.Journey.{Journey}
use Rattle.pay_rules.specs.declared.journey.Journey.TheVariants.{Run, Same, Lone, Bus}
use Rattle.pay_rules.specs.Portions.{operator_of, operator_at, Portion, portion, leg_portion, leg_portions, portions}
use Rattle.pay_rules.specs.OperatorWeights.{all_portions, sum_of_fares, weights_of, weights}
use Rattle.pay_shares.specs.Adding.{with_portion, with_portions}
use Rattle.pay_shares.proofs.Weighing.{AreWithin, pence, all_added, weights_together}

-- the operator of a place that a fare file may have is one of 1 to 16
pub operator_within : (zones : ℕ) (place : Place) → IsPlace zones place → (1 ≤ operator_of place) × (operator_of place ≤ OPERATORS)
operator_within zones (Station low high operator) h = h.4
operator_within zones (Route operator) h = h.1

abbrev pub AreOperators : FareTables → Type 0
AreOperators tables = (place : ℕ) → (1 ≤ operator_at tables place) × (operator_at tables place ≤ OPERATORS)

-- ---- each falls to one of the operators

legs_within : (tables : FareTables) → AreOperators tables → (count fare from : ℕ) (legs : List Leg) → AreWithin (map (leg_portion tables count fare) (enumerate_from from legs))
legs_within tables within count fare from [] = tt
legs_within tables within count fare from (leg ∷ legs) = (within leg.entry.place, legs_within tables within count fare (from + 1) legs)

journey_within : (tables : FareTables) → AreOperators tables → (journey : Journey) (fare : ℕ) → AreWithin (portions tables journey fare)
journey_within tables within (Run legs) fare = legs_within tables within (length (all_legs legs)) fare 0 (all_legs legs)
journey_within tables within (Same leg) fare = (within leg.entry.place, tt)
journey_within tables within (Lone tap) fare = (within tap.place, tt)
journey_within tables within (Bus tap pays) fare = (within tap.place, tt)

both_within : (list others : List Portion) → AreWithin list → AreWithin others → AreWithin (list ++ others)
both_within [] others p q = q
both_within (one ∷ list) others p q = (p.0, both_within list others p.1 q)

pub all_within : (tables : FareTables) → AreOperators tables → (journeys : List (Journey × ℕ)) → AreWithin (all_portions tables journeys)
all_within tables within [] = tt
all_within tables within (one ∷ journeys) = both_within (portions tables one.0 one.1) (all_portions tables journeys) (journey_within tables within one.0 one.1) (all_within tables within journeys)

-- ---- together they are the fares

-- the parts of a total are the total together
abbrev pub ArePartsOfAll : Type 0
ArePartsOfAll = (total count : ℕ) → 1 ≤ count → sum (parts total count) ≡ total

legs_pence : (tables : FareTables) (count fare from : ℕ) (legs : List Leg)
    → sum_by pence (map (leg_portion tables count fare) (enumerate_from from legs)) ≡ sum_by (part fare count) (range_with_len from (length legs))
legs_pence tables count fare from [] = refl
legs_pence tables count fare from (leg ∷ legs) =
    omega (
      arith,
      sum_by-cons pence (leg_portion tables count fare (from, leg)) (map (leg_portion tables count fare) (enumerate_from (from + 1) legs)),
      sum_by-cons (part fare count) from (range_with_len (from + 1) (length legs)),
      legs_pence tables count fare (from + 1) legs,
    )

pub run_pence : ArePartsOfAll → (tables : FareTables) (leg : Leg) (legs : List Leg) (fare : ℕ) → sum_by pence (leg_portions tables (leg ∷ legs) fare) ≡ fare
run_pence all tables leg legs fare =
    legs_pence tables (length (leg ∷ legs)) fare 0 (leg ∷ legs) ∙ sym (sum-map (part fare (length (leg ∷ legs))) (range_with_len 0 (length (leg ∷ legs)))) ∙ all fare (length (leg ∷ legs)) (omega arith)

pub journey_pence : ArePartsOfAll → (tables : FareTables) (journey : Journey) (fare : ℕ) → sum_by pence (portions tables journey fare) ≡ fare
journey_pence all tables (Run legs) fare = run_pence all tables legs.first legs.others fare
journey_pence all tables (Same leg) fare = omega arith
journey_pence all tables (Lone tap) fare = omega arith
journey_pence all tables (Bus tap pays) fare = omega arith

all_pence : ArePartsOfAll → (tables : FareTables) (journeys : List (Journey × ℕ)) → sum_by pence (all_portions tables journeys) ≡ sum_of_fares journeys
all_pence all tables [] = refl
all_pence all tables (one ∷ journeys) =
    omega (
      arith,
      sum_by-append pence (portions tables one.0 one.1) (all_portions tables journeys),
      journey_pence all tables one.0 one.1,
      all_pence all tables journeys,
      sum_by-cons (λ (other : Journey × ℕ). other.1) one journeys,
    )

pub nothing_lost : ArePartsOfAll → (tables : FareTables) → AreOperators tables → (journeys : List (Journey × ℕ)) → sum (weights tables journeys) ≡ sum_of_fares journeys
nothing_lost all tables within journeys = weights_together (all_portions tables journeys) (all_within tables within journeys) ∙ all_pence all tables journeys

-- ---- one journey after another

-- the weights of the first journeys, and the portions of the next one
one_journey_more : (tables : FareTables) → AreOperators tables → (journeys : List (Journey × ℕ)) (i : ℕ) (one : Journey × ℕ) → i < length journeys → one ≡ get_or journeys i one
    → with_portions (weights tables (take i journeys)) (portions tables one.0 one.1) ≡ weights tables (take (i + 1) journeys)
one_journey_more tables within journeys i one there is =
    all_added (all_portions tables (take i journeys)) (portions tables one.0 one.1) (journey_within tables within one.0 one.1)
    ∙ ap (λ (list : List Portion). weights_of (all_portions tables (take i journeys) ++ list)) (sym (append-nil (portions tables one.0 one.1)))
    ∙ ap weights_of (sym (flat_map-append (λ (other : Journey × ℕ). portions tables other.0 other.1) (take i journeys) (one ∷ [])))
    ∙ ap (λ (other : Journey × ℕ). weights tables (take i journeys ++ other ∷ [])) is
    ∙ ap (weights tables) (sym (take_more journeys i one there))

pub next_weights : (tables : FareTables) → AreOperators tables → (journeys : List (Journey × ℕ)) (i fare : ℕ) (one : Journey × ℕ) (before after : List ℕ) → i < length journeys
    → one ≡ get_or journeys i one → fare ≡ one.1 → before ≡ weights tables (take i journeys) → after ≡ with_portions before (portions tables one.0 fare) → after ≡ weights tables (take (i + 1) journeys)
next_weights tables within journeys i fare one before after there is its so_far e =
    e ∙ ap (λ (list : List ℕ). with_portions list (portions tables one.0 fare)) so_far ∙ ap (λ (pence : ℕ). with_portions (weights tables (take i journeys)) (portions tables one.0 pence)) its
    ∙ one_journey_more tables within journeys i one there is

pub next_fares : (journeys : List (Journey × ℕ)) (i fare : ℕ) (one : Journey × ℕ) (before after : List ℕ) → i < length journeys → one ≡ get_or journeys i one → fare ≡ one.1
    → sum before ≡ sum_of_fares (take i journeys) → sum after ≡ sum before + fare → sum after ≡ sum_of_fares (take (i + 1) journeys)
next_fares journeys i fare one before after there is its so_far e =
    let pence_of : Journey × ℕ → ℕ = λ other. other.1 in
    omega (arith, sum_by_more pence_of journeys i one there, ap pence_of is, its, so_far, e)

-- ---- the first leg of a run, and the others

pub first_leg : (tables : FareTables) (fare given : ℕ) (run : LinkedLegs) (leg : Leg) (others : List Leg) (before after : List ℕ) → leg ≡ run.first → others ≡ run.others
    → given ≡ part fare (length others + 1) 0 → after ≡ with_portion before (portion tables leg.entry.place given)
    → with_portions after (map (leg_portion tables (length others + 1) fare) (enumerate_from 1 others)) ≡ with_portions before (leg_portions tables (all_legs run) fare)
first_leg tables fare given run leg others before after first beyond its e =
    let all : length others + 1 ≡ length (leg ∷ others) = omega arith in
    ap (λ (list : List ℕ). with_portions list (map (leg_portion tables (length others + 1) fare) (enumerate_from 1 others)))
    (e ∙ ap (λ (pence : ℕ). with_portion before (portion tables leg.entry.place pence)) its)
    ∙ ap (λ (count : ℕ). with_portions before (map (leg_portion tables count fare) (enumerate_from 0 (leg ∷ others)))) all
    ∙ ap (λ (one : Leg). with_portions before (leg_portions tables (one ∷ others) fare)) first
    ∙ ap (λ (list : List Leg). with_portions before (leg_portions tables (run.first ∷ list) fare)) beyond

pub first_pence : ArePartsOfAll → (tables : FareTables) (fare given : ℕ) (leg : Leg) (others : List Leg) → given ≡ part fare (length others + 1) 0
    → given + sum_by pence (map (leg_portion tables (length others + 1) fare) (enumerate_from 1 others)) ≡ fare
first_pence all tables fare given leg others its =
    let count : length others + 1 ≡ length (leg ∷ others) = omega arith in
    omega (
      arith,
      its,
      sum_by-cons pence (leg_portion tables (length others + 1) fare (0, leg)) (map (leg_portion tables (length others + 1) fare) (enumerate_from 1 others)),
      ap (λ (legs : ℕ). sum_by pence (map (leg_portion tables legs fare) (enumerate_from 0 (leg ∷ others)))) count ∙ run_pence all tables leg others fare,
    )
