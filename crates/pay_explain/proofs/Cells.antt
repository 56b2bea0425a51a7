-- The fares of a day, added one after another.
use Rattle.std.proofs.Common.{◌≡◌, ℕ, ◌+◌, ◌<◌, Bool, true, false, if◌then◌else◌, Option, List, [], ◌∷◌, ◌++◌, length, get_or, drop, map, ap, sym, ◌∙◌, add-one, append_assoc}
use Rattle.std.proofs.Math.Seq.{drop-cons}
use Rattle.std.specs.List.{zip}
use Rattle.std.proofs.lemmas.List.{append-nil}
use Rattle.std.proofs.lemmas.List.Sums.{fold-append}
use Rattle.pay_day.specs.Words.{Stamp}
use Rattle.pay_hopper.specs.Words.{marks_by_last}
use Rattle.pay_tables.specs.Words.{FareEditions, FareTables, on}
use Rattle.pay_rules.specs.declared.tap.Touch.{Touch}
use Rattle.pay_rules.specs.declared.journey.Journey.{Journey}
use Rattle.pay_rules.specs.JourneyFares.{fare}
use Rattle.pay_rules.specs.Journeys.{is_on, boarding}
use Rattle.pay_rules.specs.Prices.{journeys_on}
use Rattle.pay_caps.specs.Words.{CellSums, added, no_fares, cell_of, cells_of}
use Rattle.pay_why.specs.declared.cap.CapReason.{CapReason}
use Rattle.pay_why.specs.Words.{bus_journeys, cap_reason, day_reason, sums_of_day, DaySumsGiveReasons}
use Rattle.pay_explain.specs.Cells.{with_journey, with_each, cells_on}

-- boardings as journeys, where this is the moment of the last one before them that paid
abbrev pub bus_from : ℕ → Option Stamp → List Touch → List Journey
bus_from hopper last taps = map boarding (zip taps (marks_by_last hopper last taps))

-- a fare more, after the others
abbrev pub AddsAfter : FareTables → Type 0
AddsAfter tables = (journey : Journey) (list : List Journey) → cells_of tables (list ++ journey ∷ []) ≡ added (cell_of tables journey) (fare tables journey) (cells_of tables list)

one_by_one : (editions : FareEditions) (day : ℕ) → AddsAfter (on editions day) → (done list : List Journey) → with_each editions day (cells_of (on editions day) done) list ≡ cells_of (on editions day) (done ++ journeys_on list day)
one_by_one editions day beyond done [] = ap (cells_of (on editions day)) (sym (append-nil done))
one_by_one editions day beyond done (journey ∷ list) = with_or_without (is_on day journey) (one_by_one editions day beyond (done ++ journey ∷ []) list) (one_by_one editions day beyond done list)
  where
    with_or_without : (b : Bool) → with_each editions day (cells_of (on editions day) (done ++ journey ∷ [])) list ≡ cells_of (on editions day) ((done ++ journey ∷ []) ++ journeys_on list day)
        → with_each editions day (cells_of (on editions day) done) list ≡ cells_of (on editions day) (done ++ journeys_on list day)
        → with_each editions day (if b then added (cell_of (on editions day) journey) (fare (on editions day) journey) (cells_of (on editions day) done) else cells_of (on editions day) done) list
        ≡ cells_of (on editions day) (done ++ (if b then journey ∷ journeys_on list day else journeys_on list day))
    with_or_without true more same =
        ap (λ (sums : CellSums). with_each editions day sums list) (sym (beyond journey done)) ∙ more ∙ ap (cells_of (on editions day)) (append_assoc done (journey ∷ []) (journeys_on list day))
    with_or_without false more same = same

-- those by rail are added first, and then the boardings
pub of_day : (editions : FareEditions) (day : ℕ) → AddsAfter (on editions day) → cells_of (on editions day) [] ≡ no_fares → (journeys : List Journey) (taps : List Touch) (none first second : CellSums) → none ≡ no_fares
    → first ≡ with_each editions day none journeys → second ≡ with_each editions day first (bus_journeys editions taps) → second ≡ cells_on editions journeys taps day
of_day editions day beyond empty journeys taps none first second is by_rail by_bus =
    by_bus ∙ ap (λ (sums : CellSums). with_each editions day sums (bus_journeys editions taps)) (by_rail ∙ ap (λ (sums : CellSums). with_each editions day sums journeys) (is ∙ sym empty))
    ∙ sym (fold-append (with_journey editions day) (cells_of (on editions day) []) journeys (bus_journeys editions taps))
    ∙ one_by_one editions day beyond [] (journeys ++ bus_journeys editions taps)

-- one journey after another
pub next_of_day : (editions : FareEditions) (day : ℕ) (sums now whole : CellSums) (list : List Journey) (i : ℕ) (journey : Journey) → i < length list → journey ≡ get_or list i journey
    → now ≡ with_journey editions day sums journey → with_each editions day sums (drop i list) ≡ whole → with_each editions day now (drop (i + 1) list) ≡ whole
next_of_day editions day sums now whole list i journey below is same before =
    ap (λ (s : CellSums). with_each editions day s (drop (i + 1) list)) (same ∙ ap (with_journey editions day sums) is)
    ∙ ap (λ (j : ℕ). with_each editions day (with_journey editions day sums (get_or list i journey)) (drop j list)) (add-one i)
    ∙ ap (λ (rest : List Journey). with_each editions day sums rest) (sym (drop-cons list i journey below))
    ∙ before

-- the reason by the sums of a day is that of its journeys
pub reason_is : (editions : FareEditions) → DaySumsGiveReasons editions → (journeys : List Journey) (taps : List Touch) (day : ℕ) (tables : FareTables) (cells : CellSums) (reason : CapReason)
    → tables ≡ on editions day → cells ≡ cells_on editions journeys taps day → reason ≡ cap_reason (sums_of_day tables cells)
    → reason ≡ day_reason (on editions day) (journeys_on (journeys ++ bus_journeys editions taps) day)
reason_is editions by_sums journeys taps day tables cells reason of_day summed is =
    is ∙ ap (λ (its : FareTables). cap_reason (sums_of_day its cells)) of_day ∙ ap (λ (sums : CellSums). cap_reason (sums_of_day (on editions day) sums)) summed
    ∙ by_sums day (journeys_on (journeys ++ bus_journeys editions taps) day)
