-- The sums of journeys: of one journey more, of those that a band leaves outside, and in any order.
use Rattle.std.proofs.Common.{◌≡◌, ℕ, ◌+◌, ◌-◌, Bool, true, false, not, ◌&&◌, if◌then◌else◌, List, [], ◌∷◌, ◌++◌, map, filter, length, sum_by, refl, ap, sym, ◌∙◌, arith}
use Rattle.std.specs.Prelude.{IsPermutation}
use Rattle.std.specs.List.{zip}
use Rattle.std.proofs.lemmas.Bool.Decides.{nat_tests}
use Rattle.std.proofs.lemmas.List.Sorted.{sum_by-IsPermutation}
use Rattle.std.proofs.lemmas.List.Sums.{sum_by_push}
use Rattle.pay_tables.specs.declared.band.Band.{Band}
use Rattle.pay_tables.specs.declared.band.Cover.{Cover}
use Rattle.pay_tables.specs.declared.band.Cover.TheVariants as cover
use Rattle.pay_tables.specs.declared.zones.Span.{Span}
use Rattle.pay_tables.specs.Bands.{covers_span}
use Rattle.pay_tables.specs.Spans.{same_span}
use Rattle.pay_tables.specs.Words.{FareTables}
use Rattle.pay_rules.specs.declared.journey.Journey.{Journey}
use Rattle.pay_rules.specs.JourneyFares.{fare}
use Rattle.pay_rules.specs.declared.journey.Journey.TheVariants.{Run, Same, Lone, Bus}
use Rattle.pay_caps.specs.declared.cell.Cell.{Cell}
use Rattle.pay_caps.specs.declared.cell.Cell.TheVariants as cell
use Rattle.pay_caps.specs.declared.limits.TheConstants.{SPANS}
use Rattle.pay_caps.specs.CellSums.{CellSums}
use Rattle.pay_rules.specs.Covers.{covers}
use Rattle.pay_caps.specs.CellOf.{cell_of}
use Rattle.pay_caps.specs.Cells.{all_spans, added, taken, outside, is_cell, fares_in, cells_of}
use Rattle.pay_rules.specs.DayPrices.{not_covered}
use Rattle.pay_caps.proofs.Sums.{if_passed, sum_kept, sum_passed, sum_passed_both, sum_same, sum_none, map_same}
use Rattle.pay_caps.proofs.Weights.{changed_where}

abbrev sums : List ℕ → ℕ → ℕ → CellSums
sums spans buses maximum = record { spans = spans; buses = buses; maximum = maximum }

sums_same : (a b : List ℕ) (c d e f : ℕ) → a ≡ b → c ≡ d → e ≡ f → sums a c e ≡ sums b d f
sums_same a b c d e f p q r = ap (λ (x : List ℕ). sums x c e) p ∙ ap (λ (x : ℕ). sums b x e) q ∙ ap (λ (x : ℕ). sums b d x) r

-- ---- one journey more

beside : {X : Type 0} (f : X → ℕ) (p : X → Bool) (k : ℕ) (g : X → ℕ) → ((x : X) → g x ≡ f x + if_passed (p x) k) → (xs : List X)
    → map g xs ≡ changed_where p (λ n. n + k) xs (map f xs)
beside f p k g h [] = refl
beside f p k g h (x ∷ xs) = ap (λ (n : ℕ). n ∷ map g xs) (h x ∙ chosen (p x) (f x) k) ∙ ap (λ (ns : List ℕ). (if p x then f x + k else f x) ∷ ns) (beside f p k g h xs)
  where
    chosen : (b : Bool) (n k : ℕ) → n + if_passed b k ≡ (if b then n + k else n)
    chosen true n k = refl
    chosen false n k = omega arith

-- where each sum grows by a fare that counts there, the fare is added
added_where : (tables : FareTables) (list grown : List Journey) (its : Cell) (pence : ℕ) → ((one : Cell) → fares_in tables grown one ≡ fares_in tables list one + if_passed (is_cell one its) pence)
    → cells_of tables grown ≡ added its pence (cells_of tables list)
added_where tables list grown (cell.Rail span) pence h =
    sums_same _ _ _ _ _ _
    (beside (λ (s : Span). fares_in tables list (cell.Rail s)) (λ (s : Span). same_span s span) pence (λ (s : Span). fares_in tables grown (cell.Rail s)) (λ s. h (cell.Rail s)) all_spans)
    (omega (arith, h cell.Buses))
    (omega (arith, h cell.Maximum))
added_where tables list grown cell.Buses pence h =
    sums_same _ _ _ _ _ _
    (map_same (λ (s : Span). fares_in tables grown (cell.Rail s)) (λ (s : Span). fares_in tables list (cell.Rail s)) (λ s. omega (arith, h (cell.Rail s))) all_spans)
    (h cell.Buses)
    (omega (arith, h cell.Maximum))
added_where tables list grown cell.Maximum pence h =
    sums_same _ _ _ _ _ _
    (map_same (λ (s : Span). fares_in tables grown (cell.Rail s)) (λ (s : Span). fares_in tables list (cell.Rail s)) (λ s. omega (arith, h (cell.Rail s))) all_spans)
    (omega (arith, h cell.Buses))
    (h cell.Maximum)

-- before the others, or after them
pub one_journey_more : (tables : FareTables) (journey : Journey) (list : List Journey) → cells_of tables (journey ∷ list) ≡ added (cell_of tables journey) (fare tables journey) (cells_of tables list)
one_journey_more tables journey list =
    added_where tables list (journey ∷ list) (cell_of tables journey) (fare tables journey) (λ one.
    sum_kept (fare tables) (is_cell one (cell_of tables journey)) journey (filter (λ other. is_cell one (cell_of tables other)) list))

pub one_journey_after : (tables : FareTables) (journey : Journey) (list : List Journey)
    → cells_of tables (list ++ journey ∷ []) ≡ added (cell_of tables journey) (fare tables journey) (cells_of tables list)
one_journey_after tables journey list =
    added_where tables list (list ++ journey ∷ []) (cell_of tables journey) (fare tables journey) (λ one.
    let p : Journey → Bool = λ other. is_cell one (cell_of tables other) in
    sum_passed (fare tables) p (list ++ journey ∷ []) ∙ sum_by_push (λ other. if_passed (p other) (fare tables other)) list journey
    ∙ ap (λ (n : ℕ). n + if_passed (p journey) (fare tables journey)) (sym (sum_passed (fare tables) p list)))

-- ---- in any order

fares_in_any_order : (tables : FareTables) (list other : List Journey) → IsPermutation list other → (one : Cell) → fares_in tables list one ≡ fares_in tables other one
fares_in_any_order tables list other moved one =
    let p : Journey → Bool = λ journey. is_cell one (cell_of tables journey) in
    sum_passed (fare tables) p list ∙ sym (sum_by-IsPermutation (λ journey. if_passed (p journey) (fare tables journey)) list other moved) ∙ sym (sum_passed (fare tables) p other)

pub cells_in_any_order : (tables : FareTables) (list other : List Journey) → IsPermutation list other → cells_of tables list ≡ cells_of tables other
cells_in_any_order tables list other moved =
    sums_same _ _ _ _ _ _
    (map_same (λ (s : Span). fares_in tables list (cell.Rail s)) (λ (s : Span). fares_in tables other (cell.Rail s)) (λ s. fares_in_any_order tables list other moved (cell.Rail s)) all_spans)
    (fares_in_any_order tables list other moved cell.Buses)
    (fares_in_any_order tables list other moved cell.Maximum)

-- ---- outside of a band

-- spans that are the same are covered alike
alike : (of : Cover) (s span : Span) → same_span s span ≡ true → covers_span of s ≡ covers_span of span
alike of s span e = let both = same_parts s span e in same_covered of s span both.0 both.1
  where
    same_parts : (s span : Span) → same_span s span ≡ true → (s.from ≡ span.from) × (s.to ≡ span.to)
    same_parts s span e = (grind (arith, nat_tests), grind (arith, nat_tests))

    same_covered : (of : Cover) (s span : Span) → s.from ≡ span.from → s.to ≡ span.to → covers_span of s ≡ covers_span of span
    same_covered cover.Buses s span p q = refl
    same_covered (cover.Zones zones) s span p q = rw (p, q) refl

-- what a journey by rail adds to the sum of a span, outside of a band
outside_part : (covered its_covered same : Bool) (pence : ℕ) → (same ≡ true → covered ≡ its_covered) → if_passed (not its_covered && same) pence ≡ (if covered then 0 else if_passed same pence)
outside_part true true same pence h = refl
outside_part false false same pence h = refl
outside_part true false true pence h = absurd (let e = h refl in cc)
outside_part true false false pence h = refl
outside_part false true true pence h = absurd (let e = h refl in cc)
outside_part false true false pence h = refl

none_of : (covered : Bool) (b : Bool) (pence : ℕ) → b ≡ false → if_passed b pence ≡ (if covered then 0 else if_passed false pence)
none_of true b pence e = rw e refl
none_of false b pence e = rw e refl

outside_of_span : (tables : FareTables) (band : Band) (s : Span) (journey : Journey)
    → if_passed (not (covers tables band journey) && is_cell (cell.Rail s) (cell_of tables journey)) (fare tables journey)
    ≡ (if covers_span band.cover s then 0 else if_passed (is_cell (cell.Rail s) (cell_of tables journey)) (fare tables journey))
outside_of_span tables band s (Run legs) = outside_part (covers_span band.cover s) _ _ (fare tables (Run legs)) (alike band.cover s _)
outside_of_span tables band s (Same leg) = outside_part (covers_span band.cover s) _ _ (fare tables (Same leg)) (alike band.cover s _)
outside_of_span tables band s (Lone tap) = none_of (covers_span band.cover s) false (fare tables (Lone tap)) refl
outside_of_span tables band s (Bus tap pays) = none_of (covers_span band.cover s) false (fare tables (Bus tap pays)) refl

neither : (b : Bool) (n : ℕ) → if_passed (b && false) n ≡ 0
neither true n = refl
neither false n = refl

no_boarding_outside : (tables : FareTables) (band : Band) (journey : Journey) → if_passed (not (covers tables band journey) && is_cell cell.Buses (cell_of tables journey)) (fare tables journey) ≡ 0
no_boarding_outside tables band (Run legs) = neither (not (covers tables band (Run legs))) (fare tables (Run legs))
no_boarding_outside tables band (Same leg) = neither (not (covers tables band (Same leg))) (fare tables (Same leg))
no_boarding_outside tables band (Lone tap) = refl
no_boarding_outside tables band (Bus tap pays) = refl

maximum_outside : (tables : FareTables) (band : Band) (journey : Journey)
    → if_passed (not (covers tables band journey) && is_cell cell.Maximum (cell_of tables journey)) (fare tables journey) ≡ if_passed (is_cell cell.Maximum (cell_of tables journey)) (fare tables journey)
maximum_outside tables band (Run legs) = neither (not (covers tables band (Run legs))) (fare tables (Run legs))
maximum_outside tables band (Same leg) = neither (not (covers tables band (Same leg))) (fare tables (Same leg))
maximum_outside tables band (Lone tap) = refl
maximum_outside tables band (Bus tap pays) = refl

all_or_none : {X : Type 0} (covered : Bool) (f : X → ℕ) (xs : List X) → sum_by (λ x. if covered then 0 else f x) xs ≡ (if covered then 0 else sum_by f xs)
all_or_none true f xs = sum_none (λ _. 0) (λ _. refl) xs
all_or_none false f xs = refl

fares_outside : (tables : FareTables) (band : Band) (list : List Journey) (s : Span)
    → fares_in tables (not_covered tables band list) (cell.Rail s) ≡ (if covers_span band.cover s then 0 else fares_in tables list (cell.Rail s))
fares_outside tables band list s =
    let p : Journey → Bool = λ journey. is_cell (cell.Rail s) (cell_of tables journey) in
    sum_passed_both (fare tables) p (λ journey. not (covers tables band journey)) list
    ∙ sum_same _ _ (outside_of_span tables band s) list
    ∙ all_or_none (covers_span band.cover s) (λ journey. if_passed (p journey) (fare tables journey)) list
    ∙ ap (λ (n : ℕ). if covers_span band.cover s then 0 else n) (sym (sum_passed (fare tables) p list))

beside_all : {X : Type 0} (c : X → Bool) (f : X → ℕ) (g : X → ℕ) → ((x : X) → g x ≡ (if c x then 0 else f x)) → (xs : List X)
    → map g xs ≡ map (λ (one : X × ℕ). if c one.0 then 0 else one.1) (zip xs (map f xs))
beside_all c f g h [] = refl
beside_all {X} c f g h (x ∷ xs) =
    ap (λ (n : ℕ). n ∷ map g xs) (h x) ∙ ap (λ (ns : List ℕ). (if c x then 0 else f x) ∷ ns) (beside_all c f g h xs)

-- the sums of the journeys that a band leaves outside are what it leaves outside of their sums
pub cells_outside : (tables : FareTables) (band : Band) (list : List Journey) → cells_of tables (not_covered tables band list) ≡ outside band.cover (cells_of tables list)
cells_outside tables band list =
    let q : Journey → Bool = λ journey. not (covers tables band journey) in
    sums_same _ _ _ _ _ _
    (beside_all (covers_span band.cover) (λ (s : Span). fares_in tables list (cell.Rail s)) (λ (s : Span). fares_in tables (not_covered tables band list) (cell.Rail s)) (fares_outside tables band list) all_spans)
    (sum_passed_both (fare tables) (λ journey. is_cell cell.Buses (cell_of tables journey)) q list ∙ sum_none _ (no_boarding_outside tables band) list)
    (sum_passed_both (fare tables) (λ journey. is_cell cell.Maximum (cell_of tables journey)) q list ∙ sum_same _ _ (maximum_outside tables band) list
    ∙ sym (sum_passed (fare tables) (λ journey. is_cell cell.Maximum (cell_of tables journey)) list))

-- ---- a fare that was added is taken

taken_beside : {X : Type 0} (p : X → Bool) (k : ℕ) (xs : List X) (ns : List ℕ) → length ns ≡ length xs → changed_where p (λ n. n - k) xs (changed_where p (λ n. n + k) xs ns) ≡ ns
taken_beside p k [] [] len = refl
taken_beside p k [] (n ∷ ns) len = absurd (omega (arith, len))
taken_beside p k (x ∷ xs) [] len = absurd (omega (arith, len))
taken_beside p k (x ∷ xs) (n ∷ ns) len =
    ap (λ (m : ℕ). m ∷ changed_where p (λ n. n - k) xs (changed_where p (λ n. n + k) xs ns)) (there_and_back (p x) n k)
    ∙ ap (λ (ms : List ℕ). n ∷ ms) (taken_beside p k xs ns (omega (arith, len)))
  where
    there_and_back : (b : Bool) (n k : ℕ) → (if b then (if b then n + k else n) - k else (if b then n + k else n)) ≡ n
    there_and_back true n k = omega arith
    there_and_back false n k = refl

back : (n k : ℕ) → n + k - k ≡ n
back n k = omega arith

pub taken_again : (its : Cell) (pence : ℕ) (all : CellSums) → length all.spans ≡ SPANS → taken its pence (added its pence all) ≡ all
taken_again (cell.Rail span) pence all len = ap (λ (spans : List ℕ). sums spans all.buses all.maximum) (taken_beside (λ (s : Span). same_span s span) pence all_spans all.spans len)
taken_again cell.Buses pence all len = ap (λ (n : ℕ). sums all.spans n all.maximum) (back all.buses pence)
taken_again cell.Maximum pence all len = ap (λ (n : ℕ). sums all.spans all.buses n) (back all.maximum pence)
