-- The sums of a day's fares, and those of the days of a week.
use Rattle.std.proofs.Common.{◌≡◌, ℕ, ◌+◌, ◌-◌, ◌≤◌, ◌<◌, ◌==◌, ◌&&◌, nat_le, nat_lt, zero, suc, Bool, true, false, if◌then◌else◌, List, [], ◌∷◌, ◌++◌, length, get_or, slice_set, replicate, drop, map, refl, ap, sym, ◌∙◌, add-one, append_assoc, arith}
use Rattle.std.proofs.Math.Seq.{drop-cons}
use Rattle.std.specs.List.{range_with_len, zip}
use Rattle.std.proofs.lemmas.Bool.Decides.{nat_tests}
use Rattle.std.proofs.lemmas.List.{append-nil, drop_all}
use Rattle.std.proofs.lemmas.List.Sums.{fold-append}
use Rattle.std.proofs.lemmas.List.FromFn.{get_or-map-range_with_len, length-map-range_with_len}
use Rattle.pay_day.specs.Words.{IsDay, monday, sunday, day_of_week}
use Rattle.pay_day.specs.declared.limits.TheConstants.{DAYS_PER_WEEK}
use Rattle.pay_tables.specs.Words.{FareEditions, FareTables, on}
use Rattle.pay_rules.specs.declared.journey.Journey.{Journey}
use Rattle.pay_rules.specs.RailJourneys.{first_tap}
use Rattle.pay_rules.specs.JourneyFares.{fare}
use Rattle.pay_week.specs.Words.{CellSums, DaySums, added, no_fares, cell_of, cells_of, sums_of_days}
use Rattle.pay_rules.specs.Journeys.{is_on}
use Rattle.pay_rules.specs.Prices.{journeys_on, with_journeys, days_through}
use Rattle.pay_account.specs.WeekCells.{with_journey, with_each, week_with_journey, week_with_journeys}

-- a fare more, after the others
abbrev pub AddsAfter : FareTables → Type 0
AddsAfter tables = (journey : Journey) (list : List Journey) → cells_of tables (list ++ journey ∷ []) ≡ added (cell_of tables journey) (fare tables journey) (cells_of tables list)

one_by_one : (editions : FareEditions) (day : ℕ) → AddsAfter (on editions day) → (done list : List Journey) → with_each editions day (cells_of (on editions day) done) list ≡ cells_of (on editions day) (done ++ journeys_on list day)
one_by_one editions day beyond done [] = ap (cells_of (on editions day)) (sym (append-nil done))
one_by_one editions day beyond done (journey ∷ list) = with_or_without (is_on day journey) (one_by_one editions day beyond (done ++ journey ∷ []) list) (one_by_one editions day beyond done list)
  where
    with_or_without : (b : Bool) → with_each editions day (cells_of (on editions day) (done ++ journey ∷ [])) list ≡ cells_of (on editions day) ((done ++ journey ∷ []) ++ journeys_on list day)
        → with_each editions day (cells_of (on editions day) done) list ≡ cells_of (on editions day) (done ++ journeys_on list day)
        → with_each editions day (if b then added (cell_of (on editions day) journey) (fare (on editions day) journey) (cells_of (on editions day) done) else cells_of (on editions day) done) list
        ≡ cells_of (on editions day) (done ++ (if b then journey ∷ journeys_on list day else journeys_on list day))
    with_or_without true more same =
        ap (λ (sums : CellSums). with_each editions day sums list) (sym (beyond journey done)) ∙ more ∙ ap (cells_of (on editions day)) (append_assoc done (journey ∷ []) (journeys_on list day))
    with_or_without false more same = same

-- the sums of a day's journeys
pub of_day : (editions : FareEditions) (day : ℕ) → AddsAfter (on editions day) → cells_of (on editions day) [] ≡ no_fares → (list : List Journey) → with_each editions day no_fares list ≡ cells_of (on editions day) (journeys_on list day)
of_day editions day beyond none list = ap (λ (sums : CellSums). with_each editions day sums list) (sym none) ∙ one_by_one editions day beyond [] list

-- where a loop has met all of them
pub of_day_so_far : (editions : FareEditions) (day : ℕ) → AddsAfter (on editions day) → cells_of (on editions day) [] ≡ no_fares → (list : List Journey) (sums : CellSums) (met : ℕ) → length list ≤ met
    → with_each editions day sums (drop met list) ≡ with_each editions day no_fares list → sums ≡ cells_of (on editions day) (journeys_on list day)
of_day_so_far editions day beyond none list sums met all so_far =
    ap (with_each editions day sums) (sym (drop_all met list all)) ∙ so_far ∙ of_day editions day beyond none list

-- a week, from its Monday through its Sunday, has seven days
pub monday_of_sunday : (day : ℕ) → IsDay day → monday (sunday day) ≡ monday day
monday_of_sunday day is_day = omega (arith, is_day)

pub days_of_week : (day : ℕ) → IsDay day → days_through (sunday day) ≡ range_with_len (monday day) DAYS_PER_WEEK
days_of_week day is_day =
    let count : sunday day + 1 - monday day ≡ DAYS_PER_WEEK = omega arith in
    ap (λ (from : ℕ). range_with_len from (sunday day + 1 - from)) (monday_of_sunday day is_day) ∙ ap (range_with_len (monday day)) count

-- and a day's own is at its place in the week
pub at_its_day : (f : ℕ → CellSums) (week : List CellSums) (day place : ℕ) (none : CellSums) → IsDay day → week ≡ map f (days_through (sunday day)) → place ≡ day_of_week day → get_or week place none ≡ f day
at_its_day f week day place none is_day all is =
    ap (λ (list : List CellSums). get_or list place none) (all ∙ ap (map f) (days_of_week day is_day))
    ∙ get_or-map-range_with_len f (monday day) DAYS_PER_WEEK place day none (omega (arith, is, is_day)) (omega (arith, is, is_day))

-- one journey after another
pub next_journey : (editions : FareEditions) (monday : ℕ) (week now whole : List CellSums) (list : List Journey) (i : ℕ) (journey : Journey) → i < length list → journey ≡ get_or list i journey
    → now ≡ week_with_journey editions monday week journey → week_with_journeys editions monday week (drop i list) ≡ whole → week_with_journeys editions monday now (drop (i + 1) list) ≡ whole
next_journey editions monday week now whole list i journey below is same before =
    ap (λ (w : List CellSums). week_with_journeys editions monday w (drop (i + 1) list)) (same ∙ ap (week_with_journey editions monday week) is)
    ∙ ap (λ (j : ℕ). week_with_journeys editions monday (week_with_journey editions monday week (get_or list i journey)) (drop j list)) (add-one i)
    ∙ ap (λ (rest : List Journey). week_with_journeys editions monday week rest) (sym (drop-cons list i journey below))
    ∙ before

-- and of one day alone
pub next_of_day : (editions : FareEditions) (day : ℕ) (sums now whole : CellSums) (list : List Journey) (i : ℕ) (journey : Journey) → i < length list → journey ≡ get_or list i journey
    → now ≡ with_journey editions day sums journey → with_each editions day sums (drop i list) ≡ whole → with_each editions day now (drop (i + 1) list) ≡ whole
next_of_day editions day sums now whole list i journey below is same before =
    ap (λ (s : CellSums). with_each editions day s (drop (i + 1) list)) (same ∙ ap (with_journey editions day sums) is)
    ∙ ap (λ (j : ℕ). with_each editions day (with_journey editions day sums (get_or list i journey)) (drop j list)) (add-one i)
    ∙ ap (λ (rest : List Journey). with_each editions day sums rest) (sym (drop-cons list i journey below))
    ∙ before

-- ---- the days of a week

-- what is of one day, where that is the one
abbrev at_day : (CellSums → CellSums) → (ℕ → CellSums) → ℕ → ℕ → CellSums
at_day change sums its day = if its == day then change (sums day) else sums day

differ : (a b : ℕ) → a < b → (a == b) ≡ false
differ a b below = grind (arith, nat_tests)

differ_above : (a b : ℕ) → b < a → (a == b) ≡ false
differ_above a b above = grind (arith, nat_tests)

same : (a b : ℕ) → a ≡ b → (a == b) ≡ true
same a b is = grind (arith, nat_tests)

not_below : (a b : ℕ) → nat_le a b ≡ true → a ≤ b
not_below a b e = grind (arith, nat_tests)

too_early : (a b : ℕ) → nat_le a b ≡ false → b < a
too_early a b e = grind (arith, nat_tests)

below : (a b : ℕ) → nat_lt a b ≡ true → a < b
below a b e = grind (arith, nat_tests)

not_before : (a b : ℕ) → nat_lt a b ≡ false → b ≤ a
not_before a b e = grind (arith, nat_tests)

before_days : (change : CellSums → CellSums) (sums : ℕ → CellSums) (its from n : ℕ) → its < from → map (at_day change sums its) (range_with_len from n) ≡ map sums (range_with_len from n)
before_days change sums its from zero below = refl
before_days change sums its from (suc n) below = rw (differ its from below) (ap (λ (rest : List CellSums). sums from ∷ rest) (before_days change sums its (from + 1) n (omega (arith, below))))

after_days : (change : CellSums → CellSums) (sums : ℕ → CellSums) (its from n : ℕ) → from + n ≤ its → map (at_day change sums its) (range_with_len from n) ≡ map sums (range_with_len from n)
after_days change sums its from zero above = refl
after_days change sums its from (suc n) above = rw (differ_above its from (omega (arith, above))) (ap (λ (rest : List CellSums). sums from ∷ rest) (after_days change sums its (from + 1) n (omega (arith, above))))

among_days : (change : CellSums → CellSums) (sums : ℕ → CellSums) (its from n i : ℕ) → its ≡ from + i → i < n
    → map (at_day change sums its) (range_with_len from n) ≡ slice_set (map sums (range_with_len from n)) i (change (sums its))
among_days change sums its from zero i is below = absurd (omega (arith, below))
among_days change sums its from (suc n) zero is below =
    let first : its ≡ from = omega (arith, is) in
    rw (same its from first)
    (ap (λ (rest : List CellSums). change (sums from) ∷ rest) (before_days change sums its (from + 1) n (omega (arith, first)))
    ∙ ap (λ (day : ℕ). change (sums day) ∷ map sums (range_with_len (from + 1) n)) (sym first))
among_days change sums its from (suc n) (suc i) is below =
    rw (differ_above its from (omega (arith, is))) (ap (λ (rest : List CellSums). sums from ∷ rest) (among_days change sums its (from + 1) n i (omega (arith, is)) (omega (arith, below))))

where_it_is : (change : CellSums → CellSums) (sums : ℕ → CellSums) (monday its : ℕ) (b c : Bool) → nat_le monday its ≡ b → nat_lt (its - monday) DAYS_PER_WEEK ≡ c
    → (if b && c then slice_set (map sums (range_with_len monday DAYS_PER_WEEK)) (its - monday) (change (get_or (map sums (range_with_len monday DAYS_PER_WEEK)) (its - monday) no_fares))
    else map sums (range_with_len monday DAYS_PER_WEEK))
    ≡ map (at_day change sums its) (range_with_len monday DAYS_PER_WEEK)
where_it_is change sums monday its true true low high =
    let from : monday ≤ its = not_below monday its low in
    let to : its - monday < DAYS_PER_WEEK = below (its - monday) DAYS_PER_WEEK high in
    ap (λ (s : CellSums). slice_set (map sums (range_with_len monday DAYS_PER_WEEK)) (its - monday) (change s))
    (get_or-map-range_with_len sums monday DAYS_PER_WEEK (its - monday) its no_fares to (omega (arith, from)))
    ∙ sym (among_days change sums its monday DAYS_PER_WEEK (its - monday) (omega (arith, from)) to)
where_it_is change sums monday its true false low high =
    sym (after_days change sums its monday DAYS_PER_WEEK (omega (arith, not_below monday its low, not_before (its - monday) DAYS_PER_WEEK high)))
where_it_is change sums monday its false c low high = sym (before_days change sums its monday DAYS_PER_WEEK (too_early monday its low))

map_same : {X Y : Type 0} (f g : X → Y) → ((x : X) → f x ≡ g x) → (xs : List X) → map f xs ≡ map g xs
map_same f g h [] = refl
map_same f g h (x ∷ xs) = ap (λ y. y ∷ map f xs) (h x) ∙ ap (λ ys. g x ∷ ys) (map_same f g h xs)

-- what a journey adds to the sums of a day, by the edition of that
abbrev more_on : FareEditions → Journey → ℕ → CellSums → CellSums
more_on editions journey day = added (cell_of (on editions day) journey) (fare (on editions day) journey)

-- one journey is added to the sums of its day alone
one_in_week : (editions : FareEditions) (monday : ℕ) (sums : ℕ → CellSums) (journey : Journey)
    → week_with_journey editions monday (map sums (range_with_len monday DAYS_PER_WEEK)) journey ≡ map (λ day. with_journey editions day (sums day) journey) (range_with_len monday DAYS_PER_WEEK)
one_in_week editions monday sums journey =
    let its : ℕ = (first_tap journey).stamp.day in
    where_it_is (more_on editions journey its) sums monday its (nat_le monday its) (nat_lt (its - monday) DAYS_PER_WEEK) refl refl
    ∙ map_same (at_day (more_on editions journey its) sums its) (λ day. with_journey editions day (sums day) journey) (λ day. its_own its day (its == day) refl) (range_with_len monday DAYS_PER_WEEK)
  where
    equal : (a b : ℕ) → (a == b) ≡ true → a ≡ b
    equal a b e = grind (arith, nat_tests)

    its_own : (its day : ℕ) (b : Bool) → (its == day) ≡ b → (if b then more_on editions journey its (sums day) else sums day) ≡ (if b then more_on editions journey day (sums day) else sums day)
    its_own its day true e = ap (λ (other : ℕ). more_on editions journey other (sums day)) (equal its day e)
    its_own its day false e = refl

all_in_week : (editions : FareEditions) (monday : ℕ) (sums : ℕ → CellSums) (list : List Journey)
    → week_with_journeys editions monday (map sums (range_with_len monday DAYS_PER_WEEK)) list ≡ map (λ day. with_each editions day (sums day) list) (range_with_len monday DAYS_PER_WEEK)
all_in_week editions monday sums [] = refl
all_in_week editions monday sums (journey ∷ list) =
    ap (λ (week : List CellSums). week_with_journeys editions monday week list) (one_in_week editions monday sums journey)
    ∙ all_in_week editions monday (λ day. with_journey editions day (sums day) journey) list

-- the sums of the journeys of a day, by its edition
abbrev pub sums_on : FareEditions → List Journey → ℕ → CellSums
sums_on editions list day = cells_of (on editions day) (journeys_on list day)

-- journeys put to seven days without fares
pub of_days : (editions : FareEditions) → ((tables : FareTables) → AddsAfter tables) → ((tables : FareTables) → cells_of tables [] ≡ no_fares) → (day : ℕ) → IsDay day → (list : List Journey)
    → week_with_journeys editions (monday day) (replicate DAYS_PER_WEEK no_fares) list ≡ map (sums_on editions list) (days_through (sunday day))
of_days editions beyond none day is_day list =
    all_in_week editions (monday day) (λ _. no_fares) list
    ∙ map_same (λ each. with_each editions each no_fares list) (sums_on editions list) (λ each. of_day editions each (beyond (on editions each)) (none (on editions each)) list) (range_with_len (monday day) DAYS_PER_WEEK)
    ∙ sym (ap (map (sums_on editions list)) (days_of_week day is_day))

-- and those of two lists, one after the other
pub of_week : (editions : FareEditions) → ((tables : FareTables) → AddsAfter tables) → ((tables : FareTables) → cells_of tables [] ≡ no_fares) → (day : ℕ) → IsDay day → (rail buses : List Journey)
    → week_with_journeys editions (monday day) (week_with_journeys editions (monday day) (replicate DAYS_PER_WEEK no_fares) rail) buses
    ≡ map (sums_on editions (rail ++ buses)) (days_through (sunday day))
of_week editions beyond none day is_day rail buses =
    sym (fold-append (week_with_journey editions (monday day)) (replicate DAYS_PER_WEEK no_fares) rail buses)
    ∙ of_days editions beyond none day is_day (rail ++ buses)

-- some days, each beside its sums
pub each_day : (editions : FareEditions) (list : List Journey) (days : List ℕ) → zip days (map (sums_on editions list) days) ≡ sums_of_days editions (map (with_journeys list) days)
each_day editions list [] = refl
each_day editions list (day ∷ days) = ap (λ (rest : List DaySums). (day, sums_on editions list day) ∷ rest) (each_day editions list days)

-- and those of so many days from one on
pub days_beside : (editions : FareEditions) (list : List Journey) (first n : ℕ) (sums : List CellSums) → sums ≡ map (sums_on editions list) (range_with_len first n)
    → zip (range_with_len first (length sums)) sums ≡ sums_of_days editions (map (with_journeys list) (range_with_len first n))
days_beside editions list first n sums are =
    ap (λ (those : List CellSums). zip (range_with_len first (length those)) those) are
    ∙ ap (λ (k : ℕ). zip (range_with_len first k) (map (sums_on editions list) (range_with_len first n))) (length-map-range_with_len (sums_on editions list) first n)
    ∙ each_day editions list (range_with_len first n)
