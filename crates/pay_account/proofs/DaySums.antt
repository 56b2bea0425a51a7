-- The fares of the days of a week, added up day by day, and all at once.
use Rattle.std.proofs.Common.{◌≡◌, ℕ, ◌+◌, ◌-◌, ◌≤◌, ◌==◌, ◌&&◌, nat_le, nat_lt, zero, suc, Bool, true, false, if◌then◌else◌, List, [], ◌∷◌, map, filter, sum_by, refl, ap, sym, ◌∙◌, arith}
use Rattle.std.specs.List.{range_with_len}
use Rattle.std.proofs.lemmas.Bool.Decides.{nat_tests}
use Rattle.std.proofs.lemmas.List.Sums.{sum_by-cons}
use Rattle.pay_day.specs.Words.{monday}
use Rattle.pay_tables.specs.Words.{FareEditions, on}
use Rattle.pay_rules.specs.declared.journey.Journey.{Journey}
use Rattle.pay_rules.specs.RailJourneys.{first_tap}
use Rattle.pay_rules.specs.JourneyFares.{fare, fare_by}
use Rattle.pay_week.specs.Words.{cells_of, total}
use Rattle.pay_rules.specs.DayPrices.{fares}
use Rattle.pay_rules.specs.Journeys.{is_on}
use Rattle.pay_rules.specs.Prices.{journeys_on, days_through, is_within, journeys_through}

-- a test as a number, so that of two tests at most one holds where these sum to a third's
count : Bool → ℕ
count true = 1
count false = 0

-- a number where a test holds
abbrev where_so : Bool → ℕ → ℕ
where_so b n = if b then n else 0

more_or_not : (f : Journey → ℕ) (b : Bool) (x : Journey) (xs : List Journey) → sum_by f (if b then x ∷ xs else xs) ≡ where_so b (f x) + sum_by f xs
more_or_not f true x xs = sum_by-cons f x xs
more_or_not f false x xs = omega arith

one_part : (n : ℕ) (a b c : Bool) → count c ≡ count a + count b → where_so c n ≡ where_so a n + where_so b n
unfolding count
one_part n true true true e = absurd (omega (arith, e))
one_part n true true false e = absurd (omega (arith, e))
one_part n true false true e = omega arith
one_part n true false false e = absurd (omega (arith, e))
one_part n false true true e = omega arith
one_part n false true false e = absurd (omega (arith, e))
one_part n false false true e = absurd (omega (arith, e))
one_part n false false false e = refl

-- what is in one of two parts
parted : (f : Journey → ℕ) (p q r : Journey → Bool) → ((x : Journey) → count (r x) ≡ count (p x) + count (q x)) → (xs : List Journey) → sum_by f (filter r xs) ≡ sum_by f (filter p xs) + sum_by f (filter q xs)
parted f p q r h [] = refl
parted f p q r h (x ∷ xs) =
    omega (arith, more_or_not f (r x) x (filter r xs), more_or_not f (p x) x (filter p xs), more_or_not f (q x) x (filter q xs), one_part (f x) (p x) (q x) (r x) (h x), parted f p q r h xs)

-- whether a day is one of so many from a day on
among : ℕ → ℕ → ℕ → Bool
among from n day = nat_le from day && nat_lt day (from + n)

none_among : (from day : ℕ) (a b : Bool) → nat_le from day ≡ a → nat_lt day (from + 0) ≡ b → (a && b) ≡ false
none_among from day true true low high = absurd (grind (arith, nat_tests))
none_among from day true false low high = refl
none_among from day false b low high = refl

first_or_later : (from n day : ℕ) (a b c d e : Bool) → nat_le from day ≡ a → nat_lt day (from + suc n) ≡ b → (day == from) ≡ c → nat_le (from + 1) day ≡ d → nat_lt day (from + 1 + n) ≡ e
    → count (a && b) ≡ count c + count (d && e)
unfolding count
first_or_later from n day true true true true e p q r s t = absurd (grind (arith, nat_tests))
first_or_later from n day true true true false e p q r s t = refl
first_or_later from n day true true false true true p q r s t = refl
first_or_later from n day true true false true false p q r s t = absurd (grind (arith, nat_tests))
first_or_later from n day true true false false e p q r s t = absurd (grind (arith, nat_tests))
first_or_later from n day true false true d e p q r s t = absurd (grind (arith, nat_tests))
first_or_later from n day true false false true true p q r s t = absurd (grind (arith, nat_tests))
first_or_later from n day true false false true false p q r s t = refl
first_or_later from n day true false false false e p q r s t = refl
first_or_later from n day false b true d e p q r s t = absurd (grind (arith, nat_tests))
first_or_later from n day false b false true e p q r s t = absurd (grind (arith, nat_tests))
first_or_later from n day false b false false e p q r s t = refl

-- what no test lets through
all_out : (f : Journey → ℕ) (p : Journey → Bool) → ((x : Journey) → p x ≡ false) → (xs : List Journey) → sum_by f (filter p xs) ≡ 0
all_out f p h [] = refl
all_out f p h (x ∷ xs) = ap (λ b. sum_by f (if b then x ∷ filter p xs else filter p xs)) (h x) ∙ all_out f p h xs

abbrev day_of : Journey → ℕ
day_of journey = (first_tap journey).stamp.day

by_days : (f : Journey → ℕ) (list : List Journey) (from n : ℕ) → sum_by (λ (day : ℕ). sum_by f (journeys_on list day)) (range_with_len from n) ≡ sum_by f (filter (λ journey. among from n (day_of journey)) list)
unfolding among
by_days f list from zero = sym (all_out f (λ journey. among from 0 (day_of journey)) (λ journey. none_among from (day_of journey) (nat_le from (day_of journey)) (nat_lt (day_of journey) (from + 0)) refl refl) list)
by_days f list from (suc n) =
    sum_by-cons (λ (day : ℕ). sum_by f (journeys_on list day)) from (range_with_len (from + 1) n)
    ∙ ap (λ (later : ℕ). sum_by f (journeys_on list from) + later) (by_days f list (from + 1) n)
    ∙ sym (parted f (is_on from) (λ journey. among (from + 1) n (day_of journey)) (λ journey. among from (suc n) (day_of journey))
    (λ journey. let day = day_of journey in first_or_later from n day (nat_le from day) (nat_lt day (from + suc n)) (day == from) (nat_le (from + 1) day) (nat_lt day (from + 1 + n)) refl refl refl refl refl) list)

same_test : (from through day : ℕ) (a b c : Bool) → from ≤ through → nat_le from day ≡ a → nat_lt day (from + (through + 1 - from)) ≡ b → nat_le day through ≡ c → (a && b) ≡ (a && c)
same_test from through day true true true some p q r = refl
same_test from through day true true false some p q r = absurd (grind (arith, nat_tests))
same_test from through day true false true some p q r = absurd (grind (arith, nat_tests))
same_test from through day true false false some p q r = refl
same_test from through day false b c some p q r = refl

same_filter : (p q : Journey → Bool) → ((x : Journey) → p x ≡ q x) → (xs : List Journey) → filter p xs ≡ filter q xs
same_filter p q h [] = refl
same_filter p q h (x ∷ xs) = ap (λ b. if b then x ∷ filter p xs else filter p xs) (h x) ∙ ap (λ rest. if q x then x ∷ rest else rest) (same_filter p q h xs)

-- the fares of the days through a day, day by day, are those of the journeys of these days
pub week_by_days : (f : Journey → ℕ) (list : List Journey) (through : ℕ) → monday through ≤ through
    → sum_by (λ (day : ℕ). sum_by f (journeys_on list day)) (days_through through) ≡ sum_by f (journeys_through list through)
unfolding among
week_by_days f list through some =
    by_days f list (monday through) (through + 1 - monday through)
    ∙ ap (sum_by f) (same_filter (λ journey. among (monday through) (through + 1 - monday through) (day_of journey)) (is_within (monday through) through)
    (λ journey. let day = day_of journey in same_test (monday through) through day (nat_le (monday through) day) (nat_lt day (monday through + (through + 1 - monday through))) (nat_le day through) some refl refl refl) list)

-- the journeys of a day cost what they cost by its edition
pub fares_on : (editions : FareEditions) (list : List Journey) (day : ℕ) → sum_by (fare_by editions) (journeys_on list day) ≡ fares (on editions day) (journeys_on list day)
fares_on editions [] day = refl
fares_on editions (journey ∷ list) day = with_or_without (is_on day journey) refl (fares_on editions list day)
  where
    its : (a b : ℕ) → (a == b) ≡ true → a ≡ b
    its a b e = grind (arith, nat_tests)

    with_or_without : (b : Bool) → is_on day journey ≡ b → sum_by (fare_by editions) (journeys_on list day) ≡ fares (on editions day) (journeys_on list day)
        → sum_by (fare_by editions) (if b then journey ∷ journeys_on list day else journeys_on list day) ≡ fares (on editions day) (if b then journey ∷ journeys_on list day else journeys_on list day)
    with_or_without true e rest =
        omega (
          arith,
          sum_by-cons (fare_by editions) journey (journeys_on list day),
          sum_by-cons (fare (on editions day)) journey (journeys_on list day),
          ap (λ (other : ℕ). fare (on editions other) journey) (its (day_of journey) day e),
          rest,
        )
    with_or_without false e rest = rest

totals : (editions : FareEditions) → ((day : ℕ) (list : List Journey) → total (cells_of (on editions day) list) ≡ fares (on editions day) list) → (list : List Journey) (days : List ℕ)
    → sum_by total (map (λ (each : ℕ). cells_of (on editions each) (journeys_on list each)) days) ≡ sum_by (λ (day : ℕ). sum_by (fare_by editions) (journeys_on list day)) days
totals editions all list [] = refl
totals editions all list (day ∷ days) =
    omega (
      arith,
      sum_by-cons total (cells_of (on editions day) (journeys_on list day)) (map (λ (each : ℕ). cells_of (on editions each) (journeys_on list each)) days),
      sum_by-cons (λ (each : ℕ). sum_by (fare_by editions) (journeys_on list each)) day days,
      all day (journeys_on list day),
      fares_on editions list day,
      totals editions all list days,
    )

-- and so are the totals of the sums of these days
pub total_through : (editions : FareEditions) → ((day : ℕ) (list : List Journey) → total (cells_of (on editions day) list) ≡ fares (on editions day) list) → (list : List Journey) (through : ℕ) → monday through ≤ through
    → sum_by total (map (λ (each : ℕ). cells_of (on editions each) (journeys_on list each)) (days_through through)) ≡ sum_by (fare_by editions) (journeys_through list through)
total_through editions all list through some = totals editions all list (days_through through) ∙ week_by_days (fare_by editions) list through some
