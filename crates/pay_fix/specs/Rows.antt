-- Worked rows: what a further tap or correction does to the effective taps.
use Rattle.std.specs.Prelude.{◌≡◌, ℕ, T, List, [], ◌∷◌, map, Some, None, refl}
use Rattle.std.specs.List.{IsDistinct}
use Rattle.std.specs.FinMap.{get, values, find, from_sorted, is_sorted, entries-from_sorted, get-from_sorted}
use Rattle.std.proofs.Common.{ap}
use Rattle.pay_rules.specs.declared.tap.Kind.TheVariants.{In, Out}
use Rattle.pay_rules.specs.declared.tap.Tap.{Tap}
use Rattle.pay_rules.specs.Taps.{Taps, number as tap_number}
use Rattle.pay_rules.specs.Order.{touch_of}
use Rattle.pay_rules.specs.Numbers.{ByNumber, number_cmp}
use Rattle.pay_fix.specs.declared.change.Change.TheVariants.{Nothing, Enters, Leaves}
use Rattle.pay_rules.specs.declared.fix.Fix.{Fix}
use Rattle.pay_rules.specs.declared.fix.What.TheVariants.{Void, Fill, Credit, Drop}
use Rattle.pay_rules.specs.Fixes.{Fixes, number}
use Rattle.pay_fix.specs.Changes.{IsChanged, change_by_tap, change_by_fix}
use Rattle.pay_rules.specs.FixRows.{fix, fills, tap, filled_at, gives}

-- ---- what a further tap or correction does to an account of one tap, or of none

-- some at their numbers, and as a set where these rise
abbrev at_numbers : {X : Type 0} → (X → ℕ × ℕ) → List X → List ((ℕ × ℕ) × X)
at_numbers {X = X} own list = map (λ (x : X). (own x, x)) list

abbrev set_of : {X : Type 0} → (X → ℕ × ℕ) → List X → ByNumber X
set_of own list = from_sorted (at_numbers own list)

all_of_set : {X : Type 0} (own : X → ℕ × ℕ) (list : List X) → T (is_sorted number_cmp (at_numbers own list)) → values (set_of own list) ≡ map (λ (e : (ℕ × ℕ) × X). e.1) (at_numbers own list)
all_of_set {X = X} own list up = ap (map (λ (e : (ℕ × ℕ) × X). e.1)) (entries-from_sorted number_cmp (at_numbers own list) up)

found_in_set : {X : Type 0} (own : X → ℕ × ℕ) (list : List X) (n : ℕ × ℕ) → T (is_sorted number_cmp (at_numbers own list)) → get (set_of own list) n ≡ find number_cmp n (at_numbers own list)
found_in_set own list n up = get-from_sorted number_cmp (at_numbers own list) n up

abbrev the_tap : Tap
the_tap = tap 1 1 0 10 In

abbrev one_tap : Taps
one_tap = set_of tap_number (the_tap ∷ [])

abbrev no_tap : Taps
no_tap = set_of tap_number []

abbrev fixed : List Fix → Fixes
fixed list = set_of number list

abbrev voided_once : List Fix
voided_once = fix 1 (Void 1 1) ∷ []

abbrev void_and_drop : List Fix
void_and_drop = fix 1 (Void 1 1) ∷ fix 2 (Drop 3 1) ∷ []

abbrev voided_twice : List Fix
voided_twice = fix 1 (Void 1 1) ∷ fix 2 (Void 1 1) ∷ []

abbrev two_voids_and_drop : List Fix
two_voids_and_drop = fix 1 (Void 1 1) ∷ fix 2 (Void 1 1) ∷ fix 3 (Drop 3 2) ∷ []

abbrev filled_once : List Fix
filled_once = fix 1 (fills 1_800 12 Out) ∷ []

abbrev fill_and_drop : List Fix
fill_and_drop = fix 1 (fills 1_800 12 Out) ∷ fix 2 (Drop 3 1) ∷ []

abbrev credited_once : List Fix
credited_once = fix 1 (gives 19_730 100) ∷ []

-- a Drop of what has not come yet
abbrev early_drop : List Fix
early_drop = fix 1 (Drop 3 2) ∷ []

tap_there : get one_tap (1, 1) ≡ Some the_tap
tap_there = found_in_set tap_number (the_tap ∷ []) (1, 1) tt

tap_missing : get no_tap (1, 1) ≡ None
tap_missing = found_in_set tap_number [] (1, 1) tt

-- ---- a tap

tap_enters : change_by_tap (fixed []) the_tap ≡ Enters (touch_of the_tap)
tap_enters = simp (all_of_set number [] tt)

tap_was_voided : change_by_tap (fixed voided_once) the_tap ≡ Nothing
tap_was_voided = simp (all_of_set number voided_once tt)

its_void_was_dropped : change_by_tap (fixed void_and_drop) the_tap ≡ Enters (touch_of the_tap)
its_void_was_dropped = simp (all_of_set number void_and_drop tt)

-- ---- a Credit, a Void and a Fill

credit_changes_none : change_by_fix one_tap (fixed []) (fix 1 (gives 19_730 100)) ≡ Nothing
credit_changes_none = simp (all_of_set number [] tt)

tap_leaves : change_by_fix one_tap (fixed []) (fix 1 (Void 1 1)) ≡ Leaves (touch_of the_tap)
tap_leaves = simp (all_of_set number [] tt, tap_there)

void_was_dropped : change_by_fix one_tap (fixed early_drop) (fix 2 (Void 1 1)) ≡ Nothing
void_was_dropped = simp (all_of_set number early_drop tt, tap_there)

void_of_no_tap : change_by_fix no_tap (fixed []) (fix 1 (Void 1 1)) ≡ Nothing
void_of_no_tap = simp (all_of_set number [] tt, tap_missing)

second_void : change_by_fix one_tap (fixed voided_once) (fix 2 (Void 1 1)) ≡ Nothing
second_void = simp (all_of_set number voided_once tt, tap_there)

void_after_a_drop : change_by_fix one_tap (fixed void_and_drop) (fix 3 (Void 1 1)) ≡ Leaves (touch_of the_tap)
void_after_a_drop = simp (all_of_set number void_and_drop tt, tap_there)

fill_enters : change_by_fix no_tap (fixed []) (fix 1 (fills 1_800 12 Out)) ≡ Enters (filled_at 3 1 1_800 12 Out)
fill_enters = simp (all_of_set number [] tt)

fill_was_dropped : change_by_fix no_tap (fixed early_drop) (fix 2 (fills 1_800 12 Out)) ≡ Nothing
fill_was_dropped = simp (all_of_set number early_drop tt)

-- ---- a Drop

drop_of_nothing : change_by_fix one_tap (fixed voided_once) (fix 2 (Drop 4 1)) ≡ Nothing
drop_of_nothing = simp (found_in_set number voided_once (4, 1) tt)

-- of its own number nothing is accepted before it
drop_that_names_itself : change_by_fix one_tap (fixed voided_once) (fix 2 (Drop 3 2)) ≡ Nothing
drop_that_names_itself = simp (found_in_set number voided_once (3, 2) tt)

drop_of_the_drop : change_by_fix one_tap (fixed void_and_drop) (fix 3 (Drop 3 2)) ≡ Nothing
drop_of_the_drop = simp (found_in_set number void_and_drop (3, 2) tt, all_of_set number void_and_drop tt)

drop_of_a_credit : change_by_fix one_tap (fixed credited_once) (fix 2 (Drop 3 1)) ≡ Nothing
drop_of_a_credit = simp (found_in_set number credited_once (3, 1) tt, all_of_set number credited_once tt)

fill_leaves : change_by_fix one_tap (fixed filled_once) (fix 2 (Drop 3 1)) ≡ Leaves (filled_at 3 1 1_800 12 Out)
fill_leaves = simp (found_in_set number filled_once (3, 1) tt, all_of_set number filled_once tt)

-- a second Drop of one Fill, and of one Void
fill_has_left : change_by_fix one_tap (fixed fill_and_drop) (fix 3 (Drop 3 1)) ≡ Nothing
fill_has_left = simp (found_in_set number fill_and_drop (3, 1) tt, all_of_set number fill_and_drop tt)

tap_has_returned : change_by_fix one_tap (fixed void_and_drop) (fix 3 (Drop 3 1)) ≡ Nothing
tap_has_returned = simp (found_in_set number void_and_drop (3, 1) tt, all_of_set number void_and_drop tt)

tap_returns : change_by_fix one_tap (fixed voided_once) (fix 2 (Drop 3 1)) ≡ Enters (touch_of the_tap)
tap_returns = simp (found_in_set number voided_once (3, 1) tt, all_of_set number voided_once tt, tap_there)

-- another Void still names the tap
tap_stays_away : change_by_fix one_tap (fixed voided_twice) (fix 3 (Drop 3 1)) ≡ Nothing
tap_stays_away = simp (found_in_set number voided_twice (3, 1) tt, all_of_set number voided_twice tt, tap_there)

-- that other Void was dropped before
last_void_dropped : change_by_fix one_tap (fixed two_voids_and_drop) (fix 4 (Drop 3 1)) ≡ Enters (touch_of the_tap)
last_void_dropped = simp (found_in_set number two_voids_and_drop (3, 1) tt, all_of_set number two_voids_and_drop tt, tap_there)

drop_of_an_early_void : change_by_fix no_tap (fixed voided_once) (fix 2 (Drop 3 1)) ≡ Nothing
drop_of_an_early_void = simp (found_in_set number voided_once (3, 1) tt, all_of_set number voided_once tt, tap_missing)

-- ---- the touches before a change and after it

nothing_changed : IsChanged Nothing (touch_of the_tap ∷ []) (touch_of the_tap ∷ [])
nothing_changed = refl

one_entered : IsChanged (Enters (filled_at 3 1 1_800 12 Out)) (touch_of the_tap ∷ touch_of (tap 1 2 3_600 12 Out) ∷ []) (touch_of the_tap ∷ filled_at 3 1 1_800 12 Out ∷ touch_of (tap 1 2 3_600 12 Out) ∷ [])
unfolding IsDistinct
one_entered = record { in_place = refl; own_numbers = ((refl, (refl, tt)), ((refl, tt), (tt, tt))) }

one_left : IsChanged (Leaves (touch_of the_tap)) (touch_of the_tap ∷ filled_at 1 1 0 12 Out ∷ []) (filled_at 1 1 0 12 Out ∷ [])
unfolding IsDistinct
one_left = record { in_place = refl; own_numbers = ((refl, tt), (tt, tt)) }
