-- Effective taps have numbers of their own.
use Rattle.std.proofs.Common.{◌≡◌, ℕ, Bool, true, false, not, ◌&&◌, cond, if◌then◌else◌, List, [], ◌∷◌, ◌++◌, map, filter, IsPermutation, refl}
use Rattle.std.specs.Bool.{beq}
use Rattle.std.specs.List.{flat_map, AllByRecursion, IsDistinct}
use Rattle.std.proofs.lemmas.Cmp.{nat_eq_equiv}
use Rattle.std.proofs.lemmas.Map.Keys.{IsDistinct-IsPermutation}
use Rattle.pay_day.specs.Words.{Stamp}
use Rattle.pay_rules.specs.declared.tap.Kind.{Kind}
use Rattle.pay_rules.specs.declared.tap.Tap.{Tap}
use Rattle.pay_rules.specs.declared.tap.Touch.{Touch}
use Rattle.pay_rules.specs.Order.{same_number, touch_of, HaveOwnNumbers}
use Rattle.pay_rules.specs.Taps.{number as tap_number}
use Rattle.pay_rules.specs.declared.fix.Fix.{Fix}
use Rattle.pay_rules.specs.declared.fix.What.{What}
use Rattle.pay_rules.specs.declared.fix.What.TheVariants.{Void, Fill, Credit, Drop}
use Rattle.pay_rules.specs.Fixes.{number, is_number, stands}
use Rattle.pay_rules.specs.Effective.{is_voided, not_voided, touch_of_fill, fill_of, filled_by, filled}
use Rattle.pay_fix.proofs.ByNumber.{AreNumbered}

-- effective taps, before they are put in order
abbrev pub touches_of : List Tap → List Fix → List Touch
touches_of taps fixes = map touch_of (not_voided fixes taps) ++ filled fixes

beq_either_way : (a b : Bool) → beq a b ≡ beq b a
beq_either_way true true = refl
beq_either_way true false = refl
beq_either_way false true = refl
beq_either_way false false = refl

pub touches_either_way : (a b : Touch) → same_number a b ≡ same_number b a
touches_either_way a b =
    let filled = beq_either_way a.filled b.filled in
    let first = nat_eq_equiv.symm a.first b.first in
    let second = nat_eq_equiv.symm a.second b.second in
    λ i. filled i && first i && second i

-- in whatever arrangement they come
pub own_numbers_moved : (list other : List Touch) → IsPermutation list other → HaveOwnNumbers list → HaveOwnNumbers other
own_numbers_moved list other moved own = IsDistinct-IsPermutation same_number touches_either_way list other moved own

-- ---- lists put together

module _ {X : Type 0} where
  all_of_two : (P : X → Type 0) (xs ys : List X) → AllByRecursion P xs → AllByRecursion P ys → AllByRecursion P (xs ++ ys)
  all_of_two P [] ys a b = b
  all_of_two P (x ∷ xs) ys a b = (a.0, all_of_two P xs ys a.1 b)

  all_if : (P : X → Type 0) (b : Bool) (xs : List X) → AllByRecursion P xs → AllByRecursion P (if b then xs else [])
  all_if P true xs h = h
  all_if P false xs h = tt

distinct_two : (xs ys : List Touch) → HaveOwnNumbers xs → HaveOwnNumbers ys → AllByRecursion (λ (x : Touch). AllByRecursion (λ (y : Touch). same_number x y ≡ false) ys) xs → HaveOwnNumbers (xs ++ ys)
unfolding IsDistinct
distinct_two [] ys a b apart = b
distinct_two (x ∷ xs) ys a b apart = (all_of_two (λ (y : Touch). same_number x y ≡ false) xs ys a.0 apart.0, distinct_two xs ys a.1 b apart.1)

-- ---- accepted taps

taps_apart : (p : Tap → Bool) (tap : Tap) (taps : List Tap) → AllByRecursion (λ (t : Tap). is_number (tap_number tap) (tap_number t) ≡ false) taps → AllByRecursion (λ (u : Touch). same_number (touch_of tap) u ≡ false) (map touch_of (filter p taps))
taps_apart p tap [] h = tt
taps_apart p tap (t ∷ taps) h =
    elim (p t) as (λ b. AllByRecursion (λ (u : Touch). same_number (touch_of tap) u ≡ false) (map touch_of (cond b (t ∷ filter p taps) (filter p taps)))) [
      | true ↦ (h.0, taps_apart p tap taps h.1)
      | false ↦ taps_apart p tap taps h.1
    ]

taps_own : (p : Tap → Bool) (taps : List Tap) → AreNumbered tap_number taps → HaveOwnNumbers (map touch_of (filter p taps))
unfolding IsDistinct
taps_own p [] h = tt
taps_own p (tap ∷ taps) h =
    elim (p tap) as (λ b. HaveOwnNumbers (map touch_of (cond b (tap ∷ filter p taps) (filter p taps)))) [
      | true ↦ (taps_apart p tap taps h.0, taps_own p taps h.1)
      | false ↦ taps_own p taps h.1
    ]

-- ---- filled taps

-- a fact of each tap that a Fill adds
all_filled : (P : Touch → Type 0) (accepted fixes : List Fix) → ((own : ℕ × ℕ) (stamp : Stamp) (place : ℕ) (kind : Kind) → P (touch_of_fill own stamp place kind)) → AllByRecursion P (flat_map (filled_by accepted) fixes)
all_filled P accepted [] h = tt
all_filled P accepted (f ∷ fixes) h =
    all_of_two P (filled_by accepted f) (flat_map (filled_by accepted) fixes) (all_if P (stands accepted f) (fill_of (f.staff, f.seq) f.what) (one (number f) f.what)) (all_filled P accepted fixes h)
  where
    one : (own : ℕ × ℕ) (what : What) → AllByRecursion P (fill_of own what)
    one own (Void reader seq) = tt
    one own (Fill stamp place kind) = (h own stamp place kind, tt)
    one own (Credit credit) = tt
    one own (Drop staff seq) = tt

fill_apart : (own other : ℕ × ℕ) (stamp : Stamp) (place : ℕ) (kind : Kind) (what : What) → is_number own other ≡ false → AllByRecursion (λ (u : Touch). same_number (touch_of_fill own stamp place kind) u ≡ false) (fill_of other what)
fill_apart own other stamp place kind (Void reader seq) e = tt
fill_apart own other stamp place kind (Fill its_stamp its_place its_kind) e = (e, tt)
fill_apart own other stamp place kind (Credit credit) e = tt
fill_apart own other stamp place kind (Drop staff seq) e = tt

fills_apart : (own : ℕ × ℕ) (stamp : Stamp) (place : ℕ) (kind : Kind) (accepted fixes : List Fix) → AllByRecursion (λ (f : Fix). is_number own (number f) ≡ false) fixes
    → AllByRecursion (λ (u : Touch). same_number (touch_of_fill own stamp place kind) u ≡ false) (flat_map (filled_by accepted) fixes)
fills_apart own stamp place kind accepted [] h = tt
fills_apart own stamp place kind accepted (f ∷ fixes) h =
    all_of_two (λ (u : Touch). same_number (touch_of_fill own stamp place kind) u ≡ false) (filled_by accepted f) (flat_map (filled_by accepted) fixes)
    (all_if (λ (u : Touch). same_number (touch_of_fill own stamp place kind) u ≡ false) (stands accepted f) (fill_of (f.staff, f.seq) f.what) (fill_apart own (number f) stamp place kind f.what h.0)) (fills_apart own stamp place kind accepted fixes h.1)

fill_own : (b : Bool) (own : ℕ × ℕ) (what : What) (accepted fixes : List Fix) → AllByRecursion (λ (f : Fix). is_number own (number f) ≡ false) fixes → HaveOwnNumbers (flat_map (filled_by accepted) fixes)
    → HaveOwnNumbers ((if b then fill_of own what else []) ++ flat_map (filled_by accepted) fixes)
unfolding IsDistinct
fill_own false own what accepted fixes apart rest = rest
fill_own true own (Void reader seq) accepted fixes apart rest = rest
fill_own true own (Fill stamp place kind) accepted fixes apart rest = (fills_apart own stamp place kind accepted fixes apart, rest)
fill_own true own (Credit credit) accepted fixes apart rest = rest
fill_own true own (Drop staff seq) accepted fixes apart rest = rest

fills_own : (accepted fixes : List Fix) → AreNumbered number fixes → HaveOwnNumbers (flat_map (filled_by accepted) fixes)
unfolding IsDistinct
fills_own accepted [] h = tt
fills_own accepted (f ∷ fixes) h = fill_own (stands accepted f) (number f) f.what accepted fixes h.0 (fills_own accepted fixes h.1)

-- ---- both

tap_and_fills : (accepted : List Fix) (taps : List Tap) → AllByRecursion (λ (x : Touch). AllByRecursion (λ (y : Touch). same_number x y ≡ false) (filled accepted)) (map touch_of taps)
tap_and_fills accepted [] = tt
tap_and_fills accepted (tap ∷ taps) = (all_filled (λ (u : Touch). same_number (touch_of tap) u ≡ false) accepted accepted (λ own stamp place kind. refl), tap_and_fills accepted taps)

pub touches_own : (taps : List Tap) (fixes : List Fix) → AreNumbered tap_number taps → AreNumbered number fixes → HaveOwnNumbers (touches_of taps fixes)
touches_own taps fixes of_taps of_fixes =
    distinct_two (map touch_of (not_voided fixes taps)) (filled fixes)
    (taps_own (λ (tap : Tap). not (is_voided fixes (tap_number tap))) taps of_taps)
    (fills_own fixes fixes of_fixes)
    (tap_and_fills fixes (not_voided fixes taps))
