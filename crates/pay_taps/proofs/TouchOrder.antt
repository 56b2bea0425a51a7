-- The order of touches.
use Rattle.std.proofs.Common.{◌≡◌, ℕ, Bool, true, false, List, [], ◌∷◌, Ordering, Less, Equal, Greater, is_lt, IsPermutation, eq-eqb, refl}
use Rattle.std.specs.Bool.{beq}
use Rattle.std.specs.Ordering.{bool_cmp, ordering_then, ordering_reverse}
use Rattle.std.specs.Cmp.{IsTotalOrder, IsStrictWeakOrder, nat_cmp_total, bool_cmp_total}
use Rattle.std.specs.List.{AllByRecursion, IsDistinct}
use Rattle.std.specs.List.Sorted.{ties}
use Rattle.std.proofs.lemmas.Bool.{and_from}
use Rattle.std.proofs.lemmas.Cmp.{on_total, then_total}
use Rattle.std.proofs.lemmas.List.Sorted.{ranks_by}
use Rattle.std.proofs.lemmas.Map.Lookups.{exact_unsigned}
use Rattle.pay_rules.specs.declared.tap.Touch.{Touch}
use Rattle.pay_rules.specs.Order.{touch_cmp, comes_before, in_order, same_number, HaveOwnNumbers}
use Rattle.pay_taps.proofs.Sorting.{NoTies, one_arrangement, both_false}

pub touches_total : IsTotalOrder touch_cmp
touches_total = then_total (then_total (then_total (on_total (λ t. t.stamp.utc) nat_cmp_total) (on_total (λ t. t.filled) bool_cmp_total)) (on_total (λ t. t.first) nat_cmp_total)) (on_total (λ t. t.second) nat_cmp_total)

pub touches_ranked : IsStrictWeakOrder comes_before
touches_ranked = ranks_by touches_total (λ t. t)

-- what has a touch is ranked by it
pub ranked_by : {X : Type 0} (touch : X → Touch) → IsStrictWeakOrder (λ a b. comes_before (touch a) (touch b))
ranked_by touch = ranks_by touches_total touch

-- what a touch is sorted by
abbrev pub touch_key : Touch → ℕ × Bool × ℕ × ℕ
touch_key t = (t.stamp.utc, t.filled, t.first, t.second)

-- ---- touches that tie have one number

neither_before : (r s : Ordering) → r ≡ ordering_reverse s → is_lt r ≡ false → is_lt s ≡ false → r ≡ Equal
neither_before Less s e a b = absurd (cc)
neither_before Equal s e a b = refl
neither_before Greater Less e a b = absurd (cc)
neither_before Greater Equal e a b = absurd (cc)
neither_before Greater Greater e a b = absurd (cc)

both_equal : (r s : Ordering) → ordering_then r s ≡ Equal → (r ≡ Equal) × (s ≡ Equal)
both_equal Less s e = absurd (cc)
both_equal Equal s e = (refl, e)
both_equal Greater s e = absurd (cc)

same_filled : (a b : Bool) → bool_cmp a b ≡ Equal → beq a b ≡ true
same_filled false false e = refl
same_filled false true e = absurd (cc)
same_filled true false e = absurd (cc)
same_filled true true e = refl

tied_number : (a b : Touch) → ties comes_before a b ≡ true → same_number a b ≡ true
tied_number a b t =
    let apart = both_false (comes_before a b) (comes_before b a) t in
    let all = both_equal _ _ (neither_before (touch_cmp a b) (touch_cmp b a) (touches_total.antisymm a b) apart.0 apart.1) in
    let first = both_equal _ _ all.0 in
    let filled = both_equal _ _ first.0 in
    and_from _ _ (and_from _ _ (same_filled a.filled b.filled filled.1) (eq-eqb _ _ (exact_unsigned _ _ first.1))) (eq-eqb _ _ (exact_unsigned _ _ all.1))

untied : (a b : Touch) → same_number a b ≡ false → ties comes_before a b ≡ false
untied a b h = elim (ties comes_before a b) as (λ t. ties comes_before a b ≡ t → t ≡ false) [
  | true ↦ λ t. let same : same_number a b ≡ true = tied_number a b t in cc
  | false ↦ λ t. refl
] refl

untied_all : (a : Touch) (bs : List Touch) → AllByRecursion (λ b. same_number a b ≡ false) bs → AllByRecursion (λ b. ties comes_before a b ≡ false) bs
untied_all a [] h = tt
untied_all a (b ∷ bs) h = (untied a b h.0, untied_all a bs h.1)

pub no_ties : (list : List Touch) → HaveOwnNumbers list → NoTies comes_before list
unfolding IsDistinct
no_ties [] h = tt
no_ties (a ∷ list) h = (untied_all a list h.0, no_ties list h.1)

-- touches with numbers of their own have one order, however they come
pub one_order_of_all : (xs ys : List Touch) → HaveOwnNumbers xs → IsPermutation xs ys → in_order xs ≡ in_order ys
one_order_of_all xs ys h moved = one_arrangement comes_before touches_ranked xs ys (no_ties xs h) moved
