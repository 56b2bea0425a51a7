-- What is sought in a list by a number of two whole numbers, where each of the list has a number of its own and these ascend.
use Rattle.std.proofs.Common.{◌≡◌, ℕ, zero, suc, ◌+◌, ◌<◌, inl, inr, ℤ, pos, Bool, true, false, cond, ◌&&◌, T, List, [], ◌∷◌, length, map, get_or, slice_get, Some, Err, Ordering, Less, Equal, Greater, is_eq, is_lt, ◌↔◌, refl, sym, ap, ap₂, ◌∙◌, subst, arith}
use Rattle.std.specs.Ordering.{nat_cmp, int_cmp, ordering_then, ordering_reverse, ordering_index}
use Rattle.std.specs.Cmp.{IsTotalOrder}
use Rattle.std.specs.FinMap.{find, is_sorted, entries, entries_sorted}
use Rattle.std.specs.FinMap.Entries.{below_all}
use Rattle.std.specs.List.Sorted.{IsBinarySearchResult, IsNonDecreasingBy}
use Rattle.std.proofs.lemmas.Cmp.{on_total, then_total, int_cmp_total, tied_itself}
use Rattle.std.proofs.lemmas.Map.Lookups.{CmpEqualImpliesEq, exact_pairs, exact_signed}
use Rattle.std.proofs.lemmas.List.Sorted.{searchable_from_sorted}
use Rattle.std.proofs.lemmas.Bool.{cases_lt}
use Rattle.std.proofs.lemmas.Bool.Decides.{nat_tests}
use Rattle.std.proofs.lemmas.Int.{ints}
use Rattle.std.proofs.lemmas.Option.{slice_get_within, get_or_from_slice_get, slice_get-get_or}
use Rattle.pay_rules.specs.Numbers.{number_cmp}
use Rattle.pay_rules.specs.NumberOrder.{number_total}
use Rattle.pay_rules.specs.SetsParts.{AreNumbered}
use Rattle.pay_rules.specs.declared.tap.Tap.{Tap}
use Rattle.pay_rules.specs.Taps as taps
use Rattle.pay_rules.specs.declared.fix.Fix.{Fix}
use Rattle.pay_rules.specs.declared.fix.What.{What}
use Rattle.pay_rules.specs.declared.fix.What.TheVariants.{Void, Fill, Credit, Drop}
use Rattle.pay_rules.specs.Fixes as fixes
use Rattle.pay_set_rows.specs.SetRows.{tap_row, what_row, fix_row}
use Rattle.pay_postings.specs.Words.{IsRowOf}

-- ---- numbers as whole numbers

abbrev pub wide : ℕ × ℕ → ℤ × ℤ
wide n = (pos n.0, pos n.1)

abbrev pub wide_cmp : ℤ × ℤ → ℤ × ℤ → Ordering
wide_cmp a b = ordering_then (int_cmp a.0 b.0) (int_cmp a.1 b.1)

wide_total : IsTotalOrder wide_cmp
wide_total = then_total (on_total (λ n. n.0) int_cmp_total) (on_total (λ n. n.1) int_cmp_total)

exact_wide : CmpEqualImpliesEq wide_cmp
exact_wide = exact_pairs int_cmp int_cmp exact_signed exact_signed

one_alike : (a b : ℕ) → int_cmp (pos a) (pos b) ≡ nat_cmp a b
one_alike a b = grind (arith, ints, nat_tests)

alike : (a b : ℕ × ℕ) → wide_cmp (wide a) (wide b) ≡ number_cmp a b
alike a b = ap₂ ordering_then (one_alike a.0 b.0) (one_alike a.1 b.1)

narrow : (a b : ℕ × ℕ) → wide a ≡ wide b → a ≡ b
narrow a b e =
    let first : a.0 ≡ b.0 = let h : pos a.0 ≡ pos b.0 = ap (λ (n : ℤ × ℤ). n.0) e in cc in
    let second : a.1 ≡ b.1 = let h : pos a.1 ≡ pos b.1 = ap (λ (n : ℤ × ℤ). n.1) e in cc in
    λ i. (first i, second i)

-- ---- lists in order

turned : (a b : ℕ × ℕ) (r : Ordering) → number_cmp a b ≡ r → number_cmp b a ≡ ordering_reverse r
turned a b r e = number_total.antisymm b a ∙ ap ordering_reverse e

first : (a b : Bool) → T (a && b) → T a
first true b p = tt
first false b p = p

second : (a b : Bool) → T (a && b) → T b
second true b p = p
second false b p = absurd p

less : (r : Ordering) → T (is_lt r) → r ≡ Less
less Less p = refl
less Equal p = absurd p
less Greater p = absurd p

same_some : {X : Type 0} {x y : X} → Some x ≡ Some y → x ≡ y
same_some e = cc

module _ {X : Type 0} (number : X → ℕ × ℕ) where
  abbrev numbered : List X → List ((ℕ × ℕ) × X)
  numbered list = map (λ x. (number x, x)) list

  abbrev IsRising : List X → Type 0
  IsRising list = T (is_sorted number_cmp (numbered list))

  of_entries : (es : List ((ℕ × ℕ) × X)) → map number (map (λ (e : (ℕ × ℕ) × X). e.1) es) ≡ map (λ (e : (ℕ × ℕ) × X). e.0) es → numbered (map (λ (e : (ℕ × ℕ) × X). e.1) es) ≡ es
  of_entries [] own = refl
  of_entries (e ∷ es) own =
      let here : number e.1 ≡ e.0 = cc in
      let rest = of_entries es (cc) in
      λ i. (here i, e.1) ∷ rest i

  rises : (most : ℕ) (list : List X) → AreNumbered number most list → IsRising list
  rises most list are = subst IsRising are.all (subst (λ es. T (is_sorted number_cmp es)) (sym (of_entries (entries are.set) are.numbered.own_numbers)) (entries_sorted are.set))

  below_at : (k : ℕ × ℕ) (list : List X) (i : ℕ) (d : X) → T (below_all number_cmp k (numbered list)) → i < length list → number_cmp k (number (get_or list i d)) ≡ Less
  below_at k [] i d h lt = absurd (omega (arith, lt))
  below_at k (x ∷ list) zero d h lt = less _ (first _ _ h)
  below_at k (x ∷ list) (suc i) d h lt = below_at k list i d (second _ _ h) (omega (arith, lt))

  not_before : (list : List X) (k : ℕ) (d : X) → IsRising list → suc k < length list → is_lt (number_cmp (number (get_or list (suc k) d)) (number (get_or list k d))) ≡ false
  not_before [] k d h lt = absurd (omega (arith, lt))
  not_before (x ∷ list) zero d h lt = ap is_lt (turned (number x) (number (get_or list 0 d)) Less (below_at (number x) list 0 d (first _ _ h) (omega (arith, lt))))
  not_before (x ∷ list) (suc k) d h lt = not_before list k d (second _ _ h) (omega (arith, lt))

  -- along the list the orderings of a search rise
  searchable : (list : List X) (q : ℤ × ℤ) → IsRising list → IsNonDecreasingBy (λ (x : X). ordering_index (wide_cmp (wide (number x)) q)) list
  searchable list q h =
      searchable_from_sorted wide_total (λ (x : X). wide (number x)) list q (λ k d low lt.
      let next : suc k ≡ k + 1 = omega arith in
      subst (λ n. is_lt (wide_cmp (wide (number (get_or list n d))) (wide (number (get_or list k d)))) ≡ false) next
      (ap is_lt (alike (number (get_or list (suc k) d)) (number (get_or list k d))) ∙ not_before list k d h (omega (arith, lt))))

  -- what stands at a place is found by its number
  found : (list : List X) (q : ℕ × ℕ) (i : ℕ) (d : X) → IsRising list → i < length list → number (get_or list i d) ≡ q → find number_cmp q (numbered list) ≡ Some (get_or list i d)
  found [] q i d h lt e = absurd (omega (arith, lt))
  found (x ∷ list) q zero d h lt e =
      ap (λ r. cond (is_eq r) (Some x) (find number_cmp q (numbered list))) (ap (number_cmp q) e ∙ tied_itself number_total q)
  found (x ∷ list) q (suc i) d h lt e =
      let lower : number_cmp (number x) (number (get_or list i d)) ≡ Less = below_at (number x) list i d (first _ _ h) (omega (arith, lt)) in
      ap (λ r. cond (is_eq r) (Some x) (find number_cmp q (numbered list))) (turned (number x) q Less (subst (λ n. number_cmp (number x) n ≡ Less) e lower))
      ∙ found list q i d (second _ _ h) (omega (arith, lt)) e

  -- so there is only one of a number
  one : (list : List X) (i j : ℕ) (d x : X) → IsRising list → i < length list → slice_get list j ≡ Some x → number (get_or list i d) ≡ number x → get_or list i d ≡ x
  one list i j d x h lt at e =
      let there : get_or list j d ≡ x = get_or_from_slice_get list j x d at in
      same_some (sym (found list (number x) i d h lt e) ∙ found list (number x) j d h (slice_get_within list j x at) (ap number there)) ∙ there

-- ---- rows

-- Rows of what has numbers, by the two columns that these are in.
module _ {X Row : Type 0} (number : X → ℕ × ℕ) (most : ℕ) (row_of : X → Row) (named : Row → ℤ × ℤ) (own : (x : X) → named (row_of x) ≡ wide (number x)) (list : List X) (row : Row) (are : AreNumbered number most list) where
  its_number : (x : X) → row_of x ≡ row → wide (number x) ≡ named row
  its_number x is = sym (own x) ∙ ap named is

  -- the one of a row's number is the one whose row it may be
  pub at_place : (answer : Bool) (at : ℕ) (d : X) → at < length list → wide_cmp (wide (number (get_or list at d))) (named row) ≡ Equal → (answer ≡ true) ↔ (row_of (get_or list at d) ≡ row) → (answer ≡ true) ↔ IsRowOf row_of list row
  at_place answer at d below tie is =
      let same = exact_wide (wide (number (get_or list at d))) (named row) tie in (
        λ yes. (at, get_or list at d, slice_get-get_or list at d below, is.0 yes),
        λ there. is.1 (subst (λ x. row_of x ≡ row) (sym (one number list at there.0 d there.1 (rises number most list are) below there.2 (narrow _ _ (same ∙ sym (its_number there.1 there.3))))) there.3),
      )

  -- where none has its number, it is the row of none
  pub nowhere : (at : ℕ) → IsBinarySearchResult (λ x. wide_cmp (wide (number x)) (named row)) list (Err at) → (false ≡ true) ↔ IsRowOf row_of list row
  nowhere at between = (
    λ no. absurd (cc),
    λ there.
        let parted = between (searchable number list (named row) (rises number most list are)) in
        let below = slice_get_within list there.0 there.1 there.2 in
        let here : get_or list there.0 there.1 ≡ there.1 = get_or_from_slice_get list there.0 there.1 there.1 there.2 in
        let tie : wide_cmp (wide (number (get_or list there.0 there.1))) (named row) ≡ Equal = ap (λ x. wide_cmp (wide (number x)) (named row)) here ∙ ap (λ n. wide_cmp n (named row)) (its_number there.1 there.3) ∙ tied_itself wide_total (named row) in
        elim (cases_lt there.0 at) [
          | inl lt ↦ absurd (let h : Less ≡ Equal = sym (parted.0 there.0 there.1 (omega arith) lt) ∙ tie in cc)
          | inr le ↦ absurd (let h : Greater ≡ Equal = sym (parted.1 there.0 there.1 le below) ∙ tie in cc)
        ],
  )

-- the numbers of taps and corrections are two columns of their rows
pub tap_number : (tap : Tap) → ((tap_row tap).reader, (tap_row tap).seq) ≡ wide (taps.number tap)
tap_number tap = refl

of_what : (fix : Fix) (what : What) → ((what_row fix what).staff, (what_row fix what).seq) ≡ wide (fixes.number fix)
of_what fix (Void reader seq) = refl
of_what fix (Fill stamp place kind) = refl
of_what fix (Credit credit) = refl
of_what fix (Drop staff seq) = refl

pub fix_number : (fix : Fix) → ((fix_row fix).staff, (fix_row fix).seq) ≡ wide (fixes.number fix)
fix_number fix = of_what fix fix.what
