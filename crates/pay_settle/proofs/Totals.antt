-- The sums of weeks, and of accounts and weeks, are all together.
use Rattle.std.proofs.Common.{◌≡◌, Bool, true, false, cond, if◌then◌else◌, List, [], ◌∷◌, map, filter, Option, Some, None, refl, sym, ap, ◌∙◌, arith}
use Rattle.std.specs.Prelude.{ℤ, ◌+ℤ◌, ◌||◌, not}
use Rattle.std.specs.BTreeMap.{is_at}
use Rattle.std.specs.Cmp.{IsTotalOrder, IsEquivalence, eq_by_cmp_equiv}
use Rattle.std.specs.List.{list_any}
use Rattle.std.specs.List.Sorted.{IsStrictlySortedBy}
use Rattle.std.specs.Map.{keys_of, values_of, lookup}
use Rattle.std.specs.Ordering.{eq_by_cmp}
use Rattle.std.specs.declared.cmp.Ordering.{Ordering}
use Rattle.std.proofs.lemmas.Int.{ints}
use Rattle.std.proofs.lemmas.Map.{lookup-none}
use Rattle.std.proofs.lemmas.Map.Entries.{lookup_head, lookup_tail, none_past_head}
use Rattle.std.proofs.lemmas.Map.Keys.{IsDistinct-from_sorted, sorted_tail}
use Rattle.pay_rules.specs.declared.posting.Posting.{Posting}
use Rattle.pay_postings.specs.Words.{total}
use Rattle.pay_settle.specs.Sums.{sum_of, sum_where}
use Rattle.pay_settle.proofs.Adding.{total-cons}

pub sum-cons : (p : Posting) (list : List Posting) → sum_of (p ∷ list) ≡ p.amount +ℤ sum_of list
sum-cons p list = total-cons p.amount (map (λ (q : Posting). q.amount) list)

-- those that pass a test, and the others
in_two : (passes : Posting → Bool) (list : List Posting) → sum_of list ≡ sum_of (filter passes list) +ℤ sum_of (filter (λ p. not (passes p)) list)
in_two passes [] = refl
in_two passes (p ∷ list) = by (passes p) (in_two passes list)
  where
    by : (b : Bool) → sum_of list ≡ sum_of (filter passes list) +ℤ sum_of (filter (λ q. not (passes q)) list) → sum_of (p ∷ list) ≡ sum_of (cond b (p ∷ filter passes list) (filter passes list)) +ℤ sum_of (cond (not b) (p ∷ filter (λ q. not (passes q)) list) (filter (λ q. not (passes q)) list))
    by true later = omega (arith, ints, sum-cons p list, sum-cons p (filter passes list), later)
    by false later = omega (arith, ints, sum-cons p list, sum-cons p (filter (λ q. not (passes q)) list), later)

-- a sum that is there is that of those that pass
is_sum : (passes : Posting → Bool) (list : List Posting) (sum : ℤ) → sum_where passes list ≡ Some sum → sum_of (filter passes list) ≡ sum
is_sum passes list sum e = by (list_any passes list) e
  where
    by : (b : Bool) → (if b then Some (sum_of (filter passes list)) else None) ≡ Some sum → sum_of (filter passes list) ≡ sum
    by true e = cc
    by false e = absurd cc

-- those that do not pass a test
abbrev rest : (Posting → Bool) → List Posting → List Posting
rest others list = filter (λ p. not (others p)) list

-- a test that no posting passes which passes another finds the same among those that do not pass the other
module _ (passes others : Posting → Bool) (apart : (p : Posting) → passes p ≡ true → others p ≡ false) where
  same_left : (list : List Posting) → filter passes (rest others list) ≡ filter passes list
  same_left [] = refl
  same_left (p ∷ list) = by (passes p) (others p) refl refl (apart p) (same_left list)
    where
      by : (b c : Bool) → passes p ≡ b → others p ≡ c → (passes p ≡ true → others p ≡ false) → filter passes (rest others list) ≡ filter passes list → filter passes (cond (not c) (p ∷ rest others list) (rest others list)) ≡ cond b (p ∷ filter passes list) (filter passes list)
      by true true is other h later = absurd (let never = h is in cc)
      by true false is other h later = ap (λ (b : Bool). cond b (p ∷ filter passes (rest others list)) (filter passes (rest others list))) is ∙ ap (λ (l : List Posting). p ∷ l) later
      by false true is other h later = later
      by false false is other h later = ap (λ (b : Bool). cond b (p ∷ filter passes (rest others list)) (filter passes (rest others list))) is ∙ later

  same_any : (list : List Posting) → list_any passes (rest others list) ≡ list_any passes list
  same_any [] = refl
  same_any (p ∷ list) = by (passes p) (others p) refl refl (apart p) (same_any list)
    where
      by : (b c : Bool) → passes p ≡ b → others p ≡ c → (passes p ≡ true → others p ≡ false) → list_any passes (rest others list) ≡ list_any passes list → list_any passes (cond (not c) (p ∷ rest others list) (rest others list)) ≡ (b || list_any passes list)
      by true true is other h later = absurd (let never = h is in cc)
      by true false is other h later = ap (λ (b : Bool). b || list_any passes (rest others list)) is
      by false true is other h later = later
      by false false is other h later = ap (λ (b : Bool). b || list_any passes (rest others list)) is ∙ later

  same_where : (list : List Posting) → sum_where passes (rest others list) ≡ sum_where passes list
  same_where list =
      ap (λ (b : Bool). if b then Some (sum_of (filter passes (rest others list))) else None) (same_any list)
      ∙ ap (λ (l : List Posting). if list_any passes list then Some (sum_of l) else None) (same_left list)

-- among those that do not pass a test none passes one that is the same
none_of_rest : (passes others : Posting → Bool) (same : (p : Posting) → passes p ≡ others p) (list : List Posting) → list_any passes (rest others list) ≡ false
none_of_rest passes others same [] = refl
none_of_rest passes others same (p ∷ list) = by (others p) refl (none_of_rest passes others same list)
  where
    by : (c : Bool) → others p ≡ c → list_any passes (rest others list) ≡ false → list_any passes (cond (not c) (p ∷ rest others list) (rest others list)) ≡ false
    by true is later = later
    by false is later = ap (λ (b : Bool). b || list_any passes (rest others list)) (same p ∙ is) ∙ later

-- ---- sums by a key

-- entries with the sum of each key, in order, come to all together
module _ {K : Type 0} {R : K → K → Ordering} (o : IsTotalOrder R) (key : Posting → K) (passes : K → Posting → Bool) (tied : (q : K) (p : Posting) → passes q p ≡ eq_by_cmp R q (key p)) where
  abbrev laws : IsEquivalence (eq_by_cmp R)
  laws = eq_by_cmp_equiv o

  pub values_total : (es : List (K × ℤ)) (list : List Posting) → IsStrictlySortedBy R (keys_of es) → ((q : K) → lookup (is_at (R q)) es ≡ sum_where (passes q) list) → total (values_of es) ≡ sum_of list
  values_total [] [] sorted sums = refl
  values_total [] (p ∷ list) sorted sums =
      let all = filter (passes (key p)) (p ∷ list) in
      let here : (passes (key p) p || list_any (passes (key p)) list) ≡ true = ap (λ (b : Bool). b || list_any (passes (key p)) list) (tied (key p) p ∙ laws.refl (key p)) in
      let there : ◌≡◌ {A = Option ℤ} None (Some (sum_of all)) = sums (key p) ∙ ap (λ (b : Bool). if b then Some (sum_of all) else None) here in
      absurd cc
  values_total (e ∷ es) list sorted sums =
      let own : sum_where (passes e.0) list ≡ Some e.1 = sym (sums e.0) ∙ lookup_head (is_at (R e.0)) e es (laws.refl e.0) in
      omega (
        arith,
        ints,
        total-cons e.1 (values_of es),
        in_two (passes e.0) list,
        is_sum (passes e.0) list e.1 own,
        values_total es (rest (passes e.0) list) (sorted_tail R e.0 (keys_of es) sorted) (λ q. later q (is_at (R q) e.0) refl),
      )
    where
      later : (q : K) (b : Bool) → is_at (R q) e.0 ≡ b → lookup (is_at (R q)) es ≡ sum_where (passes q) (rest (passes e.0) list)
      later q true is =
          let distinct = IsDistinct-from_sorted R (keys_of (e ∷ es)) sorted in
          let none = none_of_rest (passes q) (passes e.0) (λ p. tied q p ∙ laws.congr q e.0 (key p) is ∙ sym (tied e.0 p)) list in
          lookup-none (is_at (R q)) es (none_past_head laws q e es distinct is) ∙ sym (ap (λ (b : Bool). if b then Some (sum_of (filter (passes q) (rest (passes e.0) list))) else None) none)
      later q false is =
          sym (lookup_tail (is_at (R q)) e es is) ∙ sums q
          ∙ sym (same_where (passes q) (passes e.0) (λ p passing. tied e.0 p ∙ laws.symm e.0 (key p) ∙ sym (laws.congr q (key p) e.0 (sym (tied q p) ∙ passing)) ∙ is) list)
