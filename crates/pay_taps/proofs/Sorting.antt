-- Insertion sort by a test: it puts in order, it keeps ties as they stand, and no other list does both.
use Rattle.std.proofs.Common.{◌≡◌, ℕ, suc, zero, ◌+◌, Bool, true, false, cond, not, ◌&&◌, List, [], length, ◌∷◌, get_or, Contains, ◌⊎◌, inl, inr, refl, sym, ap, ◌∙◌, subst, arith}
use Rattle.std.specs.Cmp.{IsStrictWeakOrder}
use Rattle.std.specs.List.{filter, AllByRecursion}
use Rattle.std.specs.List.Sorted.{ties, IsSortedBy, IsPermutation}
use Rattle.std.proofs.lemmas.List.Elements.{recursion_from_All, All-from_recursion, All-head, All-same, All-filter, All-contains_itself, All-contains, filter_passes}
use Rattle.std.proofs.lemmas.List.Sums.{length-filter}
use Rattle.std.proofs.lemmas.List.Sorted.{sorted_far, IsPermutation-refl, IsPermutation-cons, IsPermutation-trans, IsPermutation-middle, IsPermutation-sym, Contains-permutation, sum_by-IsPermutation}

pub both_false : (a b : Bool) → (not a && not b) ≡ true → (a ≡ false) × (b ≡ false)
both_false false false e = (refl, refl)
both_false false true e = absurd (cc)
both_false true false e = absurd (cc)
both_false true true e = absurd (cc)

-- of two elements that are not both kept, the order in which they are looked at is all one
exchanged : {X : Type 0} (a b : Bool) (x y : X) (l : List X) → (a ≡ true → b ≡ true → ⊥) → cond b (y ∷ cond a (x ∷ l) l) (cond a (x ∷ l) l) ≡ cond a (x ∷ cond b (y ∷ l) l) (cond b (y ∷ l) l)
exchanged true true x y l h = absurd (h refl refl)
exchanged true false x y l h = refl
exchanged false true x y l h = refl
exchanged false false x y l h = refl

same_tail : {X : Type 0} (b : Bool) (x y : X) (a c : List X) → x ≡ y → cond b (x ∷ a) a ≡ cond b (y ∷ c) c → a ≡ c
same_tail true x y a c same e = cc
same_tail false x y a c same e = e

not_empty : {X : Type 0} (x : X) (xs : List X) → x ∷ xs ≡ [] → ⊥
not_empty x xs e = cc

length_none : {X : Type 0} (xs : List X) → length xs ≡ 0 → xs ≡ []
length_none [] e = refl
length_none (x ∷ xs) e = absurd (omega arith)

length_one : {X : Type 0} (xs : List X) → length xs ≡ 1 → (x : X) × (xs ≡ x ∷ [])
length_one [] e = absurd (omega arith)
length_one {X = X} (x ∷ xs) e = (x, ap (λ (l : List X). x ∷ l) (length_none xs (omega arith)))

-- what a filter keeps alone is all that passes
module _ {X : Type 0} (p : X → Bool) where
  none_passes : (xs : List X) (x : X) → filter p xs ≡ [] → AllByRecursion (λ w. p w ≡ true → w ≡ x) xs
  none_passes [] x e = tt
  none_passes (w ∷ ws) x e =
      elim (p w) as (λ b. p w ≡ b → cond b (w ∷ filter p ws) (filter p ws) ≡ [] → AllByRecursion (λ w. p w ≡ true → w ≡ x) (w ∷ ws)) [
        | true ↦ λ t f. absurd (not_empty w (filter p ws) f)
        | false ↦ λ t f. ((λ u. absurd (cc)), none_passes ws x f)
      ] refl e

  one_passes : (xs : List X) (x : X) → filter p xs ≡ x ∷ [] → AllByRecursion (λ w. p w ≡ true → w ≡ x) xs
  one_passes [] x e = tt
  one_passes (w ∷ ws) x e =
      elim (p w) as (λ b. p w ≡ b → cond b (w ∷ filter p ws) (filter p ws) ≡ x ∷ [] → AllByRecursion (λ w. p w ≡ true → w ≡ x) (w ∷ ws)) [
        | true ↦ λ t f. let same : w ≡ x = cc in ((λ _. same), none_passes ws x (cc))
        | false ↦ λ t f. ((λ u. absurd (cc)), one_passes ws x f)
      ] refl e

  same_length : (xs ys : List X) → IsPermutation xs ys → length (filter p ys) ≡ length (filter p xs)
  same_length xs ys h = length-filter p ys ∙ sum_by-IsPermutation (λ x. cond (p x) 1 0) xs ys h ∙ sym (length-filter p xs)

  -- where at most one passes, a permutation keeps what a filter keeps
  pub kept_permuted : (xs ys : List X) → (filter p xs ≡ []) ⊎ ((x : X) × (filter p xs ≡ x ∷ [])) → IsPermutation xs ys → filter p xs ≡ filter p ys
  kept_permuted xs ys (inl e) h = e ∙ sym (length_none _ (same_length xs ys h ∙ ap length e))
  kept_permuted xs ys (inr (x, e)) h =
      let only = length_one (filter p ys) (same_length xs ys h ∙ ap length e) in
      let y = only.0 in
      let there = All-head (Contains ys) y [] (All-same (Contains ys) _ _ (sym only.1) (All-filter p (Contains ys) ys (All-contains_itself ys))) in
      let passes = All-head (λ w. p w ≡ true) y [] (All-same (λ w. p w ≡ true) _ _ (sym only.1) (filter_passes p ys)) in
      let here = Contains-permutation ys xs y (IsPermutation-sym xs ys h) there in
      let same = All-contains (λ w. p w ≡ true → w ≡ x) xs y (All-from_recursion (λ w. p w ≡ true → w ≡ x) xs (one_passes xs x e)) here passes in
      e ∙ ap (λ (w : X). w ∷ []) (sym same) ∙ sym only.1

module _ {X : Type 0} (lt : X → X → Bool) where
  abbrev pub put_by : X → List X → List X
  put_by x [] = x ∷ []
  put_by x (y ∷ ys) = cond (lt y x) (y ∷ put_by x ys) (x ∷ y ∷ ys)

  abbrev pub ordered_by : List X → List X
  ordered_by [] = []
  ordered_by (x ∷ xs) = put_by x (ordered_by xs)

  -- no element comes before an earlier one
  abbrev pub Rises : List X → Type 0
  Rises [] = Unit {0}
  Rises (x ∷ xs) = AllByRecursion (λ y. lt y x ≡ false) xs × Rises xs

  -- no two elements tie
  abbrev pub NoTies : List X → Type 0
  NoTies [] = Unit {0}
  NoTies (x ∷ xs) = AllByRecursion (λ y. ties lt x y ≡ false) xs × NoTies xs

  pub all_put : (P : X → Type 0) (x : X) (ys : List X) → P x → AllByRecursion P ys → AllByRecursion P (put_by x ys)
  all_put P x [] p h = (p, tt)
  all_put P x (y ∷ ys) p h = elim (lt y x) as (λ b. AllByRecursion P (cond b (y ∷ put_by x ys) (x ∷ y ∷ ys))) [ true ↦ (h.0, all_put P x ys p h.1) | false ↦ (p, h) ]

  put_permutes : (x : X) (ys : List X) → IsPermutation (x ∷ ys) (put_by x ys)
  put_permutes x [] = IsPermutation-refl (x ∷ [])
  put_permutes x (y ∷ ys) = elim (lt y x) as (λ b. IsPermutation (x ∷ y ∷ ys) (cond b (y ∷ put_by x ys) (x ∷ y ∷ ys))) [
    | true ↦ IsPermutation-trans _ _ _ (IsPermutation-middle (x ∷ []) y ys) (IsPermutation-cons y _ _ (put_permutes x ys))
    | false ↦ IsPermutation-refl (x ∷ y ∷ ys)
  ]

  pub ordered_permutes : (xs : List X) → IsPermutation xs (ordered_by xs)
  ordered_permutes [] = IsPermutation-refl []
  ordered_permutes (x ∷ xs) = IsPermutation-trans _ _ _ (IsPermutation-cons x _ _ (ordered_permutes xs)) (put_permutes x (ordered_by xs))

  pub sorted_from_rises : (xs : List X) → Rises xs → IsSortedBy lt xs
  sorted_from_rises [] r k d low h = absurd (omega arith)
  sorted_from_rises (x ∷ []) r zero d low h = absurd (omega arith)
  sorted_from_rises (x ∷ y ∷ ys) r zero d low h = r.0.0
  sorted_from_rises (x ∷ xs) r (suc k) d low h =
      let same : suc (k + 1) ≡ suc k + 1 = omega arith in
      subst (λ (j : ℕ). lt (get_or (x ∷ xs) j d) (get_or xs k d) ≡ false) same (sorted_from_rises xs r.1 k d (omega arith) (omega arith))

  module _ (o : IsStrictWeakOrder lt) where
    pub not_before_itself : (x : X) → lt x x ≡ false
    not_before_itself x = elim (lt x x) as (λ b. lt x x ≡ b → lt x x ≡ false) [ true ↦ λ e. o.one_way x x e | false ↦ λ e. e ] refl

    ties_itself : (x : X) → ties lt x x ≡ true
    ties_itself x = ap (λ b. not b && not b) (not_before_itself x)

    rises_from_sorted_tail : (x : X) (xs : List X) → IsSortedBy lt (x ∷ xs) → IsSortedBy lt xs
    rises_from_sorted_tail x xs up k d low h =
        let same : suc k + 1 ≡ suc (k + 1) = omega arith in
        subst (λ (j : ℕ). lt (get_or (x ∷ xs) j d) (get_or xs k d) ≡ false) same (up (suc k) d (omega arith) (omega arith))

    pub rises_from_sorted : (xs : List X) → IsSortedBy lt xs → Rises xs
    rises_from_sorted [] up = tt
    rises_from_sorted (x ∷ xs) up = (
      recursion_from_All (λ y. lt y x ≡ false) xs (λ k d h. sorted_far lt o (x ∷ xs) up 0 (suc k) d (omega arith) (omega arith)),
      rises_from_sorted xs (rises_from_sorted_tail x xs up),
    )

    all_after : (x y : X) (zs : List X) → lt y x ≡ false → AllByRecursion (λ z. lt z y ≡ false) zs → AllByRecursion (λ z. lt z x ≡ false) zs
    all_after x y [] p h = tt
    all_after x y (z ∷ zs) p h = (o.chain z y x h.0 p, all_after x y zs p h.1)

    pub rises_put : (x : X) (ys : List X) → Rises ys → Rises (put_by x ys)
    rises_put x [] h = (tt, tt)
    rises_put x (y ∷ ys) h = elim (lt y x) as (λ b. lt y x ≡ b → Rises (cond b (y ∷ put_by x ys) (x ∷ y ∷ ys))) [
      | true ↦ λ e. (all_put (λ z. lt z y ≡ false) x ys (o.one_way y x e) h.0, rises_put x ys h.1)
      | false ↦ λ e. ((e, all_after x y ys e h.0), h)
    ] refl

    pub ordered_rises : (xs : List X) → Rises (ordered_by xs)
    ordered_rises [] = tt
    ordered_rises (x ∷ xs) = rises_put x (ordered_by xs) (ordered_rises xs)

    apart : (x y z : X) → lt y x ≡ true → ties lt z x ≡ true → ties lt z y ≡ true → ⊥
    apart x y z e a b =
        let over : lt y x ≡ false = o.chain y z x (both_false _ _ b).1 (both_false _ _ a).0 in
        cc

    kept_put : (z x : X) (ys : List X) → filter (ties lt z) (put_by x ys) ≡ filter (ties lt z) (x ∷ ys)
    kept_put z x [] = refl
    kept_put z x (y ∷ ys) = elim (lt y x) as (λ b. lt y x ≡ b → filter (ties lt z) (cond b (y ∷ put_by x ys) (x ∷ y ∷ ys)) ≡ filter (ties lt z) (x ∷ y ∷ ys)) [
      | true ↦ λ e. ap (λ (l : List X). cond (ties lt z y) (y ∷ l) l) (kept_put z x ys) ∙ exchanged (ties lt z x) (ties lt z y) x y (filter (ties lt z) ys) (apart x y z e)
      | false ↦ λ e. refl
    ] refl

    -- those that tie with z stand as they stood
    pub ordered_keeps : (z : X) (xs : List X) → filter (ties lt z) (ordered_by xs) ≡ filter (ties lt z) xs
    ordered_keeps z [] = refl
    ordered_keeps z (x ∷ xs) = kept_put z x (ordered_by xs) ∙ ap (λ (l : List X). cond (ties lt z x) (x ∷ l) l) (ordered_keeps z xs)

    before_all : (x y : X) (zs : List X) → lt x y ≡ true → AllByRecursion (λ z. lt z y ≡ false) zs → AllByRecursion (λ z. lt x z ≡ true) zs
    before_all x y [] e h = tt
    before_all x y (z ∷ zs) e h =
        let here : lt x z ≡ true = elim (lt x z) as (λ b. lt x z ≡ b → lt x z ≡ true) [
          | true ↦ λ p. p
          | false ↦ λ p. let over : lt x y ≡ false = o.chain x z y p h.0 in absurd (cc)
        ] refl in
        (here, before_all x y zs e h.1)

    none_kept : (x : X) (zs : List X) → AllByRecursion (λ z. lt x z ≡ true) zs → filter (ties lt x) zs ≡ []
    none_kept x [] h = refl
    none_kept x (z ∷ zs) h = ap (λ b. cond (not b && not (lt z x)) (z ∷ filter (ties lt x) zs) (filter (ties lt x) zs)) h.0 ∙ none_kept x zs h.1

    head_kept : (x : X) (xs : List X) → filter (ties lt x) (x ∷ xs) ≡ x ∷ filter (ties lt x) xs
    head_kept x xs = ap (λ b. cond b (x ∷ filter (ties lt x) xs) (filter (ties lt x) xs)) (ties_itself x)

    -- a head that comes before the other list's head has nothing there that ties with it
    first_missed : (x y : X) (xs ys : List X) → lt x y ≡ true → AllByRecursion (λ z. lt z y ≡ false) ys → filter (ties lt x) (x ∷ xs) ≡ filter (ties lt x) (y ∷ ys) → ⊥
    first_missed x y xs ys e h is =
        not_empty x (filter (ties lt x) xs) (sym (head_kept x xs) ∙ is ∙ none_kept x (y ∷ ys) (e, before_all x y ys e h))

    heads_tie : (x y : X) (xs ys : List X) → lt x y ≡ false → lt y x ≡ false → filter (ties lt x) (x ∷ xs) ≡ filter (ties lt x) (y ∷ ys) → x ≡ y
    heads_tie x y xs ys e f is =
        let t : ties lt x y ≡ true = ap (λ b. not b && not (lt y x)) e ∙ ap (λ b. true && not b) f in
        let both : x ∷ filter (ties lt x) xs ≡ y ∷ filter (ties lt x) ys = sym (head_kept x xs) ∙ is ∙ ap (λ b. cond b (y ∷ filter (ties lt x) ys) (filter (ties lt x) ys)) t in
        cc

    -- two lists in order that keep the same elements of each tie are one
    pub one_order : (xs ys : List X) → Rises xs → Rises ys → ((z : X) → filter (ties lt z) xs ≡ filter (ties lt z) ys) → xs ≡ ys
    one_order [] [] g h is = refl
    one_order [] (y ∷ ys) g h is = absurd (not_empty y _ (sym (head_kept y ys) ∙ sym (is y)))
    one_order (x ∷ xs) [] g h is = absurd (not_empty x _ (sym (head_kept x xs) ∙ is x))
    one_order (x ∷ xs) (y ∷ ys) g h is =
        elim (lt x y) as (λ b. lt x y ≡ b → x ∷ xs ≡ y ∷ ys) [
          | true ↦ λ e. absurd (first_missed x y xs ys e h.0 (is x))
          | false ↦ λ e. elim (lt y x) as (λ b. lt y x ≡ b → x ∷ xs ≡ y ∷ ys) [
            | true ↦ λ f. absurd (first_missed y x ys xs f g.0 (sym (is y)))
            | false ↦ λ f.
                let same = heads_tie x y xs ys e f (is x) in
                let rest = one_order xs ys g.1 h.1 (λ z. same_tail (ties lt z x) x y _ _ same (is z ∙ ap (λ (w : X). cond (ties lt z w) (y ∷ filter (ties lt z) ys) (filter (ties lt z) ys)) (sym same))) in
                λ i. same i ∷ rest i
          ] refl
        ] refl

    -- what a stable sort leaves is what the insertion sort gives
    pub stable_sort : (xs ys : List X) → IsSortedBy lt ys → ((z : X) → filter (ties lt z) ys ≡ filter (ties lt z) xs) → ys ≡ ordered_by xs
    stable_sort xs ys up keeps = one_order ys (ordered_by xs) (rises_from_sorted ys up) (ordered_rises xs) (λ z. keeps z ∙ sym (ordered_keeps z xs))

    ties_meet : (z x y : X) → ties lt z x ≡ true → ties lt z y ≡ true → ties lt x y ≡ true
    ties_meet z x y a b =
        let before : lt x y ≡ false = o.chain x z y (both_false _ _ a).1 (both_false _ _ b).0 in
        let beyond : lt y x ≡ false = o.chain y z x (both_false _ _ b).1 (both_false _ _ a).0 in
        ap (λ t. not t && not (lt y x)) before ∙ ap (λ t. true && not t) beyond

    none_meet : (z x : X) (xs : List X) → ties lt z x ≡ true → AllByRecursion (λ y. ties lt x y ≡ false) xs → filter (ties lt z) xs ≡ []
    none_meet z x [] t h = refl
    none_meet z x (y ∷ ys) t h = elim (ties lt z y) as (λ b. ties lt z y ≡ b → cond b (y ∷ filter (ties lt z) ys) (filter (ties lt z) ys) ≡ []) [
      | true ↦ λ u. let meet : ties lt x y ≡ true = ties_meet z x y t u in let not_meet : ties lt x y ≡ false = h.0 in absurd (cc)
      | false ↦ λ u. none_meet z x ys t h.1
    ] refl

    few_tie : (z : X) (xs : List X) → NoTies xs → (filter (ties lt z) xs ≡ []) ⊎ ((x : X) × (filter (ties lt z) xs ≡ x ∷ []))
    few_tie z [] h = inl refl
    few_tie z (x ∷ xs) h = elim (ties lt z x) as (λ b. ties lt z x ≡ b → (cond b (x ∷ filter (ties lt z) xs) (filter (ties lt z) xs) ≡ []) ⊎ ((w : X) × (cond b (x ∷ filter (ties lt z) xs) (filter (ties lt z) xs) ≡ w ∷ []))) [
      | true ↦ λ t. inr (x, ap (λ (l : List X). x ∷ l) (none_meet z x xs t h.0))
      | false ↦ λ t. few_tie z xs h.1
    ] refl

    -- where no two tie, every arrangement has one order
    pub one_arrangement : (xs ys : List X) → NoTies xs → IsPermutation xs ys → ordered_by xs ≡ ordered_by ys
    one_arrangement xs ys h moved = one_order (ordered_by xs) (ordered_by ys) (ordered_rises xs) (ordered_rises ys)
        (λ z. ordered_keeps z xs ∙ kept_permuted (ties lt z) xs ys (few_tie z xs h) moved ∙ sym (ordered_keeps z ys))
