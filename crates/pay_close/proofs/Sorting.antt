-- A stable sort by account is the insertion sort: it puts in order, it keeps ties as they stand, and no other list does both.
use Rattle.std.proofs.Common.{◌≡◌, ℕ, suc, ◌+◌, Bool, true, false, cond, not, ◌&&◌, List, [], ◌∷◌, get_or, refl, sym, ap, ◌∙◌, subst, is_lt, arith}
use Rattle.std.specs.Cmp.{IsStrictWeakOrder, nat_cmp_total}
use Rattle.std.specs.List.{filter, AllByRecursion}
use Rattle.std.specs.List.Sorted.{ties, IsSortedBy, IsSortedByKey, IsStableByKey}
use Rattle.std.specs.Ordering.{nat_cmp}
use Rattle.std.proofs.lemmas.List.Elements.{recursion_from_All}
use Rattle.std.proofs.lemmas.List.Sorted.{sorted_far, ranks_by}
use Rattle.pay_close.specs.Batches.{in_order_by}

pub both_false : (a b : Bool) → (not a && not b) ≡ true → (a ≡ false) × (b ≡ false)
both_false false false e = (refl, refl)
both_false false true e = absurd (cc)
both_false true false e = absurd (cc)
both_false true true e = absurd (cc)

-- of two elements that are not both kept, the order in which they are looked at is all one
exchanged : {X : Type 0} (a b : Bool) (x y : X) (l : List X) → (a ≡ true → b ≡ true → ⊥) → cond b (y ∷ cond a (x ∷ l) l) (cond a (x ∷ l) l) ≡ cond a (x ∷ cond b (y ∷ l) l) (cond b (y ∷ l) l)
exchanged true true x y l h = absurd (h refl refl)
exchanged true false x y l h = refl
exchanged false true x y l h = refl
exchanged false false x y l h = refl

same_tail : {X : Type 0} (b : Bool) (x y : X) (a c : List X) → x ≡ y → cond b (x ∷ a) a ≡ cond b (y ∷ c) c → a ≡ c
same_tail true x y a c same e = cc
same_tail false x y a c same e = e

not_empty : {X : Type 0} (x : X) (xs : List X) → x ∷ xs ≡ [] → ⊥
not_empty x xs e = cc

module _ {X : Type 0} (lt : X → X → Bool) where
  abbrev pub put_by : X → List X → List X
  put_by x [] = x ∷ []
  put_by x (y ∷ ys) = cond (lt y x) (y ∷ put_by x ys) (x ∷ y ∷ ys)

  abbrev pub ordered_by : List X → List X
  ordered_by [] = []
  ordered_by (x ∷ xs) = put_by x (ordered_by xs)

  -- no element comes before an earlier one
  abbrev pub Rises : List X → Type 0
  Rises [] = Unit {0}
  Rises (x ∷ xs) = AllByRecursion (λ y. lt y x ≡ false) xs × Rises xs

  all_put : (P : X → Type 0) (x : X) (ys : List X) → P x → AllByRecursion P ys → AllByRecursion P (put_by x ys)
  all_put P x [] p h = (p, tt)
  all_put P x (y ∷ ys) p h = elim (lt y x) as (λ b. AllByRecursion P (cond b (y ∷ put_by x ys) (x ∷ y ∷ ys))) [ true ↦ (h.0, all_put P x ys p h.1) | false ↦ (p, h) ]

  module _ (o : IsStrictWeakOrder lt) where
    pub not_before_itself : (x : X) → lt x x ≡ false
    not_before_itself x = elim (lt x x) as (λ b. lt x x ≡ b → lt x x ≡ false) [ true ↦ λ e. o.one_way x x e | false ↦ λ e. e ] refl

    ties_itself : (x : X) → ties lt x x ≡ true
    ties_itself x = ap (λ b. not b && not b) (not_before_itself x)

    rises_from_sorted_tail : (x : X) (xs : List X) → IsSortedBy lt (x ∷ xs) → IsSortedBy lt xs
    rises_from_sorted_tail x xs up k d low h =
        let same : suc k + 1 ≡ suc (k + 1) = omega arith in
        subst (λ (j : ℕ). lt (get_or (x ∷ xs) j d) (get_or xs k d) ≡ false) same (up (suc k) d (omega arith) (omega arith))

    pub rises_from_sorted : (xs : List X) → IsSortedBy lt xs → Rises xs
    rises_from_sorted [] up = tt
    rises_from_sorted (x ∷ xs) up = (
      recursion_from_All (λ y. lt y x ≡ false) xs (λ k d h. sorted_far lt o (x ∷ xs) up 0 (suc k) d (omega arith) (omega arith)),
      rises_from_sorted xs (rises_from_sorted_tail x xs up),
    )

    all_after : (x y : X) (zs : List X) → lt y x ≡ false → AllByRecursion (λ z. lt z y ≡ false) zs → AllByRecursion (λ z. lt z x ≡ false) zs
    all_after x y [] p h = tt
    all_after x y (z ∷ zs) p h = (o.chain z y x h.0 p, all_after x y zs p h.1)

    rises_put : (x : X) (ys : List X) → Rises ys → Rises (put_by x ys)
    rises_put x [] h = (tt, tt)
    rises_put x (y ∷ ys) h = elim (lt y x) as (λ b. lt y x ≡ b → Rises (cond b (y ∷ put_by x ys) (x ∷ y ∷ ys))) [
      | true ↦ λ e. (all_put (λ z. lt z y ≡ false) x ys (o.one_way y x e) h.0, rises_put x ys h.1)
      | false ↦ λ e. ((e, all_after x y ys e h.0), h)
    ] refl

    pub ordered_rises : (xs : List X) → Rises (ordered_by xs)
    ordered_rises [] = tt
    ordered_rises (x ∷ xs) = rises_put x (ordered_by xs) (ordered_rises xs)

    apart : (x y z : X) → lt y x ≡ true → ties lt z x ≡ true → ties lt z y ≡ true → ⊥
    apart x y z e a b =
        let over : lt y x ≡ false = o.chain y z x (both_false _ _ b).1 (both_false _ _ a).0 in
        cc

    kept_put : (z x : X) (ys : List X) → filter (ties lt z) (put_by x ys) ≡ filter (ties lt z) (x ∷ ys)
    kept_put z x [] = refl
    kept_put z x (y ∷ ys) = elim (lt y x) as (λ b. lt y x ≡ b → filter (ties lt z) (cond b (y ∷ put_by x ys) (x ∷ y ∷ ys)) ≡ filter (ties lt z) (x ∷ y ∷ ys)) [
      | true ↦ λ e. ap (λ (l : List X). cond (ties lt z y) (y ∷ l) l) (kept_put z x ys) ∙ exchanged (ties lt z x) (ties lt z y) x y (filter (ties lt z) ys) (apart x y z e)
      | false ↦ λ e. refl
    ] refl

    -- those that tie with z stand as they stood
    pub ordered_keeps : (z : X) (xs : List X) → filter (ties lt z) (ordered_by xs) ≡ filter (ties lt z) xs
    ordered_keeps z [] = refl
    ordered_keeps z (x ∷ xs) = kept_put z x (ordered_by xs) ∙ ap (λ (l : List X). cond (ties lt z x) (x ∷ l) l) (ordered_keeps z xs)

    before_all : (x y : X) (zs : List X) → lt x y ≡ true → AllByRecursion (λ z. lt z y ≡ false) zs → AllByRecursion (λ z. lt x z ≡ true) zs
    before_all x y [] e h = tt
    before_all x y (z ∷ zs) e h =
        let here : lt x z ≡ true = elim (lt x z) as (λ b. lt x z ≡ b → lt x z ≡ true) [
          | true ↦ λ p. p
          | false ↦ λ p. let over : lt x y ≡ false = o.chain x z y p h.0 in absurd (cc)
        ] refl in
        (here, before_all x y zs e h.1)

    none_kept : (x : X) (zs : List X) → AllByRecursion (λ z. lt x z ≡ true) zs → filter (ties lt x) zs ≡ []
    none_kept x [] h = refl
    none_kept x (z ∷ zs) h = ap (λ b. cond (not b && not (lt z x)) (z ∷ filter (ties lt x) zs) (filter (ties lt x) zs)) h.0 ∙ none_kept x zs h.1

    head_kept : (x : X) (xs : List X) → filter (ties lt x) (x ∷ xs) ≡ x ∷ filter (ties lt x) xs
    head_kept x xs = ap (λ b. cond b (x ∷ filter (ties lt x) xs) (filter (ties lt x) xs)) (ties_itself x)

    -- a head that comes before the other list's head has nothing there that ties with it
    first_missed : (x y : X) (xs ys : List X) → lt x y ≡ true → AllByRecursion (λ z. lt z y ≡ false) ys → filter (ties lt x) (x ∷ xs) ≡ filter (ties lt x) (y ∷ ys) → ⊥
    first_missed x y xs ys e h is =
        not_empty x (filter (ties lt x) xs) (sym (head_kept x xs) ∙ is ∙ none_kept x (y ∷ ys) (e, before_all x y ys e h))

    heads_tie : (x y : X) (xs ys : List X) → lt x y ≡ false → lt y x ≡ false → filter (ties lt x) (x ∷ xs) ≡ filter (ties lt x) (y ∷ ys) → x ≡ y
    heads_tie x y xs ys e f is =
        let t : ties lt x y ≡ true = ap (λ b. not b && not (lt y x)) e ∙ ap (λ b. true && not b) f in
        let both : x ∷ filter (ties lt x) xs ≡ y ∷ filter (ties lt x) ys = sym (head_kept x xs) ∙ is ∙ ap (λ b. cond b (y ∷ filter (ties lt x) ys) (filter (ties lt x) ys)) t in
        cc

    -- two lists in order that keep the same elements of each tie are one
    pub one_order : (xs ys : List X) → Rises xs → Rises ys → ((z : X) → filter (ties lt z) xs ≡ filter (ties lt z) ys) → xs ≡ ys
    one_order [] [] g h is = refl
    one_order [] (y ∷ ys) g h is = absurd (not_empty y _ (sym (head_kept y ys) ∙ sym (is y)))
    one_order (x ∷ xs) [] g h is = absurd (not_empty x _ (sym (head_kept x xs) ∙ is x))
    one_order (x ∷ xs) (y ∷ ys) g h is =
        elim (lt x y) as (λ b. lt x y ≡ b → x ∷ xs ≡ y ∷ ys) [
          | true ↦ λ e. absurd (first_missed x y xs ys e h.0 (is x))
          | false ↦ λ e. elim (lt y x) as (λ b. lt y x ≡ b → x ∷ xs ≡ y ∷ ys) [
            | true ↦ λ f. absurd (first_missed y x ys xs f g.0 (sym (is y)))
            | false ↦ λ f.
                let same = heads_tie x y xs ys e f (is x) in
                let rest = one_order xs ys g.1 h.1 (λ z. same_tail (ties lt z x) x y _ _ same (is z ∙ ap (λ (w : X). cond (ties lt z w) (y ∷ filter (ties lt z) ys) (filter (ties lt z) ys)) (sym same))) in
                λ i. same i ∷ rest i
          ] refl
        ] refl

    -- a list in order that has the same of each tie is what the insertion sort gives
    pub same_ordered : (xs ys : List X) → Rises ys → ((z : X) → filter (ties lt z) ys ≡ filter (ties lt z) xs) → ys ≡ ordered_by xs
    same_ordered xs ys up keeps = one_order ys (ordered_by xs) up (ordered_rises xs) (λ z. keeps z ∙ sym (ordered_keeps z xs))

    -- and so is what a stable sort leaves
    pub stable_sort : (xs ys : List X) → IsSortedBy lt ys → ((z : X) → filter (ties lt z) ys ≡ filter (ties lt z) xs) → ys ≡ ordered_by xs
    stable_sort xs ys up keeps = same_ordered xs ys (rises_from_sorted ys up) keeps

-- by account
pub ranked : {X : Type 0} (account : X → ℕ) → IsStrictWeakOrder (λ a b. is_lt (nat_cmp (account a) (account b)))
ranked account = ranks_by nat_cmp_total account

pub sorted_by : {X : Type 0} (account : X → ℕ) (xs ys : List X) → IsSortedByKey account nat_cmp ys → IsStableByKey account nat_cmp xs ys → ys ≡ in_order_by account xs
sorted_by account xs ys up keeps = stable_sort (λ a b. is_lt (nat_cmp (account a) (account b))) (ranked account) xs ys up keeps

-- what stands in ascending order of account, and has the same of each account
pub rising_by : {X : Type 0} (account : X → ℕ) (xs ys : List X) → Rises (λ a b. is_lt (nat_cmp (account a) (account b))) ys → IsStableByKey account nat_cmp xs ys → ys ≡ in_order_by account xs
rising_by account xs ys up keeps = same_ordered (λ a b. is_lt (nat_cmp (account a) (account b))) (ranked account) xs ys up keeps
