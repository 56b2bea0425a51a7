-- Accounts one beside another, by their numbers and by their places.
use Rattle.std.proofs.Common.{◌≡◌, ℕ, zero, suc, ◌+◌, ◌<◌, ◌≤◌, Bool, true, false, cond, ◌&&◌, ◌||◌, T, List, [], ◌∷◌, ◌++◌, map, length, take, get_or, set, nat_lt, nat_eq, eqb-true, eq-eqb, inl, inr, Option, Some, None, is_some, unwrap_or, refl, sym, ap, ◌∙◌, subst, arith}
use Rattle.std.specs.Cmp.{nat_cmp_total, eq_by_cmp_equiv, nat_eq_equiv}
use Rattle.std.specs.FinMap as finite
use Rattle.std.specs.FinMap.{find, is_sorted, get-from_entries, get-insert, get-from_sorted, entries-from_sorted, from_entries_push, same_map, nat_cmp-IsAntisymmetric}
use Rattle.std.specs.FinMap.Entries.{below_all}
use Rattle.std.specs.List.{AllByRecursion, IsDistinct}
use Rattle.std.specs.List.Sorted.{IsStrictlySortedBy, IsSorted, IsPermutation}
use Rattle.std.specs.Map.{lookup}
use Rattle.std.specs.Option.{option_map, IfNone}
use Rattle.std.specs.Set.{is_member}
use Rattle.std.specs.Ordering.{nat_cmp, eq_by_cmp, is_eq, is_lt}
use Rattle.std.specs.declared.cmp.Ordering.{Ordering}
use Rattle.std.specs.declared.cmp.Ordering.TheVariants.{Less, Equal, Greater}
use Rattle.std.proofs.Math.Seq.{map-set_same}
use Rattle.std.proofs.lemmas.Bool.{lt-ltb, cases_lt}
use Rattle.std.proofs.lemmas.List.{map-append, length-map}
use Rattle.std.proofs.lemmas.List.Sorted.{IsNonDecreasingBy-from_sort, list_any-IsPermutation}
use Rattle.std.proofs.lemmas.Map.Keys.{IsDistinct-IsPermutation, apart_from_distinct, sorted_from_strictly_increasing}
use Rattle.pay_rules.specs.Accepted.{Accepted, nothing}
use Rattle.pay_shard.specs.Held.{place_of, ArePlaces, AreNumbersOf, state_of}
use Rattle.pay_shard.specs.State.{kept}
use Rattle.pay_rules.specs.State.{State, accepted_of}

abbrev pub same_number : ℕ → ℕ → Bool
same_number = eq_by_cmp nat_cmp

equal : (o : Ordering) → is_eq o ≡ true → o ≡ Equal
equal Less p = cc
equal Equal p = refl
equal Greater p = cc

pub one_number : (p q : ℕ) → same_number p q ≡ true → p ≡ q
one_number p q e = nat_cmp-IsAntisymmetric p q (equal (nat_cmp p q) e)

pub equal_to : (k q : ℕ) → nat_eq k q ≡ same_number k q
equal_to k q = by (nat_eq k q) (same_number k q) refl refl
  where
    by : (a b : Bool) → nat_eq k q ≡ a → same_number k q ≡ b → a ≡ b
    by true true e f = refl
    by false false e f = refl
    by true false e f = let same : true ≡ false = sym ((eq_by_cmp_equiv nat_cmp_total).refl k) ∙ ap (same_number k) (eqb-true k q e) ∙ f in absurd (cc)
    by false true e f = let same = eq-eqb k q (one_number k q f) in absurd (cc)

tells_same : (k q : ℕ) → nat_eq k q ≡ same_number q k
tells_same k q = equal_to k q ∙ (eq_by_cmp_equiv nat_cmp_total).symm k q

some_suc : (o : Option ℕ) (i : ℕ) → option_map suc o ≡ Some i → (j : ℕ) × (o ≡ Some j) × (i ≡ suc j)
some_suc None i e = absurd (cc)
some_suc (Some j) i e = (j, refl, ap (λ o. unwrap_or o 0) (sym e))

none_suc : (o : Option ℕ) → option_map suc o ≡ None → o ≡ None
none_suc None e = refl
none_suc (Some j) e = absurd (cc)

-- a test that is made twice, and two tests that are not both met
twice : {X : Type 0} (b : Bool) (x y z : X) → cond b x z ≡ cond b x (cond b y z)
twice true x y z = refl
twice false x y z = refl

turned : {X : Type 0} (a b : Bool) (x y z : X) → (a ≡ true → b ≡ false) → cond a x (cond b y z) ≡ cond b y (cond a x z)
turned true true x y z apart = let no = apart refl in absurd (cc)
turned true false x y z apart = refl
turned false b x y z apart = refl

apart : (q n p : ℕ) → same_number q n ≡ false → same_number p q ≡ true → same_number p n ≡ false
apart q n p off is = ap (λ k. same_number k n) (one_number p q is) ∙ off

apart_so : (q n p : ℕ) → same_number q n ≡ false → same_number p n ≡ true → same_number p q ≡ false
apart_so q n p off is = by (same_number p q) refl
  where
    by : (b : Bool) → same_number p q ≡ b → b ≡ false
    by true e = let same = apart q n p off e in absurd (cc)
    by false e = refl

-- ---- numbers in ascending order

both : (a b : Bool) → T a → T b → T (a && b)
both true b p q = q
both false b p q = p

module _ (f : ℕ → Accepted) where
  abbrev with_accepted : ℕ → ℕ × Accepted
  with_accepted n = (n, f n)

  below_rises : (n : ℕ) (ns : List ℕ) → AllByRecursion (λ m. nat_cmp n m ≡ Less) ns → T (below_all nat_cmp n (map with_accepted ns))
  below_rises n [] h = tt
  below_rises n (m ∷ ns) h = both (is_lt (nat_cmp n m)) (below_all nat_cmp n (map with_accepted ns)) (subst (λ r. T (is_lt r)) (sym h.0) tt) (below_rises n ns h.1)

  sorted_rises : (ns : List ℕ) → IsStrictlySortedBy nat_cmp ns → T (is_sorted nat_cmp (map with_accepted ns))
  unfolding IsStrictlySortedBy
  sorted_rises [] h = tt
  sorted_rises (n ∷ ns) h = both (below_all nat_cmp n (map with_accepted ns)) (is_sorted nat_cmp (map with_accepted ns)) (below_rises n ns h.0) (sorted_rises ns h.1)

  find_each : (ns : List ℕ) (q : ℕ) → find nat_cmp q (map with_accepted ns) ≡ cond (is_member nat_eq ns q) (Some (f q)) None
  find_each [] q = refl
  find_each (n ∷ ns) q = by (same_number q n) refl (find_each ns q) ∙ ap (λ b. cond (b || is_member nat_eq ns q) (Some (f q)) None) (sym (equal_to q n))
    where
      by : (b : Bool) → same_number q n ≡ b → find nat_cmp q (map with_accepted ns) ≡ cond (is_member nat_eq ns q) (Some (f q)) None
          → cond b (Some (f n)) (find nat_cmp q (map with_accepted ns)) ≡ cond (b || is_member nat_eq ns q) (Some (f q)) None
      by true here rest = ap (λ k. Some (f k)) (sym (one_number q n here))
      by false off rest = rest

-- numbers in order, of which none stands twice
numbers_ascend : (ns : List ℕ) → IsSorted nat_cmp ns → IsDistinct nat_eq ns → IsStrictlySortedBy nat_cmp ns
numbers_ascend ns sorted distinct = sorted_from_strictly_increasing ns (λ k within.
    let rises = IsNonDecreasingBy-from_sort (λ n. n) ns sorted k (k + 1) 0 (omega arith) within in
    let apart = apart_from_distinct nat_eq ns k (k + 1) 0 distinct (omega arith) within in
    elim (cases_lt (get_or ns k 0) (get_or ns (k + 1) 0)) [
      | inl below ↦ below
      | inr above ↦ let same = eq-eqb (get_or ns k 0) (get_or ns (k + 1) 0) (omega arith) in absurd (cc)
    ])

pub numbers_of_keys : (places : List (ℕ × ℕ)) (keys sorted : List ℕ) → IsDistinct nat_eq keys → ((q : ℕ) → is_some (lookup (nat_eq q) places) ≡ is_member nat_eq keys q)
    → IsPermutation keys sorted → IsSorted nat_cmp sorted → AreNumbersOf places sorted
numbers_of_keys places keys sorted distinct has moved ascend = record {
  ascend = numbers_ascend sorted ascend (IsDistinct-IsPermutation nat_eq nat_eq_equiv.symm keys sorted moved distinct);
  same = λ q. has q ∙ list_any-IsPermutation (nat_eq q) keys sorted moved;
}

-- ---- numbers

pub place_pushed : (ns : List ℕ) (q : ℕ) → place_of q ns ≡ None → (p : ℕ) → place_of p (ns ++ q ∷ []) ≡ cond (same_number p q) (Some (length ns)) (place_of p ns)
place_pushed [] q none p = refl
place_pushed (n ∷ ns) q none p = by (same_number q n) refl none (place_pushed ns q)
  where
    inner : (b : Bool) (x : ℕ) (o : Option ℕ) → option_map suc (cond b (Some x) o) ≡ cond b (Some (suc x)) (option_map suc o)
    inner true x o = refl
    inner false x o = refl

    by : (b : Bool) → same_number q n ≡ b → cond b (Some 0) (option_map suc (place_of q ns)) ≡ None → (place_of q ns ≡ None → (p : ℕ) → place_of p (ns ++ q ∷ []) ≡ cond (same_number p q) (Some (length ns)) (place_of p ns))
        → place_of p (n ∷ ns ++ q ∷ []) ≡ cond (same_number p q) (Some (suc (length ns))) (place_of p (n ∷ ns))
    by true e f more = absurd (cc)
    by false e f more =
        ap (λ o. cond (same_number p n) (Some 0) (option_map suc o)) (more (none_suc (place_of q ns) f) p)
        ∙ ap (cond (same_number p n) (Some 0)) (inner (same_number p q) (length ns) (place_of p ns))
        ∙ turned (same_number p n) (same_number p q) (Some 0) (Some (suc (length ns))) (option_map suc (place_of p ns)) (apart_so q n p e)

-- a number is written at its place
pub places_more : (ps written : List (ℕ × ℕ)) (ns : List ℕ) (k n : ℕ) → ArePlaces ps ns → place_of k ns ≡ None → n ≡ length ns
    → ((q : ℕ) → lookup (nat_eq q) written ≡ cond (nat_eq k q) (Some n) (lookup (nat_eq q) ps)) → ArePlaces written (ns ++ k ∷ [])
places_more ps written ns k n are none size h q =
    h q ∙ ap (cond (nat_eq k q) (Some n)) (are q)
    ∙ ap (λ b. cond b (Some n) (place_of q ns)) (tells_same k q)
    ∙ ap (λ m. cond (same_number q k) (Some m) (place_of q ns)) size
    ∙ sym (place_pushed ns k none q)

-- ---- numbers one after another, each of which is another

other_first : (n : ℕ) (ns : List ℕ) (i d : ℕ) → AllByRecursion (λ m. same_number n m ≡ false) ns → i < length ns → same_number (get_or ns i d) n ≡ false
other_first n [] i d h lt = absurd (omega (arith, lt))
other_first n (m ∷ ns) zero d h lt = (eq_by_cmp_equiv nat_cmp_total).symm m n ∙ h.0
other_first n (m ∷ ns) (suc i) d h lt = other_first n ns i d h.1 (omega (arith, lt))

new_place : (ns : List ℕ) (i d : ℕ) → IsDistinct same_number ns → i < length ns → place_of (get_or ns i d) (take i ns) ≡ None
unfolding IsDistinct
new_place [] i d h lt = absurd (omega (arith, lt))
new_place (n ∷ ns) zero d h lt = refl
new_place (n ∷ ns) (suc i) d h lt =
    ap (λ b. cond b (Some 0) (option_map suc (place_of (get_or ns i d) (take i ns)))) (other_first n ns i d h.0 (omega (arith, lt)))
    ∙ ap (option_map suc) (new_place ns i d h.1 (omega (arith, lt)))

take_next : (ns : List ℕ) (i d : ℕ) → i < length ns → take (suc i) ns ≡ take i ns ++ get_or ns i d ∷ []
take_next [] i d lt = absurd (omega (arith, lt))
take_next (n ∷ ns) zero d lt = refl
take_next (n ∷ ns) (suc i) d lt = ap (λ (l : List ℕ). n ∷ l) (take_next ns i d (omega (arith, lt)))

length_taken : (ns : List ℕ) (i : ℕ) → i < length ns → i ≡ length (take i ns)
length_taken [] i lt = absurd (omega (arith, lt))
length_taken (n ∷ ns) zero lt = refl
length_taken (n ∷ ns) (suc i) lt = ap suc (length_taken ns i (omega (arith, lt)))

pub take_all : (ns : List ℕ) (i : ℕ) → length ns ≤ i → take i ns ≡ ns
take_all [] zero h = refl
take_all [] (suc i) h = refl
take_all (n ∷ ns) zero h = absurd (omega (arith, h))
take_all (n ∷ ns) (suc i) h = ap (λ (l : List ℕ). n ∷ l) (take_all ns i (omega (arith, h)))

pub next_placed : (ps written : List (ℕ × ℕ)) (ns : List ℕ) (k i : ℕ) → IsDistinct same_number ns → i < length ns → k ≡ get_or ns i 0 → ArePlaces ps (take i ns)
    → ((q : ℕ) → lookup (nat_eq q) written ≡ cond (nat_eq k q) (Some i) (lookup (nat_eq q) ps)) → ArePlaces written (take (i + 1) ns)
next_placed ps written ns k i apart lt is are h =
    let next : suc i ≡ i + 1 = omega arith in
    subst (λ j. ArePlaces written (take j ns)) next (subst (ArePlaces written) (sym (take_next ns i 0 lt))
    (subst (λ m. ArePlaces written (take i ns ++ m ∷ [])) is (places_more ps written (take i ns) k i are (ap (λ m. place_of m (take i ns)) is ∙ new_place ns i 0 apart lt) (length_taken ns i lt) h)))

-- ---- lists of any

pub none_so : {X : Type 0} (o : Option X) {P : Type 0} → P → IfNone o P
none_so None p = p
none_so (Some x) p = tt

pub all_at : {X : Type 0} (P : X → Type 0) (xs : List X) (i : ℕ) (x : X) → AllByRecursion P xs → i < length xs → x ≡ get_or xs i x → P x
all_at P [] i x h lt e = absurd (omega (arith, lt))
all_at P (y ∷ xs) zero x h lt e = subst P (sym e) h.0
all_at P (y ∷ xs) (suc i) x h lt e = all_at P xs i x h.1 (omega (arith, lt)) e

pub all_more : {X : Type 0} (P : X → Type 0) (xs : List X) (x : X) → AllByRecursion P xs → P x → AllByRecursion P (xs ++ x ∷ [])
all_more P [] x h p = (p, tt)
all_more P (y ∷ xs) x h p = (h.0, all_more P xs x h.1 p)

pub all_set : {X : Type 0} (P : X → Type 0) (xs : List X) (i : ℕ) (x : X) → AllByRecursion P xs → P x → AllByRecursion P (set xs i x)
all_set P [] i x h p = tt
all_set P (y ∷ xs) zero x h p = (p, h.1)
all_set P (y ∷ xs) (suc i) x h p = (h.0, all_set P xs i x h.1 p)

module _ {F : Type 0} (account : F → ℕ) (accepted : F → Accepted) where
  abbrev pub entry : F → ℕ × Accepted
  entry a = (account a, accepted a)

  -- ---- an account at its place

  pub within : (list : List F) (q i : ℕ) → place_of q (map account list) ≡ Some i → i < length list
  within [] q i e = absurd (cc)
  within (x ∷ list) q i e = by (same_number q (account x)) e (within list q)
    where
      by : (b : Bool) → cond b (Some 0) (option_map suc (place_of q (map account list))) ≡ Some i → ((j : ℕ) → place_of q (map account list) ≡ Some j → j < length list) → i < length (x ∷ list)
      by true f more = let none : i ≡ 0 = ap (λ o. unwrap_or o 0) (sym f) in omega (arith, none)
      by false f more = let s = some_suc (place_of q (map account list)) i f in let below = more s.0 s.1 in let is = s.2 in omega (arith, below, is)

  found : (list : List F) (q i : ℕ) (a : F) → place_of q (map account list) ≡ Some i → a ≡ get_or list i a → (account a ≡ q) × (find nat_cmp q (map entry list) ≡ Some (accepted a))
  found [] q i a e is = absurd (cc)
  found (x ∷ list) q i a e is = by (same_number q (account x)) refl e (found list q)
    where
      by : (b : Bool) → same_number q (account x) ≡ b → cond b (Some 0) (option_map suc (place_of q (map account list))) ≡ Some i
          → ((j : ℕ) (a : F) → place_of q (map account list) ≡ Some j → a ≡ get_or list j a → (account a ≡ q) × (find nat_cmp q (map entry list) ≡ Some (accepted a)))
          → (account a ≡ q) × (cond b (Some (accepted x)) (find nat_cmp q (map entry list)) ≡ Some (accepted a))
      by true here f more =
          let first : i ≡ 0 = ap (λ o. unwrap_or o 0) (sym f) in
          let same : a ≡ x = is ∙ ap (λ k. get_or (x ∷ list) k a) first in
          (ap account same ∙ sym (one_number q (account x) here), ap (λ y. Some (accepted y)) (sym same))
      by false off f more = let s = some_suc (place_of q (map account list)) i f in more s.0 a s.1 (is ∙ ap (λ k. get_or (x ∷ list) k a) s.2)

  pub get_found : (list : List F) (q i : ℕ) (a : F) → place_of q (map account list) ≡ Some i → a ≡ get_or list i a → (account a ≡ q) × (finite.get (state_of account accepted list) q ≡ Some (accepted a))
  unfolding state_of
  get_found list q i a e is = let it = found list q i a e is in (it.0, get-from_entries nat_cmp_total (map entry list) q ∙ it.1)

  -- ---- where there is none

  both_none : (list : List F) (q : ℕ) → is_some (find nat_cmp q (map entry list)) ≡ is_some (place_of q (map account list))
  both_none [] q = refl
  both_none (x ∷ list) q = by (same_number q (account x)) (both_none list q)
    where
      more : (o : Option ℕ) → is_some (option_map suc o) ≡ is_some o
      more (Some i) = refl
      more None = refl

      by : (b : Bool) → is_some (find nat_cmp q (map entry list)) ≡ is_some (place_of q (map account list))
          → is_some (cond b (Some (accepted x)) (find nat_cmp q (map entry list))) ≡ is_some (cond b (Some 0) (option_map suc (place_of q (map account list))))
      by true e = refl
      by false e = e ∙ sym (more (place_of q (map account list)))

  is_none : {X Y : Type 0} (o : Option X) (p : Option Y) → is_some o ≡ is_some p → p ≡ None → o ≡ None
  is_none None p e none = refl
  is_none (Some x) p e none = let no = e ∙ ap is_some none in absurd (cc)

  find_none : (list : List F) (q : ℕ) → place_of q (map account list) ≡ None → find nat_cmp q (map entry list) ≡ None
  find_none list q none = is_none (find nat_cmp q (map entry list)) (place_of q (map account list)) (both_none list q) none

  pub get_none : (list : List F) (q : ℕ) → place_of q (map account list) ≡ None → finite.get (state_of account accepted list) q ≡ None
  unfolding state_of
  get_none list q none = get-from_entries nat_cmp_total (map entry list) q ∙ find_none list q none

  pub place_none : (list : List F) (q : ℕ) → finite.get (state_of account accepted list) q ≡ None → place_of q (map account list) ≡ None
  unfolding state_of
  place_none list q none = is_none (place_of q (map account list)) (find nat_cmp q (map entry list)) (sym (both_none list q)) (sym (get-from_entries nat_cmp_total (map entry list) q) ∙ none)

  -- ---- one more

  pub state_pushed : (list : List F) (w : F) → place_of (account w) (map account list) ≡ None → state_of account accepted (list ++ w ∷ []) ≡ finite.insert (state_of account accepted list) (account w) (accepted w)
  unfolding state_of
  state_pushed list w none =
      ap finite.from_entries (map-append entry list (w ∷ []))
      ∙ from_entries_push nat_cmp_total nat_cmp-IsAntisymmetric (map entry list) (account w) (accepted w) (find_none list (account w) none)

  -- ---- another in its place

  pub numbers_set : (list : List F) (i : ℕ) (a w : F) → a ≡ get_or list i a → account w ≡ account a → map account (set list i w) ≡ map account list
  numbers_set list i a w is same = map-set_same account list i w a (same ∙ ap account is)

  find_set : (list : List F) (q i : ℕ) (w : F) → place_of q (map account list) ≡ Some i → account w ≡ q → (p : ℕ) → find nat_cmp p (map entry (set list i w)) ≡ cond (same_number p q) (Some (accepted w)) (find nat_cmp p (map entry list))
  find_set [] q i w e same p = absurd (cc)
  find_set (x ∷ list) q i w e same p = by (same_number q (account x)) refl e (find_set list q)
    where
      by : (b : Bool) → same_number q (account x) ≡ b → cond b (Some 0) (option_map suc (place_of q (map account list))) ≡ Some i
          → ((j : ℕ) (w : F) → place_of q (map account list) ≡ Some j → account w ≡ q → (p : ℕ) → find nat_cmp p (map entry (set list j w)) ≡ cond (same_number p q) (Some (accepted w)) (find nat_cmp p (map entry list)))
          → find nat_cmp p (map entry (set (x ∷ list) i w)) ≡ cond (same_number p q) (Some (accepted w)) (cond (same_number p (account x)) (Some (accepted x)) (find nat_cmp p (map entry list)))
      by true here f more =
          let first : i ≡ 0 = ap (λ o. unwrap_or o 0) (sym f) in
          ap (λ k. find nat_cmp p (map entry (set (x ∷ list) k w))) first
          ∙ ap (λ n. cond (same_number p n) (Some (accepted w)) (find nat_cmp p (map entry list))) same
          ∙ twice (same_number p q) (Some (accepted w)) (Some (accepted x)) (find nat_cmp p (map entry list))
          ∙ ap (λ n. cond (same_number p q) (Some (accepted w)) (cond (same_number p n) (Some (accepted x)) (find nat_cmp p (map entry list)))) (one_number q (account x) here)
      by false off f more =
          let s = some_suc (place_of q (map account list)) i f in
          ap (λ k. find nat_cmp p (map entry (set (x ∷ list) k w))) s.2
          ∙ ap (cond (same_number p (account x)) (Some (accepted x))) (more s.0 w s.1 same p)
          ∙ turned (same_number p (account x)) (same_number p q) (Some (accepted x)) (Some (accepted w)) (find nat_cmp p (map entry list)) (apart_so q (account x) p off)

  pub state_set : (list : List F) (q i : ℕ) (w : F) → place_of q (map account list) ≡ Some i → account w ≡ q → state_of account accepted (set list i w) ≡ finite.insert (state_of account accepted list) q (accepted w)
  unfolding state_of
  state_set list q i w e same = same_map nat_cmp_total nat_cmp-IsAntisymmetric _ _ (λ p.
      get-from_entries nat_cmp_total (map entry (set list i w)) p ∙ find_set list q i w e same p
      ∙ sym (get-insert nat_cmp_total (finite.from_entries (map entry list)) q (accepted w) p ∙ ap (cond (same_number p q) (Some (accepted w))) (get-from_entries nat_cmp_total (map entry list) p)))

  -- what is put again as it stood
  pub state_kept : (list : List F) (q i : ℕ) (a w : F) → place_of q (map account list) ≡ Some i → a ≡ get_or list i a → account w ≡ q → accepted w ≡ accepted a → state_of account accepted (set list i w) ≡ state_of account accepted list
  state_kept list q i a w e is same alike = same_map nat_cmp_total nat_cmp-IsAntisymmetric _ _ (λ p. ap (λ s. finite.get s p) (state_set list q i w e same) ∙ get-insert nat_cmp_total (state_of account accepted list) q (accepted w) p ∙ by p (same_number p q) refl)
    where
      by : (p : ℕ) (b : Bool) → same_number p q ≡ b → cond b (Some (accepted w)) (finite.get (state_of account accepted list) p) ≡ finite.get (state_of account accepted list) p
      by p true here = ap Some alike ∙ sym ((get_found list q i a e is).1) ∙ ap (finite.get (state_of account accepted list)) (sym (one_number p q here))
      by p false off = refl

  -- ---- all in ascending order of their numbers

  pub alike : (list : List F) (q : ℕ) → is_some (finite.get (state_of account accepted list) q) ≡ is_some (place_of q (map account list))
  unfolding state_of
  alike list q = ap is_some (get-from_entries nat_cmp_total (map entry list) q) ∙ both_none list q

  get_if_there : (list : List F) (q : ℕ) → cond (is_some (place_of q (map account list))) (Some (accepted_of (state_of account accepted list) q)) None ≡ finite.get (state_of account accepted list) q
  get_if_there list q = ap (λ b. cond b (Some (accepted_of (state_of account accepted list) q)) None) (sym (alike list q)) ∙ by (finite.get (state_of account accepted list) q)
    where
      by : (o : Option Accepted) → cond (is_some o) (Some (unwrap_or o nothing)) None ≡ o
      by None = refl
      by (Some x) = refl

  pub entries_by_number : (list : List F) (places : List (ℕ × ℕ)) (numbers : List ℕ) → ArePlaces places (map account list) → AreNumbersOf places numbers
      → finite.entries (state_of account accepted list) ≡ map (λ n. (n, accepted_of (state_of account accepted list) n)) numbers
  entries_by_number list places numbers are of_all =
      let state = state_of account accepted list in
      let all = map (with_accepted (accepted_of state)) numbers in
      let rising = sorted_rises (accepted_of state) numbers of_all.ascend in
      ap finite.entries (same_map nat_cmp_total nat_cmp-IsAntisymmetric state (finite.from_sorted all) (λ q. sym (
      get-from_sorted nat_cmp all q rising ∙ find_each (accepted_of state) numbers q
      ∙ ap (λ b. cond b (Some (accepted_of state q)) None) (sym (of_all.same q) ∙ ap is_some (are q)) ∙ get_if_there list q)))
      ∙ entries-from_sorted nat_cmp all rising

  -- ---- as the functions ask for it

  pub placed : (list : List F) (ps : List (ℕ × ℕ)) (q i : ℕ) → ArePlaces ps (map account list) → Some i ≡ lookup (nat_eq q) ps → place_of q (map account list) ≡ Some i
  placed list ps q i are is = sym (are q) ∙ sym is

  pub missing : (list : List F) (ps : List (ℕ × ℕ)) (q : ℕ) (now : State) → state_of account accepted list ≡ now → ArePlaces ps (map account list) → None ≡ lookup (nat_eq q) ps → finite.get now q ≡ None
  missing list ps q now v are none = ap (λ s. finite.get s q) (sym v) ∙ get_none list q (sym (are q) ∙ sym none)

  -- the account at a number's place is that number's, and what it has accepted is kept there
  pub held : (list : List F) (ps : List (ℕ × ℕ)) (q i : ℕ) (now : State) (a : F) → state_of account accepted list ≡ now → ArePlaces ps (map account list) → Some i ≡ lookup (nat_eq q) ps
      → a ≡ get_or list i a → (account a ≡ q) × (finite.get now q ≡ Some (accepted a))
  held list ps q i now a v are is at =
      let it = get_found list q i a (placed list ps q i are is) at in
      (it.0, ap (λ s. finite.get s q) (sym v) ∙ it.1)

  pub is_held : (list : List F) (ps : List (ℕ × ℕ)) (q i : ℕ) (now : State) (a : F) → state_of account accepted list ≡ now → ArePlaces ps (map account list) → Some i ≡ lookup (nat_eq q) ps
      → a ≡ get_or list i a → accepted a ≡ accepted_of now q
  is_held list ps q i now a v are is at = sym (ap (λ o. unwrap_or o nothing) ((held list ps q i now a v are is at).1))

  pub inside : (list : List F) (ps : List (ℕ × ℕ)) (q i : ℕ) → ArePlaces ps (map account list) → Some i ≡ lookup (nat_eq q) ps → i < length list
  inside list ps q i are is = within list q i (placed list ps q i are is)

  -- an account was given something
  pub kept_at : (new : Bool) (list : List F) (ps : List (ℕ × ℕ)) (q i : ℕ) (now : State) (a w : F) (after : Accepted → Accepted) → state_of account accepted list ≡ now → ArePlaces ps (map account list)
      → Some i ≡ lookup (nat_eq q) ps → a ≡ get_or list i a → account w ≡ account a → accepted w ≡ after (accepted a) → (new ≡ false → after (accepted a) ≡ accepted a)
      → state_of account accepted (set list i w) ≡ kept new now q (after (accepted_of now q))
  kept_at true list ps q i now a w after v are is at own gives same =
      state_set list q i w (placed list ps q i are is) (own ∙ (held list ps q i now a v are is at).0)
      ∙ (λ j. finite.insert (v j) q ((gives ∙ ap after (is_held list ps q i now a v are is at)) j))
  kept_at false list ps q i now a w after v are is at own gives same =
      state_kept list q i a w (placed list ps q i are is) at (own ∙ (held list ps q i now a v are is at).0) (gives ∙ same refl) ∙ v

  pub places_kept : (list : List F) (ps : List (ℕ × ℕ)) (i : ℕ) (a w : F) → ArePlaces ps (map account list) → a ≡ get_or list i a → account w ≡ account a → ArePlaces ps (map account (set list i w))
  places_kept list ps i a w are at own = subst (ArePlaces ps) (sym (numbers_set list i a w at own)) are

  -- a new account is kept at its number
  pub opened : (list : List F) (ps written : List (ℕ × ℕ)) (k n : ℕ) (now : State) (w : F) → state_of account accepted list ≡ now → ArePlaces ps (map account list) → finite.get now (account w) ≡ None → k ≡ account w → n ≡ length list
      → ((q : ℕ) → lookup (nat_eq q) written ≡ cond (nat_eq k q) (Some n) (lookup (nat_eq q) ps)) → ArePlaces written (map account (list ++ w ∷ []))
  opened list ps written k n now w v are none is size h =
      let absent = place_none list (account w) (ap (λ s. finite.get s (account w)) v ∙ none) in
      subst (ArePlaces written) (ap (λ m. map account list ++ m ∷ []) is ∙ sym (map-append account list (w ∷ [])))
      (places_more ps written (map account list) k n are (ap (λ m. place_of m (map account list)) is ∙ absent) (size ∙ sym (length-map list account)) h)

  pub opens : (list : List F) (now : State) (w : F) → state_of account accepted list ≡ now → finite.get now (account w) ≡ None → state_of account accepted (list ++ w ∷ []) ≡ finite.insert now (account w) (accepted w)
  opens list now w v none =
      state_pushed list w (place_none list (account w) (ap (λ s. finite.get s (account w)) v ∙ none)) ∙ ap (λ s. finite.insert s (account w) (accepted w)) v

-- what is inside a list is found there
pub found_inside : {X : Type 0} (o : Option X) (i n : ℕ) (P : Type 0) → is_some o ≡ nat_lt i n → i < n → IfNone o P
found_inside None i n P e lt = let some = e ∙ lt-ltb i n lt in absurd (cc)
found_inside (Some x) i n P e lt = tt

pub number_at : {F : Type 0} (account : F → ℕ) (list : List F) (i : ℕ) (a : F) → i < length list → a ≡ get_or list i a → account a ≡ get_or (map account list) i 0
number_at account [] i a lt e = absurd (omega (arith, lt))
number_at account (x ∷ list) zero a lt e = ap account e
number_at account (x ∷ list) (suc i) a lt e = number_at account list i a (omega (arith, lt)) e

-- of an account that is not there
pub nothing_there : (now : State) (account : ℕ) → finite.get now account ≡ None → nothing ≡ accepted_of now account
nothing_there now account none = ap (λ o. unwrap_or o nothing) (sym none)

pub kept_new : (new : Bool) (now : State) (n : ℕ) (x after : Accepted) → new ≡ true → x ≡ after → finite.insert now n x ≡ kept new now n after
kept_new new now n x after is same = ap (finite.insert now n) same ∙ ap (λ b. kept b now n after) (sym is)
