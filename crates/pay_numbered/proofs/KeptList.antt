-- A list by ascending numbers, as the set that it makes.
use Rattle.std.proofs.Common.{◌≡◌, ℕ, zero, suc, ◌+◌, ◌<◌, ◌≤◌, Bool, true, false, cond, not, ◌&&◌, T, List, [], ◌∷◌, length, map, filter, get_or, Option, Some, None, Ok, Err, Ordering, Less, Equal, Greater, is_eq, is_lt, refl, sym, ap, ◌∙◌, subst, arith}
use Rattle.std.specs.Ordering.{eq_by_cmp, ordering_reverse, ordering_index}
use Rattle.std.proofs.lemmas.Cmp.{eq_by_cmp_equiv}
use Rattle.std.specs.List.{insert, remove}
use Rattle.std.specs.List.Sorted.{IsBinarySearchResult, IsNonDecreasingBy, IsPartitionPoint}
use Rattle.std.specs.FinMap as map
use Rattle.std.specs.FinMap.{values, len, find, put, is_sorted, entries, entries_sorted, same_entries_map, same_map, get-from_entries, get-insert, get-remove, len-entries}
use Rattle.std.specs.FinMap.Entries.{below_all, by_order, is_sorted-put, is_sorted-where_key, find-put, find-where_key}
use Rattle.std.proofs.lemmas.List.{length-map}
use Rattle.std.proofs.lemmas.List.Edits.{length-insert}
use Rattle.std.proofs.lemmas.List.Sorted.{searchable_from_sorted}
use Rattle.pay_numbered.specs.Sound.{numbered, set_of, IsSound, IsPlace}
use Rattle.pay_rules.specs.declared.addition.Addition.TheVariants.{Added}
use Rattle.pay_rules.specs.Numbers.{ByNumber, IsNumbered, number_cmp, judged}
use Rattle.pay_rules.specs.NumberOrder.{number_total, exact_numbers, entries_made, length_values, one_more}

turned : (a b : ℕ × ℕ) (r : Ordering) → number_cmp a b ≡ r → number_cmp b a ≡ ordering_reverse r
turned a b r e = number_total.antisymm b a ∙ ap ordering_reverse e

first : (a b : Bool) → T (a && b) → T a
first true b p = tt
first false b p = p

second : (a b : Bool) → T (a && b) → T b
second true b p = p
second false b p = absurd p

less : (r : Ordering) → T (is_lt r) → r ≡ Less
less Less p = refl
less Equal p = absurd p
less Greater p = absurd p

swapped_not : {A : Type 0} (b : Bool) (o : Option A) → cond (not b) o None ≡ cond b None o
swapped_not true o = refl
swapped_not false o = refl

module _ {X : Type 0} (number : X → ℕ × ℕ) where
  -- ---- the set of a list

  numbered_values : (list : List X) → map (λ (e : (ℕ × ℕ) × X). e.1) (numbered number list) ≡ list
  numbered_values [] = refl
  numbered_values (t ∷ list) = ap (λ (l : List X). t ∷ l) (numbered_values list)

  numbered_own : (list : List X) → map number (map (λ (e : (ℕ × ℕ) × X). e.1) (numbered number list)) ≡ map (λ (e : (ℕ × ℕ) × X). e.0) (numbered number list)
  numbered_own [] = refl
  numbered_own (t ∷ list) = ap (λ (l : List (ℕ × ℕ)). number t ∷ l) (numbered_own list)

  -- ---- the position of a number

  below_at : (k : ℕ × ℕ) (list : List X) (i : ℕ) (d : X) → T (below_all number_cmp k (numbered number list)) → i < length list → number_cmp k (number (get_or list i d)) ≡ Less
  below_at k [] i d h lt = absurd (omega (arith, lt))
  below_at k (x ∷ list) zero d h lt = less _ (first _ _ h)
  below_at k (x ∷ list) (suc i) d h lt = below_at k list i d (second _ _ h) (omega (arith, lt))

  rising : (list : List X) (k : ℕ) (d : X) → T (is_sorted number_cmp (numbered number list)) → suc k < length list → is_lt (number_cmp (number (get_or list (suc k) d)) (number (get_or list k d))) ≡ false
  rising [] k d h lt = absurd (omega (arith, lt))
  rising (x ∷ list) zero d h lt = ap is_lt (turned (number x) (number (get_or list 0 d)) Less (below_at (number x) list 0 d (first _ _ h) (omega (arith, lt))))
  rising (x ∷ list) (suc k) d h lt = rising list k d (second _ _ h) (omega (arith, lt))

  -- along the list the orderings of a search rise
  pub searchable : (list : List X) (q : ℕ × ℕ) → T (is_sorted number_cmp (numbered number list)) → IsNonDecreasingBy (λ (t : X). ordering_index (number_cmp (number t) q)) list
  searchable list q h =
      searchable_from_sorted number_total number list q (λ k d low lt.
      let next : suc k ≡ k + 1 = omega arith in
      subst (λ n. is_lt (number_cmp (number (get_or list n d)) (number (get_or list k d))) ≡ false) next (rising list k d h (omega (arith, lt))))

  -- a position between those of lower numbers and those of higher ones
  abbrev IsBetween : List X → ℕ × ℕ → ℕ → Type 0
  IsBetween list q i = IsPartitionPoint (λ (t : X). number_cmp (number t) q ≡ Less) (λ (t : X). number_cmp (number t) q ≡ Greater) list i

  later : (x : X) (list : List X) (q : ℕ × ℕ) (i : ℕ) → IsBetween (x ∷ list) q (suc i) → IsBetween list q i
  later x list q i p = (λ k d low lt. p.0 (suc k) d (omega arith) (omega (arith, lt)), λ k d low lt. p.1 (suc k) d (omega (arith, low)) (omega (arith, lt)))

  later_from_0 : (x : X) (list : List X) (q : ℕ × ℕ) → IsBetween (x ∷ list) q 0 → IsBetween list q 0
  later_from_0 x list q p = (λ k d low lt. absurd (omega (arith, lt)), λ k d low lt. p.1 (suc k) d (omega arith) (omega (arith, lt)))

  missing : (list : List X) (q : ℕ × ℕ) (i : ℕ) → IsBetween list q i → find number_cmp q (numbered number list) ≡ None
  missing [] q i p = refl
  missing (x ∷ list) q zero p =
      ap (λ r. cond (is_eq r) (Some x) (find number_cmp q (numbered number list))) (turned (number x) q Greater (p.1 0 x (omega arith) (omega arith)))
      ∙ missing list q 0 (later_from_0 x list q p)
  missing (x ∷ list) q (suc i) p =
      ap (λ r. cond (is_eq r) (Some x) (find number_cmp q (numbered number list))) (turned (number x) q Less (p.0 0 x (omega arith) (omega arith)))
      ∙ missing list q i (later x list q i p)

  there : (list : List X) (q : ℕ × ℕ) (i : ℕ) (d : X) → T (is_sorted number_cmp (numbered number list)) → i < length list → number_cmp (number (get_or list i d)) q ≡ Equal
      → find number_cmp q (numbered number list) ≡ Some (get_or list i d)
  there [] q i d h lt e = absurd (omega (arith, lt))
  there (x ∷ list) q zero d h lt e = ap (λ r. cond (is_eq r) (Some x) (find number_cmp q (numbered number list))) (turned (number x) q Equal e)
  there (x ∷ list) q (suc i) d h lt e =
      let lower : number_cmp (number x) (number (get_or list i d)) ≡ Less = below_at (number x) list i d (first _ _ h) (omega (arith, lt)) in
      ap (λ r. cond (is_eq r) (Some x) (find number_cmp q (numbered number list))) (turned (number x) q Less (subst (λ n. number_cmp (number x) n ≡ Less) (exact_numbers _ _ e) lower))
      ∙ there list q i d (second _ _ h) (omega (arith, lt)) e

  put_between : (list : List X) (t : X) (i : ℕ) → IsBetween list (number t) i → put number_cmp (number t) t (numbered number list) ≡ numbered number (insert list i t)
  put_between [] t zero p = refl
  put_between [] t (suc i) p = refl
  put_between (x ∷ list) t zero p =
      ap (λ r. by_order r ((number t, t) ∷ numbered number (x ∷ list)) ((number x, t) ∷ numbered number list) ((number x, x) ∷ put number_cmp (number t) t (numbered number list)))
      (turned (number x) (number t) Greater (p.1 0 x (omega arith) (omega arith)))
  put_between (x ∷ list) t (suc i) p =
      ap (λ r. by_order r ((number t, t) ∷ numbered number (x ∷ list)) ((number x, t) ∷ numbered number list) ((number x, x) ∷ put number_cmp (number t) t (numbered number list)))
      (turned (number x) (number t) Less (p.0 0 x (omega arith) (omega arith)))
      ∙ ap (λ (es : List ((ℕ × ℕ) × X)). (number x, x) ∷ es) (put_between list t i (later x list (number t) i p))

  -- the order of a number that one has and another number
  abbrev pub cmp_with : ℕ × ℕ → X → Ordering
  cmp_with q x = number_cmp (number x) q

  -- ---- the list of a set

  numbered_entries : (es : List ((ℕ × ℕ) × X)) → map number (map (λ (e : (ℕ × ℕ) × X). e.1) es) ≡ map (λ (e : (ℕ × ℕ) × X). e.0) es → numbered number (map (λ (e : (ℕ × ℕ) × X). e.1) es) ≡ es
  numbered_entries [] own = refl
  numbered_entries (e ∷ es) own =
      let here : number e.1 ≡ e.0 = cc in
      let rest = numbered_entries es (cc) in
      λ i. (here i, e.1) ∷ rest i

  -- ---- what is taken out

  abbrev other : ℕ × ℕ → ℕ × ℕ → Bool
  other q k = not (eq_by_cmp number_cmp q k)

  kept_above : (k : ℕ × ℕ) (list : List X) → T (below_all number_cmp k (numbered number list)) → filter (λ (e : (ℕ × ℕ) × X). other k e.0) (numbered number list) ≡ numbered number list
  kept_above k [] h = refl
  kept_above k (x ∷ list) h =
      ap (λ r. cond (not (is_eq r)) ((number x, x) ∷ filter (λ (e : (ℕ × ℕ) × X). other k e.0) (numbered number list)) (filter (λ (e : (ℕ × ℕ) × X). other k e.0) (numbered number list))) (less _ (first _ _ h))
      ∙ ap (λ (es : List ((ℕ × ℕ) × X)). (number x, x) ∷ es) (kept_above k list (second _ _ h))

  without : (list : List X) (i : ℕ) (q : ℕ × ℕ) (d : X) → T (is_sorted number_cmp (numbered number list)) → i < length list → number_cmp (number (get_or list i d)) q ≡ Equal
      → filter (λ (e : (ℕ × ℕ) × X). other q e.0) (numbered number list) ≡ numbered number (remove list i)
  without [] i q d h lt e = absurd (omega (arith, lt))
  without (x ∷ list) zero q d h lt e =
      ap (λ r. cond (not (is_eq r)) ((number x, x) ∷ filter (λ (e : (ℕ × ℕ) × X). other q e.0) (numbered number list)) (filter (λ (e : (ℕ × ℕ) × X). other q e.0) (numbered number list))) (turned (number x) q Equal e)
      ∙ kept_above q list (subst (λ n. T (below_all number_cmp n (numbered number list))) (exact_numbers _ _ e) (first _ _ h))
  without (x ∷ list) (suc i) q d h lt e =
      let lower : number_cmp (number x) (number (get_or list i d)) ≡ Less = below_at (number x) list i d (first _ _ h) (omega (arith, lt)) in
      ap (λ r. cond (not (is_eq r)) ((number x, x) ∷ filter (λ (e : (ℕ × ℕ) × X). other q e.0) (numbered number list)) (filter (λ (e : (ℕ × ℕ) × X). other q e.0) (numbered number list)))
      (turned (number x) q Less (subst (λ n. number_cmp (number x) n ≡ Less) (exact_numbers _ _ e) lower))
      ∙ ap (λ (es : List ((ℕ × ℕ) × X)). (number x, x) ∷ es) (without list i q d (second _ _ h) (omega (arith, lt)) e)

  module _ (most : ℕ) where
    pub set_values : (list : List X) → IsSound number most list → values (set_of number list) ≡ list
    set_values list h = ap (λ (es : List ((ℕ × ℕ) × X)). map (λ (e : (ℕ × ℕ) × X). e.1) es) (entries_made _ h.ascending) ∙ numbered_values list

    pub set_len : (list : List X) → IsSound number most list → len (set_of number list) ≡ length list
    set_len list h = len-entries _ ∙ ap length (entries_made _ h.ascending) ∙ length-map list (λ (t : X). (number t, t))

    pub set_numbered : (list : List X) → IsSound number most list → IsNumbered number most (set_of number list)
    set_numbered list h = record {
      own_numbers = subst (λ (es : List ((ℕ × ℕ) × X)). map number (map (λ (e : (ℕ × ℕ) × X). e.1) es) ≡ map (λ (e : (ℕ × ℕ) × X). e.0) es) (sym (entries_made _ h.ascending)) (numbered_own list);
      within = omega (arith, set_len list h, h.within);
    }

    -- ---- what a search of the kept list finds

    pub found : (list shown : List X) (set : ByNumber X) (q : ℕ × ℕ) (i : ℕ) (x : X) → IsSound number most list → set_of number list ≡ set → shown ≡ list → i < length shown → IsBinarySearchResult (cmp_with q) shown (Ok i) → x ≡ get_or list i x
        → map.get set q ≡ Some x
    found list shown set q i x h kept e lt at is =
        ap (λ m. map.get m q) (sym kept) ∙ get-from_entries number_total (numbered number list) q
        ∙ there list q i x h.ascending (omega (arith, ap length e, lt)) (ap (λ (l : List X). number_cmp (number (get_or l i x)) q) (sym e) ∙ at x)
        ∙ ap Some (sym is)

    pub not_found : (list shown : List X) (set : ByNumber X) (q : ℕ × ℕ) (i : ℕ) → IsSound number most list → set_of number list ≡ set → shown ≡ list → IsBinarySearchResult (cmp_with q) shown (Err i) → map.get set q ≡ None
    not_found list shown set q i h kept e between =
        ap (λ m. map.get m q) (sym kept) ∙ get-from_entries number_total (numbered number list) q
        ∙ missing list q i (subst (λ l. IsBinarySearchResult (cmp_with q) l (Err i)) e between (searchable list q h.ascending))

    -- a set has as many as its list
    pub count_of : (list : List X) (set : ByNumber X) → IsSound number most list → set_of number list ≡ set → len set ≡ length list
    count_of list set h kept = ap len (sym kept) ∙ set_len list h

    -- and is made of just these
    pub listed : (list : List X) (set : ByNumber X) → IsSound number most list → set_of number list ≡ set → list ≡ values set
    listed list set h kept = sym (set_values list h) ∙ ap values kept

    -- ---- one that is put at its position

    put_found : (list shown : List X) (t : X) (i : ℕ) → IsSound number most list → shown ≡ list → IsBinarySearchResult (cmp_with (number t)) shown (Err i) → put number_cmp (number t) t (numbered number list) ≡ numbered number (insert list i t)
    put_found list shown t i h e between = put_between list t i (subst (λ l. IsBinarySearchResult (cmp_with (number t)) l (Err i)) e between (searchable list (number t) h.ascending))

    set_with : (list shown : List X) (t : X) (i : ℕ) → IsSound number most list → shown ≡ list → IsBinarySearchResult (cmp_with (number t)) shown (Err i) → set_of number (insert list i t) ≡ map.insert (set_of number list) (number t) t
    set_with list shown t i h e between = same_map number_total exact_numbers _ _ (λ q.
        get-from_entries number_total (numbered number (insert list i t)) q
        ∙ ap (find number_cmp q) (sym (put_found list shown t i h e between))
        ∙ find-put number_cmp number_total q (number t) t (numbered number list)
        ∙ sym (get-insert number_total (set_of number list) (number t) t q ∙ ap (cond (eq_by_cmp number_cmp q (number t)) (Some t)) (get-from_entries number_total (numbered number list) q)))

    listed_with : (list shown : List X) (t : X) (i : ℕ) → IsSound number most list → shown ≡ list → IsBinarySearchResult (cmp_with (number t)) shown (Err i) → i ≤ length shown → length list < most → IsSound number most (insert list i t)
    listed_with list shown t i h e between le room = record {
      ascending = subst (λ (es : List ((ℕ × ℕ) × X)). T (is_sorted number_cmp es)) (put_found list shown t i h e between) (is_sorted-put number_cmp number_total (number t) t (numbered number list) h.ascending);
      within = omega (arith, length-insert list i t (omega (arith, le, ap length e)), room);
    }

    -- where none has its number, and there is room, the position is the place of a further one
    pub place_of : (same : X → X → Bool) (list shown : List X) (set : ByNumber X) (t : X) (i : ℕ) → IsSound number most list → set_of number list ≡ set → shown ≡ list → i ≤ length shown → IsBinarySearchResult (cmp_with (number t)) shown (Err i)
        → length list < most → judged same number most set t ≡ Ok Added → IsPlace same number most i set t
    place_of same list shown set t i h kept e le between room is_new =
        let count = count_of list set h kept in
        let more = listed_with list shown t i h e between le room in
        record {
          is_new = is_new;
          within = omega (arith, count, ap length e, le);
          grown = ap (λ m. values (map.insert m (number t) t)) (sym kept) ∙ ap values (sym (set_with list shown t i h e between)) ∙ set_values _ more
              ∙ ap (λ l. insert l i t) (sym (set_values list h) ∙ ap values kept);
        }

    listed_values : (set : ByNumber X) → IsNumbered number most set → IsSound number most (values set)
    listed_values set is = record {
      ascending = subst (λ (es : List ((ℕ × ℕ) × X)). T (is_sorted number_cmp es)) (sym (numbered_entries (entries set) is.own_numbers)) (entries_sorted set);
      within = omega (arith, length_values set, is.within);
    }

    set_of_values : (set : ByNumber X) → IsNumbered number most set → set_of number (values set) ≡ set
    set_of_values set is =
        let same : numbered number (values set) ≡ entries set = numbered_entries (entries set) is.own_numbers in
        same_entries_map _ _ (entries_made _ (listed_values set is).ascending ∙ same)

    -- ---- one that is taken out

    shorter : (list : List X) (i : ℕ) → i < length list → length (remove list i) ≤ length list
    shorter [] i lt = absurd (omega (arith, lt))
    shorter (x ∷ list) zero lt = omega arith
    shorter (x ∷ list) (suc i) lt = let rest = shorter list i (omega (arith, lt)) in omega (arith, rest)

    kept_without : (list : List X) (i : ℕ) (q : ℕ × ℕ) (d : X) → IsSound number most list → i < length list → number_cmp (number (get_or list i d)) q ≡ Equal → IsSound number most (remove list i)
    kept_without list i q d h lt e = record {
      ascending = subst (λ (es : List ((ℕ × ℕ) × X)). T (is_sorted number_cmp es)) (without list i q d h.ascending lt e) (is_sorted-where_key number_cmp (other q) (numbered number list) h.ascending);
      within = omega (arith, shorter list i lt, h.within);
    }

    set_without : (list : List X) (i : ℕ) (q : ℕ × ℕ) (d : X) → IsSound number most list → i < length list → number_cmp (number (get_or list i d)) q ≡ Equal → set_of number (remove list i) ≡ map.remove (set_of number list) q
    set_without list i q d h lt e = same_map number_total exact_numbers _ _ (λ n.
        get-from_entries number_total (numbered number (remove list i)) n
        ∙ ap (find number_cmp n) (sym (without list i q d h.ascending lt e))
        ∙ find-where_key number_cmp (other q) n (λ x tied. ap (λ k. other q k) (sym (exact_numbers n x tied))) (numbered number list)
        ∙ swapped_not (eq_by_cmp number_cmp q n) (find number_cmp n (numbered number list))
        ∙ ap (λ b. cond b None (find number_cmp n (numbered number list))) ((eq_by_cmp_equiv number_total).symm q n)
        ∙ sym (get-remove number_total (set_of number list) q n ∙ ap (cond (eq_by_cmp number_cmp n q) None) (get-from_entries number_total (numbered number list) n)))

    -- what a search found is taken out of the set
    pub taken_out : (list shown after : List X) (set : ByNumber X) (q : ℕ × ℕ) (i : ℕ) (x : X) → IsSound number most list → set_of number list ≡ set → shown ≡ list → i < length shown → IsBinarySearchResult (cmp_with q) shown (Ok i) → after ≡ remove list i
        → (set_of number after ≡ map.remove set q) × IsSound number most after
    taken_out list shown after set q i x h kept e lt at is =
        let below : i < length list = omega (arith, ap length e, lt) in
        let equal : number_cmp (number (get_or list i x)) q ≡ Equal = ap (λ (l : List X). number_cmp (number (get_or l i x)) q) (sym e) ∙ at x in
        (ap (set_of number) is ∙ set_without list i q x h below equal ∙ ap (λ m. map.remove m q) kept, subst (IsSound number most) (sym is) (kept_without list i q x h below equal))

    -- one that is put at its place is in the set, and the list is in order
    pub put_in_place : (same : X → X → Bool) (list after : List X) (set : ByNumber X) (t : X) (i : ℕ) → IsSound number most list → set_of number list ≡ set → IsPlace same number most i set t → map.get set (number t) ≡ None → len set < most → after ≡ insert list i t
        → (set_of number after ≡ map.insert set (number t) t) × IsSound number most after
    put_in_place same list after set t i h e place none room put_at =
        let more : IsNumbered number most (map.insert set (number t) t) = one_more number most set t (subst (IsNumbered number most) e (set_numbered list h)) none room in
        let is : values (map.insert set (number t) t) ≡ after = place.grown ∙ ap (λ l. insert l i t) (ap values (sym e) ∙ set_values list h) ∙ sym put_at in
        (ap (set_of number) (sym is) ∙ set_of_values _ more, subst (IsSound number most) is (listed_values _ more))
