-- Numbers in ascending order, each once, and lists of the same numbers.
use Rattle.std.proofs.Common.{◌≡◌, ◌≤◌, ◌<◌, ◌+◌, ◌-◌, ◌<ℤ◌, ◌≤ℤ◌, ℕ, zero, suc, ℤ, Bool, true, false, ◌||◌, cond, Less, Equal, take, get_or, List, [], ◌∷◌, ◌++◌, length, Some, None, IsPermutation, refl, sym, ap, subst, ◌∙◌, arith}
use Rattle.std.specs.List.{AllByRecursion, Contains, list_any}
use Rattle.std.specs.List.Sorted.{IsSorted}
use Rattle.std.specs.Ordering.{int_cmp, int_eq, ordering_index}
use Rattle.std.specs.Cmp.{signed_Decides}
use Rattle.std.proofs.lemmas.Cmp.{int_cmp_total, tied_itself}
use Rattle.std.proofs.lemmas.Int.{ints, by_lt_z}
use Rattle.std.proofs.lemmas.List.Elements.{All-get_or, All-from_recursion, recursion_from_All, Contains-get_or, All-contains}
use Rattle.std.proofs.lemmas.List.Sorted.{searchable_from_sorted, list_any-IsPermutation}
use Rattle.sqlite_keyed.proofs.ListLemmas.{all_weaker}
use Rattle.sqlite_keyed.proofs.KeyedLemmas.{Less-from_lt}
use Rattle.pay_ledger.specs.Stretched.{Ascend, HaveSame, distinct_after}

-- ---- in order

-- numbers that do not fall
abbrev Rise : List ℤ → Type 0
Rise [] = Unit {0}
Rise (n ∷ more) = AllByRecursion (λ later. n ≤ℤ later) more × Rise more

abbrev RiseFar : List ℤ → Type 0
RiseFar list = (i j : ℕ) (d : ℤ) → i ≤ j → j < length list → get_or list i d ≤ℤ get_or list j d

sorted_far : (list : List ℤ) → IsSorted int_cmp list → RiseFar list
sorted_far list up i j d before below =
    let q = get_or list i d in
    let rises : ordering_index (int_cmp (get_or list i d) q) ≤ ordering_index (int_cmp (get_or list j d) q) = searchable_from_sorted int_cmp_total (λ n. n) list q up i j d before below in
    by_lt_z (get_or list j d) q
    (λ less. absurd
    (let low : int_cmp (get_or list j d) q ≡ Less = Less-from_lt (get_or list j d) q less in
    let its : int_cmp q q ≡ Equal = tied_itself int_cmp_total q in
    let fell : 1 ≤ 0 = subst (λ r. 1 ≤ ordering_index r) low (subst (λ r. ordering_index r ≤ ordering_index (int_cmp (get_or list j d) q)) its rises) in
    omega (arith, fell)))
    (λ le. le)

rise : (list : List ℤ) → RiseFar list → Rise list
rise [] far = tt
rise (n ∷ more) far = (
  recursion_from_All (λ later. n ≤ℤ later) more (λ j d here. far zero (suc j) d (omega arith) (omega (arith, here))),
  rise more (λ i j d before below. far (suc i) (suc j) d (omega (arith, before)) (omega (arith, below))),
)

above : (last n : ℤ) → last ≤ℤ n → int_eq last n ≡ false → last <ℤ n
above last n le other = grind (arith, ints)

after_ascends : (last : ℤ) (list : List ℤ) → AllByRecursion (λ n. last ≤ℤ n) list → Rise list → AllByRecursion (λ n. last <ℤ n) (distinct_after (Some last) list) × Ascend (distinct_after (Some last) list)
after_ascends last [] low up = (tt, tt)
after_ascends last (n ∷ more) low up = go (int_eq last n) refl (after_ascends last more low.1 up.1) (after_ascends n more up.0 up.1)
  where
    go : (b : Bool) → int_eq last n ≡ b → AllByRecursion (λ m. last <ℤ m) (distinct_after (Some last) more) × Ascend (distinct_after (Some last) more) → AllByRecursion (λ m. n <ℤ m) (distinct_after (Some n) more) × Ascend (distinct_after (Some n) more)
        → AllByRecursion (λ m. last <ℤ m) (cond b (distinct_after (Some last) more) (n ∷ distinct_after (Some n) more)) × Ascend (cond b (distinct_after (Some last) more) (n ∷ distinct_after (Some n) more))
    go true e same new = same
    go false e same new =
        let less : last <ℤ n = above last n low.0 e in
        ((less, all_weaker (λ m. n <ℤ m) (λ m. last <ℤ m) (λ m later. omega (arith, ints)) (distinct_after (Some n) more) new.0), new)

distinct_ascends : (list : List ℤ) → IsSorted int_cmp list → Ascend (distinct_after None list)
distinct_ascends [] up = tt
distinct_ascends (n ∷ more) up = let rises = rise (n ∷ more) (sorted_far (n ∷ more) up) in after_ascends n more rises.0 rises.1

pub ascend_far : (list : List ℤ) → Ascend list → RiseFar list
ascend_far [] up i j d before below = absurd (omega (arith, below))
ascend_far (n ∷ more) up zero zero d before below = omega (arith, ints)
ascend_far (n ∷ more) up zero (suc j) d before below = let later : n <ℤ get_or more j d = All-get_or (λ m. n <ℤ m) more j d (omega (arith, below)) (All-from_recursion (λ m. n <ℤ m) more up.0) in omega (arith, ints)
ascend_far (n ∷ more) up (suc i) zero d before below = absurd (omega (arith, before))
ascend_far (n ∷ more) up (suc i) (suc j) d before below = ascend_far more up.1 i j d (omega (arith, before)) (omega (arith, below))

ascend_first : (xs ys : List ℤ) → Ascend (xs ++ ys) → Ascend xs
ascend_first [] ys up = tt
ascend_first (n ∷ xs) ys up = (first xs up.0, ascend_first xs ys up.1)
  where
    first : (xs : List ℤ) → AllByRecursion (λ m. n <ℤ m) (xs ++ ys) → AllByRecursion (λ m. n <ℤ m) xs
    first [] all = tt
    first (x ∷ xs) all = (all.0, first xs all.1)

ascend_second : (xs ys : List ℤ) → Ascend (xs ++ ys) → Ascend ys
ascend_second [] ys up = up
ascend_second (n ∷ xs) ys up = ascend_second xs ys up.1

-- and so do those of a part
pub ascend_part : (done some rest numbers : List ℤ) → done ++ (some ++ rest) ≡ numbers → Ascend numbers → Ascend some
ascend_part done some rest numbers are up = ascend_first some rest (ascend_second done (some ++ rest) (subst Ascend (sym are) up))

-- all that are smaller than a number stand before it
pub smaller : (P : ℤ → Type 0) (list : List ℤ) (q : ℤ) (k : ℕ) → Ascend list → k < length list → get_or list k q ≡ q → AllByRecursion P (take k list) → AllByRecursion (λ n. n <ℤ q → P n) list
smaller P [] q k up below is all = tt
smaller P (n ∷ more) q zero up below is all = (
  λ less. absurd (omega (arith, ints, is, less)),
  all_weaker (λ m. n <ℤ m) (λ m. m <ℤ q → P m) (λ m later less. absurd (omega (arith, ints, is, later, less))) more up.0,
)
smaller P (n ∷ more) q (suc k) up below is all = (λ less. all.0, smaller P more q k up.1 (omega (arith, below)) is all.1)

-- ---- the same numbers

turned : (a b c : Bool) → (b || a) ≡ (c || a) → (a || b) ≡ (a || c)
turned true b c h = refl
turned false true true h = refl
turned false true false h = h
turned false false true h = h
turned false false false h = refl

again : (a b : Bool) → (b || a) ≡ ((a || b) || a)
again true true = refl
again true false = refl
again false true = refl
again false false = refl

after_same : (p : ℤ → Bool) (last : ℤ) (list : List ℤ) → (list_any p (distinct_after (Some last) list) || p last) ≡ (list_any p list || p last)
after_same p last [] = refl
after_same p last (n ∷ more) = go (int_eq last n) refl (after_same p last more) (after_same p n more)
  where
    go : (b : Bool) → int_eq last n ≡ b → (list_any p (distinct_after (Some last) more) || p last) ≡ (list_any p more || p last) → (list_any p (distinct_after (Some n) more) || p n) ≡ (list_any p more || p n)
        → (list_any p (cond b (distinct_after (Some last) more) (n ∷ distinct_after (Some n) more)) || p last) ≡ ((p n || list_any p more) || p last)
    go true e same new = same ∙ again (p last) (list_any p more) ∙ ap (λ m. (p m || list_any p more) || p last) ((signed_Decides last n).0 e)
    go false e same new = ap (λ b. b || p last) (turned (p n) (list_any p (distinct_after (Some n) more)) (list_any p more) new)

distinct_same : (list : List ℤ) → HaveSame list (distinct_after None list)
distinct_same [] = λ number. refl
distinct_same (n ∷ more) = λ number. let p : ℤ → Bool = λ m. int_eq m number in turned (p n) (list_any p more) (list_any p (distinct_after (Some n) more)) (sym (after_same p n more))

-- numbers that were put in order, and of which each was kept once
pub once_same : (all sorted held list : List ℤ) → IsPermutation all sorted → held ≡ sorted → list ≡ distinct_after None held → HaveSame all list
once_same all sorted held list moved are kept =
    let once : HaveSame all (distinct_after None sorted) = λ number. list_any-IsPermutation (λ n. int_eq n number) all sorted moved ∙ distinct_same sorted number in
    subst (HaveSame all) (sym (kept ∙ ap (distinct_after None) are)) once

pub once_ascends : (sorted held list : List ℤ) → IsSorted int_cmp sorted → held ≡ sorted → list ≡ distinct_after None held → Ascend list
once_ascends sorted held list up are kept = subst Ascend (sym (kept ∙ ap (distinct_after None) are)) (distinct_ascends sorted up)

-- ---- what is so of them

or_right : (a b : Bool) → b ≡ true → (a || b) ≡ true
or_right true b e = refl
or_right false b e = e

or_left : (a b : Bool) → a ≡ true → (a || b) ≡ true
or_left true b e = refl
or_left false b e = absurd (cc)

of_each : (P : ℤ → Type 0) (list : List ℤ) (number : ℤ) → AllByRecursion P list → list_any (λ n. int_eq n number) list ≡ true → P number
of_each P [] number all there = absurd (cc)
of_each P (n ∷ more) number all there = go (int_eq n number) refl there (of_each P more number all.1)
  where
    go : (b : Bool) → int_eq n number ≡ b → (b || list_any (λ n. int_eq n number) more) ≡ true → (list_any (λ n. int_eq n number) more ≡ true → P number) → P number
    go true e there rest = subst P ((signed_Decides n number).0 e) all.0
    go false e there rest = rest there

each_of : (P : ℤ → Type 0) (list : List ℤ) → ((number : ℤ) → list_any (λ n. int_eq n number) list ≡ true → P number) → AllByRecursion P list
each_of P [] h = tt
each_of P (n ∷ more) h = (
  h n (or_left (int_eq n n) (list_any (λ m. int_eq m n) more) ((signed_Decides n n).1 refl)),
  each_of P more (λ number there. h number (or_right (int_eq n number) (list_any (λ m. int_eq m number) more) there)),
)

-- what is so of all numbers of a list is so of those of one that has the same
pub all_alike : (P : ℤ → Type 0) (some others : List ℤ) → HaveSame some others → AllByRecursion P others → AllByRecursion P some
all_alike P some others same all = each_of P some (λ number there. of_each P others number all (sym (same number) ∙ there))

pub contains_alike : (some others : List ℤ) (number : ℤ) → HaveSame some others → Contains others number → Contains some number
contains_alike some others number same there =
    let each : AllByRecursion (Contains some) some = recursion_from_All (Contains some) some (λ k d here. Contains-get_or some k d here) in
    All-contains (Contains some) others number (All-from_recursion (Contains some) others (all_alike (Contains some) others some (λ n. sym (same n)) each)) there
