-- Some days one after another with their sums, as they lie.
use Rattle.std.proofs.Common.{◌≡◌, ℕ, zero, suc, ◌+◌, ◌-◌, ◌<◌, ◌≤◌, cond, Option, Some, None, List, [], ◌∷◌, ◌++◌, length, take, drop, true, refl, sym, ap, ◌∙◌, subst, arith, length-append}
use Rattle.std.specs.BTreeMap.{is_at}
use Rattle.std.specs.List.{zip, range_with_len, AllByRecursion}
use Rattle.std.specs.Ordering.{nat_cmp}
use mathlib.Core.Logic.{⊎_elim}
use Rattle.std.proofs.lemmas.Bool.{cases_lt}
use Rattle.pay_caps.specs.Words.{CellSums}
use Rattle.pay_book.specs.Days.{Days, stored_on, if_stored, stored_of}
use Rattle.pay_book.specs.InStep.{AreRising, IsPlaceOf}
use Rattle.pay_book.proofs.InStep.{at_itself, not_before, not_after, none_after, all_further}

-- ---- places

pub no_sooner : (first other : ℕ) (days : List ℕ) (from to : ℕ) → first ≤ other → IsPlaceOf first days from → IsPlaceOf other days to → from ≤ to
no_sooner first other [] from to le a b = omega (arith, a)
no_sooner first other (d ∷ days) zero to le a b = omega arith
no_sooner first other (d ∷ days) (suc from) zero le a b = absurd (omega (arith, a.0, b))
no_sooner first other (d ∷ days) (suc from) (suc to) le a b = let rest = no_sooner first other days from to le a.1 b.1 in omega arith

-- ---- lists of nothing

none_of_none : (those : List ℕ) → stored_of [] those ≡ []
none_of_none [] = refl
none_of_none (day ∷ those) = none_of_none those

none_taken : (k m : ℕ) (list : Days) → list ≡ [] → take k (drop m list) ≡ []
none_taken k m (x ∷ list) none = absurd (cc)
none_taken zero zero [] none = refl
none_taken zero (suc m) [] none = refl
none_taken (suc k) zero [] none = refl
none_taken (suc k) (suc m) [] none = refl

-- ---- days after one

skip_head : (d : ℕ) (s : CellSums) (rest : Days) (first n : ℕ) → d < first → stored_of ((d, s) ∷ rest) (range_with_len first n) ≡ stored_of rest (range_with_len first n)
skip_head d s rest first zero lt = refl
skip_head d s rest first (suc n) lt =
    ap (λ (list : Days). if_stored first (stored_on ((d, s) ∷ rest) first) ++ list) (skip_head d s rest (first + 1) n (omega arith))
    ∙ ap (λ b. if_stored first (cond b (Some s) (stored_on rest first)) ++ stored_of rest (range_with_len (first + 1) n)) (not_before first d lt)

-- of days from one on, as far as before another
from_one_on : (n first : ℕ) (days : List ℕ) (sums : List CellSums) (to : ℕ) → length days ≡ length sums → AreRising days → AllByRecursion (λ o. first ≤ o) days → IsPlaceOf (first + n) days to
    → take to (zip days sums) ≡ stored_of (zip days sums) (range_with_len first n)
from_one_on zero first [] sums to long rising all at = ap (λ (k : ℕ). take k (zip [] sums)) at
from_one_on zero first (d ∷ days) sums zero long rising all at = refl
from_one_on zero first (d ∷ days) sums (suc to) long rising all at = absurd (omega (arith, all.0, at.0))
from_one_on (suc n) first [] sums to long rising all at = ap (λ (k : ℕ). take k (zip [] sums)) at ∙ sym (none_of_none (range_with_len first (suc n)))
from_one_on (suc n) first (d ∷ days) [] to long rising all at = absurd (omega arith)
from_one_on (suc n) first (d ∷ days) (s ∷ sums) to long rising all at =
    ⊎_elim
    (λ lt.
    let next = not_after first d lt in
    let here : stored_on (zip (d ∷ days) (s ∷ sums)) first ≡ None = ap (λ b. cond b (Some s) (stored_on (zip days sums) first)) next ∙ none_after first days sums (all_further first d days lt rising.0) in
    let further : AllByRecursion (λ o. first + 1 ≤ o) (d ∷ days) = (omega arith, all_above (first + 1) d days (omega arith) rising.0) in
    let place : IsPlaceOf (first + 1 + n) (d ∷ days) to = subst (λ (k : ℕ). IsPlaceOf k (d ∷ days) to) (omega arith) at in
    from_one_on n (first + 1) (d ∷ days) (s ∷ sums) to long rising further place
    ∙ sym (ap (λ (o : Option CellSums). if_stored first o ++ stored_of (zip (d ∷ days) (s ∷ sums)) (range_with_len (first + 1) n)) here))
    (λ le.
    let same : d ≡ first = omega (arith, all.0) in
    its (λ k place. from_one_on n (first + 1) days sums k (omega arith) rising.1 (all_above (first + 1) d days (omega arith) rising.0) place) to same at)
    (cases_lt first d)
  where
    all_above : (low d : ℕ) (days : List ℕ) → low ≤ d + 1 → AllByRecursion (λ o. d < o) days → AllByRecursion (λ o. low ≤ o) days
    all_above low d [] le all = tt
    all_above low d (o ∷ days) le all = (omega (arith, all.0), all_above low d days le all.1)

    its : ((k : ℕ) → IsPlaceOf (first + 1 + n) days k → take k (zip days sums) ≡ stored_of (zip days sums) (range_with_len (first + 1) n)) → (to : ℕ) → d ≡ first → IsPlaceOf (first + suc n) (d ∷ days) to → take to (zip (d ∷ days) (s ∷ sums)) ≡ stored_of (zip (d ∷ days) (s ∷ sums)) (range_with_len first (suc n))
    its rest zero same at = absurd (omega arith)
    its rest (suc to) same at =
        let place : IsPlaceOf (first + 1 + n) days to = subst (λ (k : ℕ). IsPlaceOf k days to) (omega arith) at.1 in
        let here : stored_on (zip (d ∷ days) (s ∷ sums)) first ≡ Some s = ap (λ b. cond b (Some s) (stored_on (zip days sums) first)) (subst (λ (o : ℕ). is_at (nat_cmp first) o ≡ true) (sym same) (at_itself first)) in
        ap (λ (day : ℕ). (day, s) ∷ take to (zip days sums)) same
        ∙ ap (λ (list : Days). (first, s) ∷ list)
        (rest to place ∙ sym (skip_head d s (zip days sums) (first + 1) n (omega arith)))
        ∙ sym (ap (λ (o : Option CellSums). if_stored first o ++ stored_of (zip (d ∷ days) (s ∷ sums)) (range_with_len (first + 1) n)) here)

-- ---- from the place of the first on

pub slice_stored : (first n : ℕ) (days : List ℕ) (sums : List CellSums) (from to : ℕ) → length days ≡ length sums → AreRising days → IsPlaceOf first days from → IsPlaceOf (first + n) days to
    → take (to - from) (drop from (zip days sums)) ≡ stored_of (zip days sums) (range_with_len first n)
slice_stored first n [] [] from to long rising a b = none_taken (to - from) from [] refl ∙ sym (none_of_none (range_with_len first n))
slice_stored first n [] (s ∷ sums) from to long rising a b = absurd (omega arith)
slice_stored first n (d ∷ days) [] from to long rising a b = absurd (omega arith)
slice_stored first n (d ∷ days) (s ∷ sums) zero to long rising a b =
    let cut : to - 0 ≡ to = omega arith in
    ap (λ (k : ℕ). take k (zip (d ∷ days) (s ∷ sums))) cut ∙ from_one_on n first (d ∷ days) (s ∷ sums) to long rising (a, all_above days rising.0) b
  where
    all_above : (rest : List ℕ) → AllByRecursion (λ o. d < o) rest → AllByRecursion (λ o. first ≤ o) rest
    all_above [] all = tt
    all_above (o ∷ rest) all = (omega (arith, a, all.0), all_above rest all.1)
slice_stored first n (d ∷ days) (s ∷ sums) (suc from) zero long rising a b = absurd (omega (arith, a.0, b))
slice_stored first n (d ∷ days) (s ∷ sums) (suc from) (suc to) long rising a b =
    let same : suc to - suc from ≡ to - from = omega arith in
    ap (λ (k : ℕ). take k (drop from (zip days sums))) same ∙ slice_stored first n days sums from to (omega arith) rising.1 a.1 b.1 ∙ sym (skip_head d s (zip days sums) first n a.0)

-- the days and their sums are taken side by side
none_beside : (days : List ℕ) (sums : List CellSums) → sums ≡ [] → zip days sums ≡ []
none_beside days (s ∷ sums) none = absurd (cc)
none_beside [] [] none = refl
none_beside (d ∷ days) [] none = refl

zip_dropped : (n : ℕ) (days : List ℕ) (sums : List CellSums) → zip (drop n days) (drop n sums) ≡ drop n (zip days sums)
zip_dropped zero days sums = refl
zip_dropped (suc n) [] sums = refl
zip_dropped (suc n) (d ∷ days) [] = none_beside (drop n days) [] refl
zip_dropped (suc n) (d ∷ days) (s ∷ sums) = zip_dropped n days sums

zip_taken : (n : ℕ) (days : List ℕ) (sums : List CellSums) → zip (take n days) (take n sums) ≡ take n (zip days sums)
zip_taken zero days sums = refl
zip_taken (suc n) [] sums = refl
zip_taken (suc n) (d ∷ days) [] = refl
zip_taken (suc n) (d ∷ days) (s ∷ sums) = ap (λ (list : Days). (d, s) ∷ list) (zip_taken n days sums)

as_many_dropped : (n : ℕ) (days : List ℕ) (sums : List CellSums) → length days ≡ length sums → length (drop n days) ≡ length (drop n sums)
as_many_dropped zero days sums long = long
as_many_dropped (suc n) [] [] long = refl
as_many_dropped (suc n) [] (s ∷ sums) long = absurd (omega (arith, long))
as_many_dropped (suc n) (d ∷ days) [] long = absurd (omega (arith, long))
as_many_dropped (suc n) (d ∷ days) (s ∷ sums) long = as_many_dropped n days sums (omega (arith, long))

as_many_taken : (n : ℕ) (days : List ℕ) (sums : List CellSums) → length days ≡ length sums → length (take n days) ≡ length (take n sums)
as_many_taken zero days sums long = refl
as_many_taken (suc n) [] [] long = refl
as_many_taken (suc n) [] (s ∷ sums) long = absurd (omega (arith, long))
as_many_taken (suc n) (d ∷ days) [] long = absurd (omega (arith, long))
as_many_taken (suc n) (d ∷ days) (s ∷ sums) long = ap suc (as_many_taken n days sums (omega (arith, long)))

pub as_many_between : (n m : ℕ) (days : List ℕ) (sums : List CellSums) → length days ≡ length sums → length (take n (drop m days)) ≡ length (take n (drop m sums))
as_many_between n m days sums long = as_many_taken n (drop m days) (drop m sums) (as_many_dropped m days sums long)

pub zip_between : (n m : ℕ) (days : List ℕ) (sums : List CellSums) → zip (take n (drop m days)) (take n (drop m sums)) ≡ take n (drop m (zip days sums))
zip_between n m days sums = zip_taken n (drop m days) (drop m sums) ∙ ap (take n) (zip_dropped m days sums)

-- ---- there are no more than days

at_most_one : (day : ℕ) (o : Option CellSums) → length (if_stored day o) ≤ 1
at_most_one day None = omega arith
at_most_one day (Some sums) = omega arith

pub few_stored : (days : Days) (first n : ℕ) → length (stored_of days (range_with_len first n)) ≤ n
few_stored days first zero = omega arith
few_stored days first (suc n) =
    omega (arith, length-append (if_stored first (stored_on days first)) (stored_of days (range_with_len (first + 1) n)), at_most_one first (stored_on days first), few_stored days (first + 1) n)
