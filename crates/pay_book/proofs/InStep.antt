-- Days in ascending order and their sums: what is kept of a day, and of all days after a change of one.
use Rattle.std.proofs.Common.{◌≡◌, ◌≢◌, ◌↔◌, ◌==◌, IsTrue, IsSome, unwrap_or, ℕ, zero, suc, ◌+◌, ◌<◌, ◌≤◌, Bool, true, false, cond, Option, Some, None, List, [], ◌∷◌, length, get_or, slice_get, slice_set, ◌⊎◌, inl, inr, refl, sym, ap, ◌∙◌, subst, arith}
use Rattle.std.specs.BTreeMap.{is_at}
use Rattle.std.specs.Cmp.{nat_cmp_is}
use Rattle.std.specs.List.{insert, zip, AllByRecursion}
use Rattle.std.specs.List.Sorted.{IsPartitionPoint, IsPartitionedBy}
use Rattle.std.proofs.Math.Dec.{ltb}
use Rattle.std.specs.Map.{lookup}
use Rattle.std.specs.Ordering.{nat_cmp, is_eq}
use Rattle.std.specs.declared.cmp.Ordering.TheVariants.{Less, Equal, Greater}
use mathlib.Core.Logic.{⊎_elim}
use Rattle.std.proofs.lemmas.List.{length-set}
use Rattle.smallvec.specs.SmallVec.{SmallVec, with_items}
use Rattle.smallvec.proofs.SmallVecLemmas.{items-with_items}
use Rattle.std.proofs.lemmas.Bool.{cases_lt, eqb-true, ltb-true, ltb-false, lt-ltb}
use Rattle.pay_caps.specs.Words.{CellSums, no_fares, total}
use Rattle.pay_book.specs.Days.{Days, stored_on, sums_on, StaySummed}
use Rattle.pay_book.specs.InStep.{AreRising, IsPlaceOf, AreInStep}

-- ---- one day and another

pub at_itself : (day : ℕ) → is_at (nat_cmp day) day ≡ true
at_itself day = ap is_eq (sym (nat_cmp_is day day Equal refl))

pub not_before : (day other : ℕ) → other < day → is_at (nat_cmp day) other ≡ false
not_before day other lt = ap is_eq (sym (nat_cmp_is day other Greater lt))

pub not_after : (day other : ℕ) → day < other → is_at (nat_cmp day) other ≡ false
not_after day other lt = ap is_eq (sym (nat_cmp_is day other Less lt))

pub either : (day other : ℕ) → (day ≡ other) ⊎ (is_at (nat_cmp day) other ≡ false)
either day other =
    ⊎_elim (λ lt. inr (not_after day other lt)) (λ ge. ⊎_elim (λ lt. inr (not_before day other lt)) (λ le. inl (omega arith)) (cases_lt other day)) (cases_lt day other)

either_way : (day other : ℕ) → is_at (nat_cmp day) other ≡ is_at (nat_cmp other) day
either_way day other =
    ⊎_elim (λ lt. not_after day other lt ∙ sym (not_before other day lt))
    (λ ge. ⊎_elim (λ lt. not_before day other lt ∙ sym (not_after other day lt)) (λ le. let same : day ≡ other = omega arith in subst (λ (d : ℕ). is_at (nat_cmp day) d ≡ is_at (nat_cmp d) day) same refl) (cases_lt other day))
    (cases_lt day other)

-- ---- what is kept of a day

pub found : (day : ℕ) (days : List ℕ) (sums : List CellSums) (place : ℕ) → length days ≡ length sums → IsPlaceOf day days place → slice_get days place ≡ Some day
    → lookup (is_at (nat_cmp day)) (zip days sums) ≡ slice_get sums place
found day [] sums place long at there = absurd (cc)
found day (d ∷ days) [] place long at there = absurd (omega arith)
found day (d ∷ days) (s ∷ sums) zero long at there =
    let same : d ≡ day = cc in
    ap (λ b. cond b (Some s) (lookup (is_at (nat_cmp day)) (zip days sums))) (subst (λ (o : ℕ). is_at (nat_cmp day) o ≡ true) (sym same) (at_itself day))
found day (d ∷ days) (s ∷ sums) (suc place) long at there =
    ap (λ b. cond b (Some s) (lookup (is_at (nat_cmp day)) (zip days sums))) (not_before day d at.0) ∙ found day days sums place (omega arith) at.1 there

pub none_after : (day : ℕ) (days : List ℕ) (sums : List CellSums) → AllByRecursion (λ other. day < other) days → lookup (is_at (nat_cmp day)) (zip days sums) ≡ None
none_after day [] sums all = refl
none_after day (d ∷ days) [] all = refl
none_after day (d ∷ days) (s ∷ sums) all = ap (λ b. cond b (Some s) (lookup (is_at (nat_cmp day)) (zip days sums))) (not_after day d all.0) ∙ none_after day days sums all.1

pub all_further : (day other : ℕ) (days : List ℕ) → day < other → AllByRecursion (λ d. other < d) days → AllByRecursion (λ d. day < d) days
all_further day other [] lt all = tt
all_further day other (d ∷ days) lt all = (omega (arith, all.0), all_further day other days lt all.1)

pub not_found : (day : ℕ) (days : List ℕ) (sums : List CellSums) (place : ℕ) → AreRising days → IsPlaceOf day days place → slice_get days place ≢ Some day
    → lookup (is_at (nat_cmp day)) (zip days sums) ≡ None
not_found day [] sums place rising at none = refl
not_found day (d ∷ days) [] place rising at none = refl
not_found day (d ∷ days) (s ∷ sums) zero rising at none =
    ⊎_elim (λ lt. ap (λ b. cond b (Some s) (lookup (is_at (nat_cmp day)) (zip days sums))) (not_after day d lt) ∙ none_after day days sums (all_further day d days lt rising.0))
    (λ le. let same : d ≡ day = omega arith in absurd (none (ap Some same)))
    (cases_lt day d)
not_found day (d ∷ days) (s ∷ sums) (suc place) rising at none =
    ap (λ b. cond b (Some s) (lookup (is_at (nat_cmp day)) (zip days sums))) (not_before day d at.0) ∙ not_found day days sums place rising.1 at.1 none

-- ---- another day's place, in front of one before the changed one

passed : (other day d : ℕ) (s x : CellSums) (rest : Option CellSums) → d < day
    → cond (is_at (nat_cmp other) d) (Some s) (cond (is_at (nat_cmp day) other) (Some x) rest) ≡ cond (is_at (nat_cmp day) other) (Some x) (cond (is_at (nat_cmp other) d) (Some s) rest)
passed other day d s x rest lt =
    ⊎_elim
    (λ same.
    let apart : is_at (nat_cmp day) other ≡ false = not_before day other (omega arith) in
    ap (λ b. cond (is_at (nat_cmp other) d) (Some s) (cond b (Some x) rest)) apart ∙ sym (ap (λ b. cond b (Some x) (cond (is_at (nat_cmp other) d) (Some s) rest)) apart))
    (λ apart. ap (λ b. cond b (Some s) (cond (is_at (nat_cmp day) other) (Some x) rest)) apart ∙ sym (ap (λ b. cond (is_at (nat_cmp day) other) (Some x) (cond b (Some s) rest)) apart))
    (either other d)

pub set_there : (other day : ℕ) (days : List ℕ) (sums : List CellSums) (place : ℕ) (x : CellSums) → length days ≡ length sums → IsPlaceOf day days place → slice_get days place ≡ Some day
    → lookup (is_at (nat_cmp other)) (zip days (slice_set sums place x)) ≡ cond (is_at (nat_cmp day) other) (Some x) (lookup (is_at (nat_cmp other)) (zip days sums))
set_there other day [] sums place x long at there = absurd (cc)
set_there other day (d ∷ days) [] place x long at there = absurd (omega arith)
set_there other day (d ∷ days) (s ∷ sums) zero x long at there =
    let same : d ≡ day = cc in
    let rest = lookup (is_at (nat_cmp other)) (zip days sums) in
    let turned : is_at (nat_cmp other) d ≡ is_at (nat_cmp day) other = ap (λ (o : ℕ). is_at (nat_cmp other) o) same ∙ either_way other day in
    ap (λ b. cond b (Some x) rest) turned ∙ twice (is_at (nat_cmp day) other) (is_at (nat_cmp other) d) turned rest
  where
    twice : (b a : Bool) → a ≡ b → (rest : Option CellSums) → cond b (Some x) rest ≡ cond b (Some x) (cond a (Some s) rest)
    twice true a e rest = refl
    twice false a e rest = sym (ap (λ c. cond c (Some s) rest) e)
set_there other day (d ∷ days) (s ∷ sums) (suc place) x long at there =
    ap (cond (is_at (nat_cmp other) d) (Some s)) (set_there other day days sums place x (omega arith) at.1 there)
    ∙ passed other day d s x (lookup (is_at (nat_cmp other)) (zip days sums)) at.0

pub put_there : (other day : ℕ) (days : List ℕ) (sums : List CellSums) (place : ℕ) (x : CellSums) → length days ≡ length sums → IsPlaceOf day days place
    → lookup (is_at (nat_cmp other)) (zip (insert days place day) (insert sums place x)) ≡ cond (is_at (nat_cmp day) other) (Some x) (lookup (is_at (nat_cmp other)) (zip days sums))
put_there other day [] [] zero x long at = ap (λ b. cond b (Some x) None) (either_way other day)
put_there other day [] [] (suc place) x long at = absurd (omega arith)
put_there other day [] (s ∷ sums) place x long at = absurd (omega arith)
put_there other day (d ∷ days) [] place x long at = absurd (omega arith)
put_there other day (d ∷ days) (s ∷ sums) zero x long at = ap (λ b. cond b (Some x) (lookup (is_at (nat_cmp other)) (zip (d ∷ days) (s ∷ sums)))) (either_way other day)
put_there other day (d ∷ days) (s ∷ sums) (suc place) x long at =
    ap (cond (is_at (nat_cmp other) d) (Some s)) (put_there other day days sums place x (omega arith) at.1)
    ∙ passed other day d s x (lookup (is_at (nat_cmp other)) (zip days sums)) at.0

-- ---- in step after it

all_with : (day d : ℕ) (days : List ℕ) (place : ℕ) → d < day → AllByRecursion (λ o. d < o) days → AllByRecursion (λ o. d < o) (insert days place day)
all_with day d [] zero lt all = (lt, tt)
all_with day d [] (suc place) lt all = (lt, tt)
all_with day d (o ∷ days) zero lt all = (lt, all)
all_with day d (o ∷ days) (suc place) lt all = (all.0, all_with day d days place lt all.1)

pub rising_with : (day : ℕ) (days : List ℕ) (place : ℕ) → AreRising days → IsPlaceOf day days place → slice_get days place ≢ Some day → AreRising (insert days place day)
rising_with day [] zero rising at none = (tt, tt)
rising_with day [] (suc place) rising at none = absurd (omega arith)
rising_with day (d ∷ days) zero rising at none =
    ⊎_elim (λ lt. ((lt, all_further day d days lt rising.0), rising)) (λ le. let same : d ≡ day = omega arith in absurd (none (ap Some same))) (cases_lt day d)
rising_with day (d ∷ days) (suc place) rising at none = (all_with day d days place at.0 rising.0, rising_with day days place rising.1 at.1 none)

-- ---- where a day stands

pub place_found : (day : ℕ) (days : List ℕ) (place : ℕ) → place ≤ length days → IsPartitionPoint (λ other. ltb other day ≡ true) (λ other. ltb other day ≡ false) days place → IsPlaceOf day days place
place_found day [] place few h = omega arith
place_found day (d ∷ days) zero few h = ltb-false d day (h.1 zero d (omega arith) (omega arith))
place_found day (d ∷ days) (suc place) few h = (
  ltb-true d day (h.0 zero d (omega arith) (omega arith)),
  place_found day days place (omega arith) ((λ k e low lt. h.0 (suc k) e (omega arith) (omega arith)), (λ k e low lt. h.1 (suc k) e (omega arith) (omega arith))),
)

low_in_front : (days : List ℕ) (i j e : ℕ) → AreRising days → i ≤ j → j < length days → get_or days i e ≤ get_or days j e
low_in_front [] i j e rising le lt = absurd (omega arith)
low_in_front (d ∷ days) zero zero e rising le lt = omega arith
low_in_front (d ∷ days) zero (suc j) e rising le lt = before_all d days j e rising.0 (omega arith)
  where
    before_all : (d : ℕ) (days : List ℕ) (j e : ℕ) → AllByRecursion (λ o. d < o) days → j < length days → d ≤ get_or days j e
    before_all d [] j e all lt = absurd (omega arith)
    before_all d (o ∷ days) zero e all lt = omega (arith, all.0)
    before_all d (o ∷ days) (suc j) e all lt = before_all d days j e all.1 (omega arith)
low_in_front (d ∷ days) (suc i) zero e rising le lt = absurd (omega arith)
low_in_front (d ∷ days) (suc i) (suc j) e rising le lt = low_in_front days i j e rising.1 (omega arith) (omega arith)

pub parted : (day : ℕ) (days : List ℕ) → AreRising days → IsPartitionedBy (λ other. ltb other day) days
parted day days rising i j e le lt is =
    let low = low_in_front days i j e rising le lt in
    let below = ltb-true (get_or days j e) day is in
    lt-ltb (get_or days i e) day (omega arith)

-- ---- what a look at the place of a day tells

pub record Stands (day : ℕ) (days : List ℕ) (place : ℕ) : Type 0 where
  pub at : IsPlaceOf day days place
  pub there : slice_get days place ≡ Some day

pub record StandsNot (day : ℕ) (days : List ℕ) (place : ℕ) : Type 0 where
  pub at : IsPlaceOf day days place
  pub there : slice_get days place ≢ Some day

pub is_there : (day : ℕ) (days lent other : List ℕ) (place : ℕ) (b : Bool) → lent ≡ days → other ≡ days → IsPlaceOf day lent place → IsTrue b ↔ (slice_get other place ≡ Some day) → b ≡ true → Stands day days place
is_there day days lent other place b l o at tells is = record {
  at = subst (λ (list : List ℕ). IsPlaceOf day list place) l at;
  there = ap (λ (list : List ℕ). slice_get list place) (sym o) ∙ tells.0 is;
}

pub is_not_there : (day : ℕ) (days lent other : List ℕ) (place : ℕ) (b : Bool) → lent ≡ days → other ≡ days → IsPlaceOf day lent place → IsTrue b ↔ (slice_get other place ≡ Some day) → b ≡ false → StandsNot day days place
is_not_there day days lent other place b l o at tells is = record {
  at = subst (λ (list : List ℕ). IsPlaceOf day list place) l at;
  there = λ e. let yes : b ≡ true = tells.1 (ap (λ (list : List ℕ). slice_get list place) o ∙ e) in absurd (cc);
}

-- ---- days as they are kept

pub stored_there : (day : ℕ) (days : List ℕ) (sums : List CellSums) (place : ℕ) (whole : Days) → AreInStep days sums → Stands day days place → zip days sums ≡ whole → stored_on whole day ≡ slice_get sums place
stored_there day days sums place whole step at is = ap (λ (list : Days). stored_on list day) (sym is) ∙ found day days sums place step.as_long at.at at.there

pub stored_nowhere : (day : ℕ) (days : List ℕ) (sums : List CellSums) (place : ℕ) (whole : Days) → AreInStep days sums → StandsNot day days place → zip days sums ≡ whole → stored_on whole day ≡ None
stored_nowhere day days sums place whole step at is = ap (λ (list : Days). stored_on list day) (sym is) ∙ not_found day days sums place step.rising at.at at.there

some_within : (days : List ℕ) (sums : List CellSums) (place : ℕ) (day : ℕ) → length days ≡ length sums → slice_get days place ≡ Some day → IsSome (slice_get sums place)
some_within [] sums place day long there = absurd (cc)
some_within (d ∷ days) [] place day long there = absurd (omega arith)
some_within (d ∷ days) (s ∷ sums) zero day long there = refl
some_within (d ∷ days) (s ∷ sums) (suc place) day long there = some_within days sums place day (omega arith) there

within : (days : List ℕ) (place : ℕ) (day : ℕ) → slice_get days place ≡ Some day → place < length days
within [] place day there = absurd (cc)
within (d ∷ days) zero day there = omega arith
within (d ∷ days) (suc place) day there = omega (arith, within days place day there)

-- a day that is kept stands at its place
stands_if_stored : (day : ℕ) (days : List ℕ) (sums : List CellSums) (place : ℕ) → AreRising days → IsPlaceOf day days place → IsSome (lookup (is_at (nat_cmp day)) (zip days sums)) → slice_get days place ≡ Some day
stands_if_stored day [] sums place rising at some = absurd (cc)
stands_if_stored day (d ∷ days) [] place rising at some = absurd (cc)
stands_if_stored day (d ∷ days) (s ∷ sums) zero rising at some =
    ⊎_elim
    (λ lt.
    let none : lookup (is_at (nat_cmp day)) (zip (d ∷ days) (s ∷ sums)) ≡ None =
    ap (λ b. cond b (Some s) (lookup (is_at (nat_cmp day)) (zip days sums))) (not_after day d lt) ∙ none_after day days sums (all_further day d days lt rising.0) in
    let some_of_none = subst IsSome none some in
    absurd (cc))
    (λ le. let same : d ≡ day = omega arith in ap Some same)
    (cases_lt day d)
stands_if_stored day (d ∷ days) (s ∷ sums) (suc place) rising at some =
    stands_if_stored day days sums place rising.1 at.1 (subst IsSome (ap (λ b. cond b (Some s) (lookup (is_at (nat_cmp day)) (zip days sums))) (not_before day d at.0)) some)

pub item_there : (day : ℕ) (days : List ℕ) (sums : List CellSums) (place : ℕ) (x : CellSums) → length days ≡ length sums → slice_get days place ≡ Some day → x ≡ get_or sums place x → Some x ≡ slice_get sums place
item_there day [] sums place x long there is = absurd (cc)
item_there day (d ∷ days) [] place x long there is = absurd (omega arith)
item_there day (d ∷ days) (s ∷ sums) zero x long there is = ap Some is
item_there day (d ∷ days) (s ∷ sums) (suc place) x long there is = item_there day days sums place x (omega arith) there is

pub some_there : (day : ℕ) (days : List ℕ) (sums : List CellSums) (place : ℕ) (whole : Days) → AreInStep days sums → Stands day days place → zip days sums ≡ whole → IsSome (stored_on whole day)
some_there day days sums place whole step at is = subst IsSome (sym (stored_there day days sums place whole step at is)) (some_within days sums place day step.as_long at.there)

-- a change of the sums of a day that is kept
module _ (day : ℕ) (days lent : List ℕ) (sums : SmallVec CellSums) (lent_sums : List CellSums) (place : ℕ) (whole : Days) (step : AreInStep days sums.items) (is : zip days sums.items ≡ whole) (same : lent ≡ days)
    (same_sums : lent_sums ≡ sums.items) (at : IsPlaceOf day lent place) (some : IsSome (stored_on whole day)) where
  its_place : IsPlaceOf day days place
  its_place = subst (λ (list : List ℕ). IsPlaceOf day list place) same at

  it_stands : Stands day days place
  it_stands = record { at = its_place; there = stands_if_stored day days sums.items place step.rising its_place (subst (λ (list : Days). IsSome (stored_on list day)) (sym is) some) }

  pub place_within : place < length lent_sums
  place_within = omega (arith, ap length same_sums, step.as_long, within days place day it_stands.there)

  pub its_sums : (x : CellSums) → x ≡ get_or lent_sums place x → get_or lent_sums place x ≡ sums_on whole day
  its_sums x item =
      sym item
      ∙ ap (λ (o : Option CellSums). unwrap_or o no_fares)
      (item_there day days sums.items place x step.as_long it_stands.there (item ∙ ap (λ (list : List CellSums). get_or list place x) same_sums) ∙ sym (stored_there day days sums.items place whole step it_stands is))

  pub changed_marks : (change : CellSums → CellSums) (x y : CellSums) → x ≡ get_or lent_sums place x → y ≡ change (get_or lent_sums place x)
      → (other : ℕ) → stored_on (zip days (with_items sums (slice_set lent_sums place y)).items) other ≡ cond (is_at (nat_cmp day) other) (Some (change (sums_on whole day))) (stored_on whole other)
  changed_marks change x y item changed other =
      ap (λ (list : List CellSums). stored_on (zip days list) other)
      (items-with_items sums (slice_set lent_sums place y) (length-set lent_sums place y ∙ ap length same_sums) ∙ ap (λ (list : List CellSums). slice_set list place y) same_sums)
      ∙ set_there other day days sums.items place y step.as_long it_stands.at it_stands.there
      ∙ ap (λ (list : Days). cond (is_at (nat_cmp day) other) (Some y) (stored_on list other)) is
      ∙ ap (λ (z : CellSums). cond (is_at (nat_cmp day) other) (Some z) (stored_on whole other)) (changed ∙ ap change (its_sums x item))

  pub sum_within : (pence : ℕ) (x y : CellSums) → x ≡ get_or lent_sums place x → total y ≡ total (get_or lent_sums place x) + pence
      → (other : ℕ) → total (sums_on (zip days (with_items sums (slice_set lent_sums place y)).items) other) ≤ total (sums_on whole other) + pence
  sum_within pence x y item more other =
      subst (λ (o : Option CellSums). total (unwrap_or o no_fares) ≤ total (sums_on whole other) + pence) (sym (changed_marks (λ _. y) x y item refl other))
      (⊎_elim
      (λ here. subst (λ (d : ℕ). total (unwrap_or (cond (is_at (nat_cmp day) d) (Some y) (stored_on whole d)) no_fares) ≤ total (sums_on whole d) + pence) here
      (subst (λ b. total (unwrap_or (cond b (Some y) (stored_on whole day)) no_fares) ≤ total (sums_on whole day) + pence) (sym (at_itself day)) (omega (arith, more, ap total (its_sums x item)))))
      (λ apart. subst (λ b. total (unwrap_or (cond b (Some y) (stored_on whole other)) no_fares) ≤ total (sums_on whole other) + pence) (sym apart) (omega arith))
      (either day other))

-- a further day
module _ (day : ℕ) (days more : List ℕ) (sums with_more : List CellSums) (place : ℕ) (whole : Days) (step : AreInStep days sums) (at : StandsNot day days place) (is : zip days sums ≡ whole)
    (more_days : more ≡ insert days place day) (more_sums : with_more ≡ insert sums place no_fares) where
  opened : (other : ℕ) → stored_on (zip more with_more) other ≡ cond (is_at (nat_cmp day) other) (Some no_fares) (stored_on whole other)
  opened other =
      ap (λ (list : List ℕ). stored_on (zip list with_more) other) more_days ∙ ap (λ (list : List CellSums). stored_on (zip (insert days place day) list) other) more_sums
      ∙ put_there other day days sums place no_fares step.as_long at.at ∙ ap (λ (list : Days). cond (is_at (nat_cmp day) other) (Some no_fares) (stored_on list other)) is

  as_before : (other : ℕ) (b : Bool) → is_at (nat_cmp day) other ≡ b → unwrap_or (cond b (Some no_fares) (stored_on whole other)) no_fares ≡ sums_on whole other
  as_before other false e = refl
  as_before other true e =
      ⊎_elim (λ same. sym (ap (λ (o : Option CellSums). unwrap_or o no_fares) (subst (λ (d : ℕ). stored_on whole d ≡ None) same (stored_nowhere day days sums place whole step at is)))) (λ apart. absurd (cc)) (either day other)

  pub opened_same : (other : ℕ) → sums_on (zip more with_more) other ≡ sums_on whole other
  opened_same other = ap (λ (o : Option CellSums). unwrap_or o no_fares) (opened other) ∙ as_before other (is_at (nat_cmp day) other) refl

  pub opened_keeps : StaySummed whole (zip more with_more)
  opened_keeps other some = subst IsSome (sym (opened other)) (still (is_at (nat_cmp day) other) some)
    where
      still : (b : Bool) → IsSome (stored_on whole other) → IsSome (cond b (Some no_fares) (stored_on whole other))
      still true some = refl
      still false some = some

  pub opened_day : IsSome (stored_on (zip more with_more) day)
  opened_day = subst IsSome (sym (opened day ∙ ap (λ b. cond b (Some no_fares) (stored_on whole day)) (at_itself day))) refl

  pub opened_in_step : AreInStep more with_more
  opened_in_step =
      subst (λ (list : List ℕ). AreInStep list with_more) (sym more_days)
      (subst (λ (list : List CellSums). AreInStep (insert days place day) list) (sym more_sums)
      (record { as_long = as_long_with days sums place step.as_long; rising = rising_with day days place step.rising at.at at.there }))
    where
      as_long_with : (days : List ℕ) (sums : List CellSums) (place : ℕ) → length days ≡ length sums → length (insert days place day) ≡ length (insert sums place no_fares)
      as_long_with [] [] zero long = refl
      as_long_with [] [] (suc place) long = refl
      as_long_with [] (s ∷ sums) place long = absurd (omega arith)
      as_long_with (d ∷ days) [] place long = absurd (omega arith)
      as_long_with (d ∷ days) (s ∷ sums) zero long = ap suc long
      as_long_with (d ∷ days) (s ∷ sums) (suc place) long = ap suc (as_long_with days sums place (omega arith))

-- ---- a day that is another

pub same_day : (one other : ℕ) → (one == other) ≡ true → one ≡ other
same_day one other is = eqb-true one other is
