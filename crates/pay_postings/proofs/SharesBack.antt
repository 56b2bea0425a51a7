-- The amounts of a posting as they are read back of rows of shares, in any order.
use Rattle.std.proofs.Common.{◌≡◌, ℕ, ◌+◌, ◌≤◌, ◌<◌, Bool, true, false, if◌then◌else◌, eqb, List, [], ◌∷◌, ◌++◌, length, get_or, zero, suc, Some, refl, sym, ap, ◌∙◌, subst, arith, append_assoc}
use Rattle.std.specs.Prelude.{ℤ, pos, ◌<ℤ◌, not, ◌&&◌, ◌||◌, find, filter, flat_map, IsPermutation}
use Rattle.std.specs.List.{list_all, AllByRecursion, zip}
use Rattle.std.specs.Ordering.{int_eq}
use Rattle.std.specs.Cmp.{signed_Decides}
use Rattle.std.proofs.lemmas.Bool.{and_parts, and_from}
use Rattle.std.proofs.lemmas.Int.{ints}
use Rattle.std.proofs.lemmas.List.Folds.{sum_by-zero, list_all-append}
use Rattle.std.proofs.lemmas.List.Sorted.{sum_by-IsPermutation}
use Rattle.pay_money.specs.declared.limits.TheConstants.{OPERATORS}
use Rattle.pay_rules.specs.declared.posting.Posting.{Posting}
use Rattle.pay_rows.specs.declared.row.ShareRow.{ShareRow}
use Rattle.pay_postings.specs.PostingRows.{is_share_of, amount_or_none, amount_of, amounts_of, share_row, share_rows_from, share_rows}
use Rattle.pay_postings.specs.AccountRows.{RiseAfter}
use Rattle.pay_postings.proofs.RowPlaces.{amounts_are}

-- a posting has an amount for each operator
abbrev pub HasAmounts : Posting → Type 0
HasAmounts posting = length posting.share_amounts ≡ OPERATORS

-- ---- a test of all, in any order

bit_back : (b : Bool) → eqb (if b then 0 else 1) 0 ≡ b
bit_back true = refl
bit_back false = refl

all_by_bits : {X : Type 0} (p : X → Bool) (xs : List X) → list_all (λ x. eqb (if p x then 0 else 1) 0) xs ≡ list_all p xs
all_by_bits p [] = refl
all_by_bits p (x ∷ xs) =
    let first = bit_back (p x) in
    let others = all_by_bits p xs in
    λ i. first i && others i

pub all_moved : {X : Type 0} (p : X → Bool) (xs ys : List X) → IsPermutation xs ys → list_all p ys ≡ list_all p xs
all_moved {X} p xs ys moved =
    let bits : X → ℕ = λ x. if p x then 0 else 1 in
    sym (all_by_bits p ys) ∙ sym (sum_by-zero bits ys) ∙ ap (λ (n : ℕ). eqb n 0) (sum_by-IsPermutation bits xs ys moved) ∙ sum_by-zero bits xs ∙ all_by_bits p xs

-- ---- numbers that differ

never : (b : Bool) → (b ≡ true → ⊥) → b ≡ false
never true h = absurd (h refl)
never false h = refl

int_apart : (x y : ℤ) → (x ≡ y → ⊥) → int_eq x y ≡ false
int_apart x y h = never (int_eq x y) (λ e. h ((signed_Decides x y).0 e))

int_same : (x y : ℤ) → x ≡ y → int_eq x y ≡ true
int_same x y e = (signed_Decides x y).1 e

below_apart : (x y : ℤ) → x <ℤ y → int_eq x y ≡ false
below_apart x y h = int_apart x y (λ e. omega (arith, ints, h, e))

above_apart : (x y : ℤ) → y <ℤ x → int_eq x y ≡ false
above_apart x y h = int_apart x y (λ e. omega (arith, ints, h, e))

first_false : (a b : Bool) → a ≡ false → (a && b) ≡ false
first_false false b e = refl
first_false true b e = absurd cc

second_false : (a b : Bool) → b ≡ false → (a && b) ≡ false
second_false false b e = refl
second_false true b e = e

-- ---- rows of an operator of a posting

abbrev pub is_none_of : ℤ → ℕ → ShareRow → Bool
is_none_of id operator row = not (is_share_of id operator row)

-- a row is of another posting or operator, or its amount is this
abbrev pub agrees : ℤ → ℕ → ℤ → ShareRow → Bool
agrees id operator amount row = not (is_share_of id operator row) || int_eq row.amount amount

found_first : (id : ℤ) (operator : ℕ) (amount : ℤ) (row : ShareRow) (rows : List ShareRow) (is : Bool) → ((not is || int_eq row.amount amount) && list_all (agrees id operator amount) rows) ≡ true
    → ((not is && list_all (is_none_of id operator) rows) ≡ true → amount ≡ pos 0)
    → (list_all (agrees id operator amount) rows ≡ true → (list_all (is_none_of id operator) rows ≡ true → amount ≡ pos 0) → amount_of rows id operator ≡ amount)
    → amount_or_none (if is then Some row else find (is_share_of id operator) rows) ≡ amount
found_first id operator amount row rows true all none further = (signed_Decides row.amount amount).0 (and_parts _ _ all).0
found_first id operator amount row rows false all none further = further all none

found_by : (id : ℤ) (operator : ℕ) (amount : ℤ) (rows : List ShareRow) → list_all (agrees id operator amount) rows ≡ true → (list_all (is_none_of id operator) rows ≡ true → amount ≡ pos 0)
    → amount_of rows id operator ≡ amount
found_by id operator amount [] all none = sym (none refl)
found_by id operator amount (row ∷ rows) all none = found_first id operator amount row rows (is_share_of id operator row) all none (found_by id operator amount rows)

either_true : (a b : Bool) → a ≡ true → (a || b) ≡ true
either_true true b e = refl
either_true false b e = absurd cc

or_true : (a b : Bool) → b ≡ true → (a || b) ≡ true
or_true true b e = refl
or_true false b e = e

none_agrees : (id : ℤ) (operator : ℕ) (amount : ℤ) (rows : List ShareRow) → list_all (is_none_of id operator) rows ≡ true → list_all (agrees id operator amount) rows ≡ true
none_agrees id operator amount [] none = refl
none_agrees id operator amount (row ∷ rows) none =
    let parts = and_parts _ _ none in
    and_from _ _ (either_true _ _ parts.0) (none_agrees id operator amount rows parts.1)

not_false : (b : Bool) → b ≡ false → not b ≡ true
not_false false e = refl
not_false true e = absurd cc

-- the row of an amount, unless it is 0
abbrev row_unless : Bool → ℤ → ℕ → ℤ → List ShareRow
row_unless is_zero id operator amount = if is_zero then [] else record { posting = id; operator = pos operator; amount = amount } ∷ []

none_in_row : (id : ℤ) (operator : ℕ) (other : ℤ) (number : ℕ) (amount : ℤ) (is_zero : Bool) → (int_eq other id && int_eq (pos number) (pos operator)) ≡ false
    → list_all (is_none_of id operator) (row_unless is_zero other number amount) ≡ true
none_in_row id operator other number amount true apart = refl
none_in_row id operator other number amount false apart = and_from _ _ (not_false _ apart) refl

none_in_rows : (id : ℤ) (operator : ℕ) (other : ℤ) (number : ℕ) (amounts : List ℤ) → ((n : ℕ) → number ≤ n → (int_eq other id && int_eq (pos n) (pos operator)) ≡ false)
    → list_all (is_none_of id operator) (share_rows_from other number amounts) ≡ true
none_in_rows id operator other number [] apart = refl
none_in_rows id operator other number (amount ∷ amounts) apart =
    list_all-append (is_none_of id operator) (share_row other number amount) (share_rows_from other (number + 1) amounts)
    ∙ and_from _ _ (none_in_row id operator other number amount (int_eq amount (pos 0)) (apart number (omega arith)))
    (none_in_rows id operator other (number + 1) amounts (λ n h. apart n (omega (arith, h))))

later_operators : (id : ℤ) (operator number : ℕ) (amounts : List ℤ) → operator < number → list_all (is_none_of id operator) (share_rows_from id number amounts) ≡ true
later_operators id operator number amounts h =
    none_in_rows id operator id number amounts (λ n above. second_false (int_eq id id) _ (int_apart (pos n) (pos operator) (λ e. omega (arith, ints, h, above, e))))

-- what the rows of a posting say of one of its operators
pub record Tell (id : ℤ) (operator : ℕ) (amount : ℤ) (rows : List ShareRow) : Type 0 where
  pub all : list_all (agrees id operator amount) rows ≡ true
  pub none : list_all (is_none_of id operator) rows ≡ true → amount ≡ pos 0

tell_first : (id : ℤ) (number : ℕ) (amount : ℤ) (others : List ShareRow) (is_zero : Bool) → int_eq amount (pos 0) ≡ is_zero → list_all (is_none_of id number) others ≡ true
    → Tell id number amount (row_unless is_zero id number amount ++ others)
tell_first id number amount others true e none = record { all = none_agrees id number amount others none; none = λ h. (signed_Decides amount (pos 0)).0 e }
tell_first id number amount others false e none = record {
  all = and_from _ _ (or_true _ _ (int_same amount amount refl)) (none_agrees id number amount others none);
  none = λ h.
      let here : (int_eq id id && int_eq (pos number) (pos number)) ≡ true = and_from _ _ (int_same id id refl) (int_same (pos number) (pos number) refl) in
      let not_here : not (int_eq id id && int_eq (pos number) (pos number)) ≡ true = (and_parts _ _ h).0 in
      absurd (true_false (sym not_here ∙ ap not here));
}
  where
    true_false : true ≡ false → ⊥
    true_false e = cc

tell_later : (id : ℤ) (operator number : ℕ) (amount first : ℤ) (others : List ShareRow) → number < operator → Tell id operator amount others → Tell id operator amount (share_row id number first ++ others)
tell_later id operator number amount first others below tell =
    let none : list_all (is_none_of id operator) (share_row id number first) ≡ true =
    none_in_row id operator id number first (int_eq first (pos 0)) (second_false (int_eq id id) _ (int_apart (pos number) (pos operator) (λ e. omega (arith, ints, below, e)))) in
    record {
      all = list_all-append (agrees id operator amount) (share_row id number first) others ∙ and_from _ _ (none_agrees id operator amount (share_row id number first) none) tell.all;
      none = λ h. tell.none (and_parts _ _ (sym (list_all-append (is_none_of id operator) (share_row id number first) others) ∙ h)).1;
    }

own_rows : (id : ℤ) (operator number place : ℕ) (amount : ℤ) (amounts : List ℤ) → operator ≡ number + place → place < length amounts → amount ≡ get_or amounts place (pos 0)
    → Tell id operator amount (share_rows_from id number amounts)
own_rows id operator number place amount [] e h is = absurd (omega (arith, h))
own_rows id operator number zero amount (first ∷ amounts) e h is =
    let at : number ≡ operator = omega (arith, e) in
    subst (λ (a : ℤ). Tell id operator a (share_rows_from id number (first ∷ amounts))) (sym is)
    (subst (λ (o : ℕ). Tell id o first (share_rows_from id number (first ∷ amounts))) at
    (tell_first id number first (share_rows_from id (number + 1) amounts) (int_eq first (pos 0)) refl (later_operators id number (number + 1) amounts (omega arith))))
own_rows id operator number (suc place) amount (first ∷ amounts) e h is =
    tell_later id operator number amount first (share_rows_from id (number + 1) amounts) (omega (arith, e))
    (own_rows id operator (number + 1) place amount amounts (omega (arith, e)) (omega (arith, h)) is)

-- ---- among the rows of other postings

abbrev pub AreApart : List ShareRow → ℤ → Type 0
AreApart rows id = (operator : ℕ) → list_all (is_none_of id operator) rows ≡ true

in_three : (p : ShareRow → Bool) (before own after : List ShareRow) → list_all p (before ++ (own ++ after)) ≡ (list_all p before && (list_all p own && list_all p after))
in_three p before own after = list_all-append p before (own ++ after) ∙ ap (λ (b : Bool). list_all p before && b) (list_all-append p own after)

tell_among : (id : ℤ) (operator : ℕ) (amount : ℤ) (before own after shares : List ShareRow) → IsPermutation (before ++ (own ++ after)) shares → AreApart before id → AreApart after id → Tell id operator amount own
    → Tell id operator amount shares
tell_among id operator amount before own after shares moved front back tell = record {
  all = all_moved (agrees id operator amount) (before ++ (own ++ after)) shares moved ∙ in_three (agrees id operator amount) before own after
      ∙ and_from _ _ (none_agrees id operator amount before (front operator)) (and_from _ _ tell.all (none_agrees id operator amount after (back operator)));
  none = λ h. tell.none (and_parts _ _ (and_parts _ _ (sym (all_moved (is_none_of id operator) (before ++ (own ++ after)) shares moved ∙ in_three (is_none_of id operator) before own after) ∙ h)).1).0;
}

amounts_among : (id : ℤ) (amounts : List ℤ) (before after shares : List ShareRow) → length amounts ≡ 16 → IsPermutation (before ++ (share_rows_from id 1 amounts ++ after)) shares → AreApart before id → AreApart after id
    → amounts_of shares id ≡ amounts
amounts_among id amounts before after shares long moved front back =
    sym (amounts_are shares id id amounts 16 refl long
    (λ k below.
    let amount = get_or amounts k (pos 0) in
    let tell = tell_among id (k + 1) amount before (share_rows_from id 1 amounts) after shares moved front back (own_rows id (k + 1) 1 k amount amounts (omega arith) (omega (arith, below, long)) refl) in
    sym (found_by id (k + 1) amount shares tell.all tell.none)))

abbrev rows_beside : ℤ × Posting → List ShareRow
rows_beside n = share_rows n.0 n.1

-- each number is less than those of all after it
abbrev pub Rise : List (ℤ × Posting) → Type 0
Rise [] = Unit {0}
Rise (n ∷ rest) = AllByRecursion (λ (m : ℤ × Posting). n.0 <ℤ m.0) rest × Rise rest

apart_after : (id : ℤ) (rest : List (ℤ × Posting)) → AllByRecursion (λ (m : ℤ × Posting). id <ℤ m.0) rest → AreApart (flat_map rows_beside rest) id
apart_after id [] above operator = refl
apart_after id (m ∷ rest) above operator =
    list_all-append (is_none_of id operator) (rows_beside m) (flat_map rows_beside rest)
    ∙ and_from _ _ (none_in_rows id operator m.0 1 m.1.share_amounts (λ n h. first_false _ _ (above_apart m.0 id above.0))) (apart_after id rest above.1 operator)

apart_with : (before : List ShareRow) (n : ℤ × Posting) (rest : List (ℤ × Posting)) → AllByRecursion (λ (m : ℤ × Posting). AreApart before m.0) rest → AllByRecursion (λ (m : ℤ × Posting). n.0 <ℤ m.0) rest
    → AllByRecursion (λ (m : ℤ × Posting). AreApart (before ++ rows_beside n) m.0) rest
apart_with before n [] apart above = tt
apart_with before n (m ∷ rest) apart above = (
  (λ operator. list_all-append (is_none_of m.0 operator) before (rows_beside n)
      ∙ and_from _ _ (apart.0 operator) (none_in_rows m.0 operator n.0 1 n.1.share_amounts (λ k h. first_false _ _ (below_apart n.0 m.0 above.0)))),
  apart_with before n rest apart.1 above.1,
)

each_amounts : (shares before : List ShareRow) (rest : List (ℤ × Posting)) → IsPermutation (before ++ flat_map rows_beside rest) shares → AllByRecursion (λ (m : ℤ × Posting). AreApart before m.0) rest → Rise rest
    → AllByRecursion (λ (m : ℤ × Posting). HasAmounts m.1) rest → AllByRecursion (λ (m : ℤ × Posting). amounts_of shares m.0 ≡ m.1.share_amounts) rest
each_amounts shares before [] moved apart rise has = tt
each_amounts shares before (n ∷ rest) moved apart rise has = (
  amounts_among n.0 n.1.share_amounts before (flat_map rows_beside rest) shares has.0 moved apart.0 (apart_after n.0 rest rise.0),
  each_amounts shares (before ++ rows_beside n) rest (subst (λ (l : List ShareRow). IsPermutation l shares) (sym (append_assoc before (rows_beside n) (flat_map rows_beside rest))) moved)
      (apart_with before n rest apart.1 rise.0) rise.1 has.1,
)

nothing_apart : (rest : List (ℤ × Posting)) → AllByRecursion (λ (m : ℤ × Posting). AreApart [] m.0) rest
nothing_apart [] = tt
nothing_apart (m ∷ rest) = ((λ operator. refl), nothing_apart rest)

pub amounts_back : (shares : List ShareRow) (list : List (ℤ × Posting)) → IsPermutation (flat_map rows_beside list) shares → Rise list → AllByRecursion (λ (m : ℤ × Posting). HasAmounts m.1) list
    → AllByRecursion (λ (m : ℤ × Posting). amounts_of shares m.0 ≡ m.1.share_amounts) list
amounts_back shares list moved rise has = each_amounts shares [] list moved (nothing_apart list) rise has

-- ---- numbers that rise

weaker : (low id : ℤ) (list : List (ℤ × Posting)) → low <ℤ id → AllByRecursion (λ (m : ℤ × Posting). id <ℤ m.0) list → AllByRecursion (λ (m : ℤ × Posting). low <ℤ m.0) list
weaker low id [] h above = tt
weaker low id (m ∷ list) h above = (omega (arith, ints, h, above.0), weaker low id list h above.1)

all_above : (low : ℤ) (ids : List ℤ) (list : List Posting) → RiseAfter low ids → AllByRecursion (λ (m : ℤ × Posting). low <ℤ m.0) (zip ids list)
all_above low [] list rise = tt
all_above low (id ∷ ids) [] rise = tt
all_above low (id ∷ ids) (p ∷ list) rise = (rise.0, weaker low id (zip ids list) rise.0 (all_above id ids list rise.1))

pub numbered_rise : (low : ℤ) (ids : List ℤ) (list : List Posting) → RiseAfter low ids → Rise (zip ids list)
numbered_rise low [] list rise = tt
numbered_rise low (id ∷ ids) [] rise = tt
numbered_rise low (id ∷ ids) (p ∷ list) rise = (all_above id ids list rise.1, numbered_rise id ids list rise.1)

all_kept_by : {X : Type 0} (P : X → Type 0) (x : X) (others : List X) (is : Bool) → P x → AllByRecursion P others → AllByRecursion P (if is then x ∷ others else others)
all_kept_by P x others true one all = (one, all)
all_kept_by P x others false one all = all

pub all_kept : {X : Type 0} (P : X → Type 0) (test : X → Bool) (xs : List X) → AllByRecursion P xs → AllByRecursion P (filter test xs)
all_kept P test [] all = tt
all_kept P test (x ∷ xs) all = all_kept_by P x (filter test xs) (test x) all.0 (all_kept P test xs all.1)

rise_kept_by : (n : ℤ × Posting) (others : List (ℤ × Posting)) (is : Bool) → AllByRecursion (λ (m : ℤ × Posting). n.0 <ℤ m.0) others → Rise others → Rise (if is then n ∷ others else others)
rise_kept_by n others true above rise = (above, rise)
rise_kept_by n others false above rise = rise

pub rise_kept : (test : ℤ × Posting → Bool) (list : List (ℤ × Posting)) → Rise list → Rise (filter test list)
rise_kept test [] rise = tt
rise_kept test (n ∷ list) rise = rise_kept_by n (filter test list) (test n) (all_kept (λ (m : ℤ × Posting). n.0 <ℤ m.0) test list rise.0) (rise_kept test list rise.1)
