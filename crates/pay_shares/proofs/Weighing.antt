-- Portions that are added one after another are the weights of all of them.
use Rattle.std.proofs.Common.{◌≡◌, ◌≢◌, ℕ, ◌+◌, ◌-◌, ◌<◌, ◌≤◌, ◌==◌, if◌then◌else◌, Bool, List, [], ◌∷◌, ◌++◌, inl, inr, length, get_or, set, map, replicate, sum_by, refl, ap, sym, ◌∙◌, arith, append_assoc, zero-add}
use Rattle.std.specs.Prelude.{sum}
use Rattle.std.specs.List.{All, AllByRecursion, range_with_len}
use Rattle.std.proofs.lemmas.Bool.{cases_eq, eq-eqb, ne_eqb}
use Rattle.std.proofs.lemmas.Grind.{same_number_lists, get_or-set_at}
use Rattle.std.proofs.lemmas.List.{append-nil, get_or-set_other, length-set}
use Rattle.std.proofs.lemmas.List.Elements.{All-head, All-tail}
use Rattle.std.proofs.lemmas.List.FromFn.{length-map-range_with_len, get_or-map-range_with_len}
use Rattle.std.proofs.lemmas.List.Sums.{sum_by-cons, sum_by_push, sum_by-set}
use Rattle.pay_money.specs.declared.limits.TheConstants.{OPERATORS}
use Rattle.pay_rules.specs.Portions.{Portion}
use Rattle.pay_rules.specs.OperatorWeights.{weight, weights_of}
use Rattle.pay_shares.specs.Adding.{with_portion, with_portions}

-- the operator of a portion is one of 1 to 16
abbrev pub IsWithin : Portion → Type 0
IsWithin one = (1 ≤ one.operator) × (one.operator ≤ OPERATORS)

abbrev pub AreWithin : List Portion → Type 0
AreWithin list = AllByRecursion IsWithin list

abbrev pub pence : Portion → ℕ
pence one = one.pence

-- ---- one portion more

one_more : (list : List Portion) (one : Portion) (operator : ℕ) → weight (list ++ one ∷ []) operator ≡ weight list operator + (if one.operator == operator then one.pence else 0)
one_more list one operator = sum_by_push (λ (other : Portion). if other.operator == operator then other.pence else 0) list one

its_own : (list : List Portion) (one : Portion) (operator : ℕ) → one.operator ≡ operator → weight (list ++ one ∷ []) operator ≡ weight list operator + one.pence
its_own list one operator e = one_more list one operator ∙ ap (λ (b : Bool). weight list operator + (if b then one.pence else 0)) (eq-eqb one.operator operator e)

another's : (list : List Portion) (one : Portion) (operator : ℕ) → (one.operator ≡ operator → ⊥) → weight (list ++ one ∷ []) operator ≡ weight list operator
another's list one operator ne =
    one_more list one operator ∙ ap (λ (b : Bool). weight list operator + (if b then one.pence else 0)) (ne_eqb one.operator operator ne) ∙ omega arith

-- a list by operators where one entry grows, and each other stays
set_at : (f g : ℕ → ℕ) (count place more : ℕ) → place < count → g (place + 1) ≡ f (place + 1) + more → ((k : ℕ) → (k ≡ place → ⊥) → g (k + 1) ≡ f (k + 1))
    → set (map f (range_with_len 1 count)) place (get_or (map f (range_with_len 1 count)) place 0 + more) ≡ map g (range_with_len 1 count)
set_at f g count place more within grows stays =
    same_number_lists _ _ (length-set before place (get_or before place 0 + more) ∙ length-map-range_with_len f 1 count ∙ sym (length-map-range_with_len g 1 count)) (λ k h. at k (omega (arith, length-set before place (get_or before place 0 + more), length-map-range_with_len f 1 count)))
  where
    before : List ℕ
    before = map f (range_with_len 1 count)

    here : (k : ℕ) → k < count → k ≡ place → get_or (set before place (get_or before place 0 + more)) k 0 ≡ get_or (map g (range_with_len 1 count)) k 0
    here k h same =
        omega (
          arith,
          get_or-set_at before place k (get_or before place 0 + more) 0 same (omega (arith, length-map-range_with_len f 1 count)),
          get_or-map-range_with_len f 1 count place (place + 1) 0 within (omega arith),
          grows,
          get_or-map-range_with_len g 1 count k (k + 1) 0 h (omega arith),
          ap (λ (n : ℕ). g (n + 1)) same,
        )

    there : (k : ℕ) → k < count → (k ≡ place → ⊥) → get_or (set before place (get_or before place 0 + more)) k 0 ≡ get_or (map g (range_with_len 1 count)) k 0
    there k h other =
        get_or-set_other before place k (get_or before place 0 + more) 0 other ∙ get_or-map-range_with_len f 1 count k (k + 1) 0 h (omega arith)
        ∙ sym (stays k other) ∙ sym (get_or-map-range_with_len g 1 count k (k + 1) 0 h (omega arith))

    at : (k : ℕ) → k < count → get_or (set before place (get_or before place 0 + more)) k 0 ≡ get_or (map g (range_with_len 1 count)) k 0
    at k h = elim (cases_eq k place) [ inl same ↦ here k h same | inr other ↦ there k h other ]

pub one_portion : (list : List Portion) (one : Portion) → IsWithin one → with_portion (weights_of list) one ≡ weights_of (list ++ one ∷ [])
one_portion list one within =
    set_at (weight list) (weight (list ++ one ∷ [])) OPERATORS (one.operator - 1) one.pence (omega (arith, within.0, within.1))
    (its_own list one (one.operator - 1 + 1) (omega (arith, within.0)))
    (λ k ne. another's list one (k + 1) (λ e. ne (omega (arith, e))))

pub all_added : (done list : List Portion) → AreWithin list → with_portions (weights_of done) list ≡ weights_of (done ++ list)
all_added done [] within = ap weights_of (sym (append-nil done))
all_added done (one ∷ list) within =
    ap (λ (weights : List ℕ). with_portions weights list) (one_portion done one within.0) ∙ all_added (done ++ one ∷ []) list within.1 ∙ ap weights_of (append_assoc done (one ∷ []) list)

-- ---- their sum

-- where a weight grows, so does the sum of all
pub grows_by : (weights : List ℕ) (place more : ℕ) → place < length weights → sum (set weights place (get_or weights place 0 + more)) ≡ sum weights + more
grows_by weights place more within = omega (arith, sum_by-set (λ n. n) weights place (get_or weights place 0 + more) 0 within)

length_kept : (weights : List ℕ) (one : Portion) → length (with_portion weights one) ≡ length weights
length_kept weights one = length-set weights (one.operator - 1) _

pub sum_added : (weights : List ℕ) (list : List Portion) → length weights ≡ OPERATORS → AreWithin list → sum (with_portions weights list) ≡ sum weights + sum_by pence list
sum_added weights [] len within = omega arith
sum_added weights (one ∷ list) len within =
    omega (
      arith,
      sum_added (with_portion weights one) list (length_kept weights one ∙ len) within.1,
      grows_by weights (one.operator - 1) one.pence (omega (arith, within.0, len)),
      sum_by-cons pence one list,
    )

pub weights_together : (list : List Portion) → AreWithin list → sum (weights_of list) ≡ sum_by pence list
weights_together list within = sym (ap sum (all_added [] list within)) ∙ sum_added (replicate OPERATORS 0) list refl within ∙ zero-add (sum_by pence list)

-- ---- nothing for an operator

pub no_weight : (list : List Portion) (operator : ℕ) → All (λ one. one.operator ≢ operator) list → weight list operator ≡ 0
no_weight [] operator none = refl
no_weight (one ∷ list) operator none =
    sum_by-cons (λ (other : Portion). if other.operator == operator then other.pence else 0) one list
    ∙ omega (
      arith,
      ap (λ (b : Bool). if b then one.pence else 0) (ne_eqb one.operator operator (All-head (λ (other : Portion). other.operator ≢ operator) one list none)),
      no_weight list operator (All-tail (λ (other : Portion). other.operator ≢ operator) one list none),
    )
