-- What a search of a list in blocks finds.
use Rattle.std.proofs.Common.{◌≡◌, ◌≢◌, ℕ, ◌<◌, ◌≤◌, Bool, true, false, List, length, get_or, slice_get, Some, None, Ok, Err, Ordering, Less, Equal, Greater, is_lt, ◌&&◌, eqb, eqb-true, eq-eqb, refl, sym, ap, subst, ◌∙◌, arith}
use Rattle.std.specs.Ordering.{ordering_index}
use Rattle.std.specs.List.Sorted.{IsBinarySearchResult, IsPartitionedBy, IsPartitionPoint}
use Rattle.std.specs.FinMap as map
use Rattle.std.proofs.lemmas.Cmp.{tied_itself}
use Rattle.std.proofs.lemmas.Option.{none-some, slice_get-get_or, slice_get_within, get_or_from_slice_get}
use Rattle.pay_numbered.specs.Sound.{set_of, IsSound, IsRising, IsSought}
use Rattle.pay_rules.specs.Numbers.{ByNumber, number_cmp}
use Rattle.pay_rules.specs.NumberOrder.{number_total, exact_numbers}
use Rattle.pay_numbered.proofs.KeptList.{cmp_with, searchable, found, not_found}

is_less : (r : Ordering) → is_lt r ≡ true → r ≡ Less
is_less Less e = refl
is_less Equal e = absurd (cc)
is_less Greater e = absurd (cc)

less_before : (r s : Ordering) → ordering_index r ≤ ordering_index s → is_lt s ≡ true → is_lt r ≡ true
less_before Less s le e = refl
less_before Equal Less le e = absurd (omega arith)
less_before Equal Equal le e = absurd (cc)
less_before Equal Greater le e = absurd (cc)
less_before Greater Less le e = absurd (omega arith)
less_before Greater Equal le e = absurd (cc)
less_before Greater Greater le e = absurd (cc)

greater_after : (r s : Ordering) → ordering_index r ≤ ordering_index s → is_lt r ≡ false → r ≢ Equal → s ≡ Greater
greater_after Less s le e other = absurd (cc)
greater_after Equal s le e other = absurd (other refl)
greater_after Greater Less le e other = absurd (omega arith)
greater_after Greater Equal le e other = absurd (omega arith)
greater_after Greater Greater le e other = refl

-- ---- whether two numbers are one

both : (s t : Bool) → s && t ≡ true → (s ≡ true) × (t ≡ true)
both true true e = (refl, refl)
both true false e = absurd (cc)
both false t e = absurd (cc)

pub one_number : (a b : ℕ × ℕ) → eqb a.0 b.0 && eqb a.1 b.1 ≡ true → a ≡ b
one_number a b e =
    let parts = both _ _ e in
    let first = eqb-true a.0 b.0 parts.0 in
    let second = eqb-true a.1 b.1 parts.1 in
    λ i. (first i, second i)

pub two_numbers : (a b : ℕ × ℕ) → eqb a.0 b.0 && eqb a.1 b.1 ≡ false → a ≢ b
two_numbers a b e one =
    let same : eqb a.0 b.0 && eqb a.1 b.1 ≡ true = subst (λ n. eqb a.0 n.0 && eqb a.1 n.1 ≡ true) one (ap (λ s. s && eqb a.1 a.1) (eq-eqb a.0 a.0 refl) ∙ eq-eqb a.1 a.1 refl) in
    absurd (cc)

module _ {X : Type 0} (number : X → ℕ × ℕ) where
  -- lower numbers stand before higher ones
  pub parted : (list : List X) (q : ℕ × ℕ) → IsRising number list → IsPartitionedBy (λ (x : X). is_lt (number_cmp (number x) q)) list
  parted list q h i j d low lt e = less_before _ _ (searchable number list q h i j d low lt) e

  between : (list : List X) (q : ℕ × ℕ) (i : ℕ) → IsRising number list
      → IsPartitionPoint (λ (x : X). is_lt (number_cmp (number x) q) ≡ true) (λ (x : X). is_lt (number_cmp (number x) q) ≡ false) list i
      → ((d : X) → i < length list → number (get_or list i d) ≢ q) → IsBinarySearchResult (cmp_with number q) list (Err i)
  between list q i h p other = λ rises. (
    (λ k d low lt. is_less _ (p.0 k d low lt)),
    (λ k d low lt. greater_after _ _ (searchable number list q h i k d low lt) (p.1 i d (omega arith) (omega arith)) (λ e. other d (omega arith) (exact_numbers _ _ e))),
  )

  -- none has the number where none stands at its place
  pub after_all : (list : List X) (q : ℕ × ℕ) (i : ℕ) → IsRising number list
      → IsPartitionPoint (λ (x : X). is_lt (number_cmp (number x) q) ≡ true) (λ (x : X). is_lt (number_cmp (number x) q) ≡ false) list i
      → slice_get list i ≡ None → IsBinarySearchResult (cmp_with number q) list (Err i)
  after_all list q i h p none = between list q i h p (λ d lt. absurd (none-some _ (sym none ∙ slice_get-get_or list i d lt)))

  -- or where another one does
  pub before_another : (list : List X) (q : ℕ × ℕ) (i : ℕ) (x : X) → IsRising number list
      → IsPartitionPoint (λ (x : X). is_lt (number_cmp (number x) q) ≡ true) (λ (x : X). is_lt (number_cmp (number x) q) ≡ false) list i
      → slice_get list i ≡ Some x → number x ≢ q → IsBinarySearchResult (cmp_with number q) list (Err i)
  before_another list q i x h p there other = between list q i h p (λ d lt e. other (ap number (sym (get_or_from_slice_get list i x d there)) ∙ e))

  -- the one at its place has it
  pub at_its_place : (list : List X) (q : ℕ × ℕ) (i : ℕ) (x : X) → slice_get list i ≡ Some x → number x ≡ q → IsSought number q list (Ok (i, x))
  at_its_place list q i x there one = (
    (λ d. ap (λ y. number_cmp (number y) q) (get_or_from_slice_get list i x d there) ∙ ap (λ n. number_cmp n q) one ∙ tied_itself number_total q),
    slice_get_within list i x there,
    there,
  )

  module _ (most : ℕ) where
    -- ---- what a search tells of the set

    pub has : (list : List X) (set : ByNumber X) (q : ℕ × ℕ) (there : ℕ × X) → IsSound number most list → set_of number list ≡ set → IsSought number q list (Ok there) → map.get set q ≡ Some there.1
    has list set q there h kept s = found number most list list set q there.0 there.1 h kept refl s.1 s.0 (sym (get_or_from_slice_get list there.0 there.1 there.1 s.2))

    pub has_none : (list : List X) (set : ByNumber X) (q : ℕ × ℕ) (i : ℕ) → IsSound number most list → set_of number list ≡ set → IsSought number q list (Err i) → map.get set q ≡ None
    has_none list set q i h kept s = not_found number most list list set q i h kept refl s.0
