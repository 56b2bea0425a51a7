-- How a set is kept: as a list in ascending order of the numbers.
use Rattle.std.specs.Prelude.{◌≡◌, ℕ, ◌<◌, ◌≤◌, T, Bool, List, length, map, slice_get, Option, Some, None, Result, Ok, Err}
use Rattle.std.specs.FinMap.{from_entries, is_sorted, len, insert, values}
use Rattle.std.specs.List.{insert as insert_at}
use Rattle.std.specs.List.Sorted.{IsBinarySearchResult}
use Rattle.pay_rules.specs.declared.addition.Addition.{Addition}
use Rattle.pay_rules.specs.declared.addition.Addition.TheVariants.{Added, Repeat}
use Rattle.pay_rules.specs.declared.addition.AdditionFault.{AdditionFault}
use Rattle.pay_rules.specs.Numbers.{ByNumber, number_cmp, judged}

-- each at its number
abbrev pub numbered : {X : Type 0} → (X → ℕ × ℕ) → List X → List ((ℕ × ℕ) × X)
numbered number list = map (λ x. (number x, x)) list

-- the set of a list
abbrev pub set_of : {X : Type 0} → (X → ℕ × ℕ) → List X → ByNumber X
set_of number list = from_entries (numbered number list)

-- the numbers strictly rise
abbrev pub IsRising : {X : Type 0} → (X → ℕ × ℕ) → List X → Type 0
IsRising number list = T (is_sorted number_cmp (numbered number list))

-- they do, and there are no more than there may be
pub record IsSound {X : Type 0} (number : X → ℕ × ℕ) (most : ℕ) (list : List X) : Type 0 where
  pub ascending : T (is_sorted number_cmp (numbered number list))
  pub within : length list ≤ most

-- what a search for a number answers: where it stands, and what has it, or else where it would stand
abbrev pub IsSought : {X : Type 0} → (X → ℕ × ℕ) → ℕ × ℕ → List X → Result (ℕ × X) ℕ → Type 0
IsSought number n list (Ok there) = IsBinarySearchResult (λ x. number_cmp (number x) n) list (Ok there.0) × (there.0 < length list) × (slice_get list there.0 ≡ Some there.1)
IsSought number n list (Err at) = IsBinarySearchResult (λ x. number_cmp (number x) n) list (Err at) × (at ≤ length list)

-- what comes of one for which there is a place, or none
abbrev pub addition_at : Option ℕ → Addition
addition_at (Some at) = Added
addition_at None = Repeat

-- where a further one is to stand: put in there, the list is that of the set with it
pub record IsPlace {X : Type 0} (same : X → X → Bool) (number : X → ℕ × ℕ) (most at : ℕ) (set : ByNumber X) (x : X) : Type 0 where
  pub is_new : judged same number most set x ≡ Ok Added
  pub within : at ≤ len set
  pub grown : values (insert set (number x) x) ≡ insert_at (values set) at x

-- the place of a further one, none for a repeat, or why it is refused
abbrev pub IsPlaceFor : {X : Type 0} → (X → X → Bool) → (X → ℕ × ℕ) → ℕ → Result (Option ℕ) AdditionFault → ByNumber X → X → Type 0
IsPlaceFor same number most (Ok (Some at)) set x = IsPlace same number most at set x
IsPlaceFor same number most (Ok None) set x = judged same number most set x ≡ Ok Repeat
IsPlaceFor same number most (Err fault) set x = judged same number most set x ≡ Err fault
