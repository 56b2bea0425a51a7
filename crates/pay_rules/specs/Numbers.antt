-- What has a number, by these numbers, and how a set of such judges one more.
use Rattle.std.specs.Prelude.{◌≡◌, ℕ, ◌≤◌, nat_le, Bool, if◌then◌else◌, Option, Some, None, Result, Ok, Err, map}
use Rattle.std.specs.declared.cmp.Ordering.{Ordering}
use Rattle.std.specs.Ordering.{nat_cmp, ordering_then}
use Rattle.std.specs.FinMap.{FinMap, get, len, insert, keys, values}
use Rattle.pay_rules.specs.declared.addition.Addition.{Addition}
use Rattle.pay_rules.specs.declared.addition.Addition.TheVariants.{Added, Repeat}
use Rattle.pay_rules.specs.declared.addition.AdditionFault.{AdditionFault}
use Rattle.pay_rules.specs.declared.addition.AdditionFault.TheVariants.{Conflict, Full, Memory}

-- numbers are ordered by the first of the pair, then by the second
abbrev pub number_cmp : ℕ × ℕ → ℕ × ℕ → Ordering
number_cmp a b = ordering_then (nat_cmp a.0 b.0) (nat_cmp a.1 b.1)

-- some of a kind by their numbers
abbrev pub ByNumber : Type 0 → Type 0
ByNumber X = FinMap number_cmp X

-- each stands at its own number, and there are no more than there may be
pub record IsNumbered {X : Type 0} (number : X → ℕ × ℕ) (most : ℕ) (set : ByNumber X) : Type 0 where
  pub own_numbers : map number (values set) ≡ keys set
  pub within : len set ≤ most

-- the judgement of one more, by what stands at its number and how many there are:
-- the same content is a repeat, other content a conflict, and a further one fits below the limit
abbrev pub judgement : {X : Type 0} → (X → X → Bool) → ℕ → X → Option X → ℕ → Result Addition AdditionFault
judgement same most x (Some there) count = if same there x then Ok Repeat else Err Conflict
judgement same most x None count = if nat_le most count then Err Full else Ok Added

-- how a set judges one more
abbrev pub judged : {X : Type 0} → (X → X → Bool) → (X → ℕ × ℕ) → ℕ → ByNumber X → X → Result Addition AdditionFault
judged same number most set x = judgement same most x (get set (number x)) (len set)

-- a result is as judged, or want of memory where it would be added
abbrev pub IsJudged : {X : Type 0} → (X → X → Bool) → (X → ℕ × ℕ) → ℕ → Result Addition AdditionFault → ByNumber X → X → Type 0
IsJudged same number most (Err Memory) set x = judged same number most set x ≡ Ok Added
IsJudged same number most result set x = judged same number most set x ≡ result

-- what a result leaves: what is added stands at its number, and all else is as it was
abbrev pub set_after : {X : Type 0} → (X → ℕ × ℕ) → Result Addition AdditionFault → ByNumber X → X → ByNumber X
set_after number (Ok Added) set x = insert set (number x) x
set_after number _ set x = set
