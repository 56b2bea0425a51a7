-- The Hopper rule: which bus taps pay.
use Rattle.std.specs.Prelude.{◌≡◌, ℕ, ◌+◌, ◌<◌, ◌≤◌, ◌↔◌, Bool, true, false, List, [], ◌∷◌, length, map, slice_get, slice_index, nat_lt, if◌then◌else◌, Some, refl}
use Rattle.std.specs.List.{list_all}
use Rattle.pay_rules.specs.declared.tap.Touch.{Touch}

-- the instants of taps, in the order of the taps
abbrev pub instants_of : List Touch → List ℕ
instants_of taps = map (λ tap. tap.stamp.utc) taps

-- the tap at `i` is marked as paying
abbrev pub Pays : List Bool → ℕ → Type 0
Pays marks i = slice_get marks i ≡ Some true

-- the tap at `j` is at most `hopper` seconds before the tap at `i`
abbrev pub IsWithin : ℕ → List ℕ → ℕ → ℕ → Type 0
IsWithin hopper utcs j i = slice_index utcs i ≤ slice_index utcs j + hopper

-- a tap pays just when no earlier paying tap is at most `hopper` seconds before it
pub record IsPayingSet (hopper : ℕ) (utcs : List ℕ) (marks : List Bool) : Type 0 where
  pub one_each : length marks ≡ length utcs
  pub rule : (i : ℕ) → i < length utcs →
      Pays marks i ↔ ((j : ℕ) → j < i → Pays marks j → ¬ IsWithin hopper utcs j i)

-- whether none of the instants paid for is at most `hopper` seconds before this one
abbrev pub pays_after : ℕ → List ℕ → ℕ → Bool
pays_after hopper paid utc = list_all (λ earlier. nat_lt (earlier + hopper) utc) paid

-- which taps at these instants pay, where `paid` are all the earlier instants that were paid for
abbrev pub marks_after : ℕ → List ℕ → List ℕ → List Bool
marks_after hopper paid [] = []
marks_after hopper paid (utc ∷ later) =
    let pays = pays_after hopper paid utc in pays ∷ marks_after hopper (if pays then utc ∷ paid else paid) later

-- which taps at these instants pay
abbrev pub paying_marks : ℕ → List ℕ → List Bool
paying_marks hopper utcs = marks_after hopper [] utcs

-- an hour after 07:00 is within Hopper, and a second later is not
at_the_hour : paying_marks 3600 (1704697200 ∷ 1704700800 ∷ []) ≡ true ∷ false ∷ []
at_the_hour = refl

after_the_hour : paying_marks 3600 (1704697200 ∷ 1704700801 ∷ []) ≡ true ∷ true ∷ []
after_the_hour = refl

-- the second tap does not pay, so the third is measured from the first
from_the_last_paying : paying_marks 3600 (1704697200 ∷ 1704700200 ∷ 1704702200 ∷ []) ≡ true ∷ false ∷ true ∷ []
from_the_last_paying = refl

-- a tap that comes to stand before them moves the paying ones
with_one_before : paying_marks 3600 (1704696200 ∷ 1704697200 ∷ 1704700200 ∷ 1704702200 ∷ []) ≡ true ∷ false ∷ true ∷ false ∷ []
with_one_before = refl

-- of two taps at one instant the second does not pay
at_one_instant : paying_marks 3600 (1704697200 ∷ 1704697200 ∷ []) ≡ true ∷ false ∷ []
at_one_instant = refl
