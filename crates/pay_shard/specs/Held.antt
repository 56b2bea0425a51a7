-- How accounts are kept: one beside another, and of each number its place.
use Rattle.std.specs.Prelude.{◌≡◌, ℕ, suc, cond, nat_eq, is_some, List, [], ◌∷◌, map, Option, Some, None, option_map, refl}
use Rattle.std.specs.Coded.{Coded, code_by, coded×}
use Rattle.std.specs.FinMap as finite
use Rattle.std.specs.List.Sorted.{IsStrictlySortedBy}
use Rattle.std.specs.Map.{lookup}
use Rattle.std.specs.Set.{is_member}
use Rattle.std.specs.Ordering.{nat_cmp, eq_by_cmp}
use Rattle.pay_tables.specs.EditionCodes.{fare_editions_code}
use Rattle.pay_tables.specs.Words.{FareEditions}
use Rattle.pay_rules.specs.Accepted.{Accepted}
use Rattle.pay_rules.specs.State.{State, state_code}

-- the fare file by which they are priced, and what they have accepted
pub record Held : Type 0 where
  pub editions : FareEditions
  pub state : State

abbrev pub held_code : Coded Held
held_code = code_by (FareEditions × State) (coded× fare_editions_code state_code) (λ h. (h.editions, h.state)) (λ p. record { editions = p.0; state = p.1 }) (λ _. refl)

-- where a number stands first
abbrev pub place_of : ℕ → List ℕ → Option ℕ
place_of q [] = None
place_of q (n ∷ ns) = cond (eq_by_cmp nat_cmp q n) (Some 0) (option_map suc (place_of q ns))

-- each number's place is known
abbrev pub ArePlaces : List (ℕ × ℕ) → List ℕ → Type 0
ArePlaces places numbers = (q : ℕ) → lookup (nat_eq q) places ≡ place_of q numbers

-- the numbers whose places are known, in ascending order
pub record AreNumbersOf (places : List (ℕ × ℕ)) (numbers : List ℕ) : Type 0 where
  pub ascend : IsStrictlySortedBy nat_cmp numbers
  pub same : (q : ℕ) → is_some (lookup (nat_eq q) places) ≡ is_member nat_eq numbers q

module _ {F : Type 0} (account : F → ℕ) (accepted : F → Accepted) where
  -- what accounts have accepted, by their numbers
  unfoldable pub state_of : List F → State
  state_of accounts = finite.from_entries (map (λ a. (account a, accepted a)) accounts)
