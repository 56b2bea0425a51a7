-- How accounts are kept while they are restored: each at its number.
use Rattle.std.specs.Prelude.{◌≡◌, ℕ, ◌≤◌, List, map}
use Rattle.std.specs.FinMap as finite
use Rattle.std.specs.List.{AllByRecursion}
use Rattle.pay_tables.specs.Words.{FareEditions}
use Rattle.pay_rules.specs.Accepted.{Accepted}
use Rattle.pay_rules.specs.State.{State}

-- what accounts have accepted, by the numbers that they are kept at
unfoldable pub held : {F : Type 0} → (F → Accepted) → List (ℕ × F) → State
held accepted entries = finite.from_entries (map (λ e. (e.0, accepted e.1)) entries)

-- an account is kept at its own number, counted from 1, and may be priced by the fare file
abbrev pub IsFiled : {F : Type 0} → (F → ℕ) → (F → Type 0) → ℕ × F → Type 0
IsFiled account IsPriced entry = (account entry.1 ≡ entry.0) × (1 ≤ entry.0) × IsPriced entry.1

-- and so is each
abbrev pub AreFiled : {F : Type 0} → (F → ℕ) → (F → Type 0) → List (ℕ × F) → Type 0
AreFiled account IsPriced = AllByRecursion (IsFiled account IsPriced)

-- and so is each after one more that may be priced by a fare file was put to them, where each was before
abbrev pub AreFiledWith : {F : Type 0} → (F → ℕ) → (FareEditions → F → Type 0) → F → List (ℕ × F) → List (ℕ × F) → Type 0
AreFiledWith account IsPricedBy more before after =
    (editions : FareEditions) → IsPricedBy editions more → AreFiled account (IsPricedBy editions) before → AreFiled account (IsPricedBy editions) after
