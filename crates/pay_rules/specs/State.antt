-- What several accounts have accepted, and that all of them are priced by one fare file.
use Rattle.std.specs.Prelude.{ℕ, ◌≤◌, List, unwrap_or}
use Rattle.std.specs.Coded.{Coded, coded_ℕ}
use Rattle.std.specs.FinMap as map
use Rattle.std.specs.FinMap.{FinMap}
use Rattle.std.specs.List.{AllByRecursion}
use Rattle.std.specs.Ordering.{nat_cmp}
use Rattle.pay_rules.specs.Accepted.{Accepted, accepted_code, nothing}

-- an account that has accepted nothing counts like one that is not in the map
abbrev pub State : Type 0
State = FinMap nat_cmp Accepted

-- the code that a model of this type needs
abbrev pub state_code : Coded State
state_code = map.code coded_ℕ accepted_code

-- what an account has accepted
abbrev pub accepted_of : State → ℕ → Accepted
accepted_of state account = unwrap_or (map.get state account) nothing

-- each account may be priced by the fare file, and they count from 1
abbrev pub ArePriced : {F : Type 0} → (F → ℕ) → (F → Type 0) → List F → Type 0
ArePriced account IsPriced = AllByRecursion (λ a. (1 ≤ account a) × IsPriced a)
