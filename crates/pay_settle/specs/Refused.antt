-- Why accounts are refused that stand in two ledgers.
use Rattle.std.specs.Prelude.{◌≡◌, ◌≢◌, ⊤, ℕ, List, Option, Some}
use Rattle.pay_settle.specs.declared.fault.SettleFault.{SettleFault}
use Rattle.pay_settle.specs.declared.fault.SettleFault.TheVariants.{Shared, Shares, TooLarge, Memory}
use Rattle.pay_settle.specs.Standing.{StandsInBoth}

-- an account stands elsewhere already, or memory is refused
abbrev pub IsElsewhere : SettleFault → ℕ → ℕ → Option ℕ → Type 0
IsElsewhere (Shared named first second) account place home = (named ≡ account) × (second ≡ place) × (home ≡ Some first) × (first ≢ place)
IsElsewhere Memory account place home = ⊤
IsElsewhere (Shares named week) account place home = ⊥
IsElsewhere TooLarge account place home = ⊥

-- an account stands in two of these ledgers, or memory is refused
abbrev pub IsWhyShared : List (List ℕ) → SettleFault → Type 0
IsWhyShared ledgers (Shared account first second) = StandsInBoth ledgers account first second
IsWhyShared ledgers Memory = ⊤
IsWhyShared ledgers (Shares account week) = ⊥
IsWhyShared ledgers TooLarge = ⊥
