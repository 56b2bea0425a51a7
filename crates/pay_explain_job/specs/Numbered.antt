-- What an account has accepted, each tap and each correction at its number.
use Rattle.std.specs.Prelude.{ℕ, List, map}
use Rattle.std.specs.FinMap.{from_entries, values}
use Rattle.pay_rules.specs.Accepted.{Accepted}
use Rattle.pay_rules.specs.Numbers.{ByNumber}
use Rattle.pay_rules.specs.Fixes.{number as fix_number}
use Rattle.pay_rules.specs.Taps.{number as tap_number}

-- the set of a list
abbrev pub set_of : {X : Type 0} → (X → ℕ × ℕ) → List X → ByNumber X
set_of number list = from_entries (map (λ x. (number x, x)) list)

-- all that was accepted, which is the same where each stands at its number
abbrev pub numbered : Accepted → Accepted
numbered accepted = record { taps = set_of tap_number (values accepted.taps); fixes = set_of fix_number (values accepted.fixes) }
