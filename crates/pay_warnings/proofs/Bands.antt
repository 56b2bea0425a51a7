-- Where there are bands, nothing is said of them.
use Rattle.std.proofs.Common.{◌≡◌, ℕ, ◌≤◌, List, [], ◌∷◌, Option, length, refl, arith}
use Rattle.toml.specs.View.{items_view}
use Rattle.toml.specs.declared.value.Value.{Value}
use Rattle.pay_warnings.specs.Warnings.{unless_any}

pub nothing_where_any : (day : Option ℕ) (vs : List Value) → 1 ≤ length vs → unless_any day (items_view vs) ≡ []
nothing_where_any day [] some = absurd (omega (arith, some))
nothing_where_any day (v ∷ vs) some = refl
