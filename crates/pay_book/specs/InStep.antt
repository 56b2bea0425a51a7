-- Days in ascending order and their sums, side by side.
use Rattle.std.specs.Prelude.{◌≡◌, ℕ, zero, suc, ◌<◌, ◌≤◌, ⊤, List, [], ◌∷◌, length}
use Rattle.std.specs.List.{AllByRecursion}
use Rattle.pay_caps.specs.Words.{CellSums}

-- each day comes before those after it
abbrev pub AreRising : List ℕ → Type 0
AreRising [] = ⊤
AreRising (day ∷ others) = AllByRecursion (λ other. day < other) others × AreRising others

-- where a day stands among days, or would stand: after those before it
abbrev pub IsPlaceOf : ℕ → List ℕ → ℕ → Type 0
IsPlaceOf day [] place = place ≡ 0
IsPlaceOf day (other ∷ others) zero = day ≤ other
IsPlaceOf day (other ∷ others) (suc place) = (other < day) × IsPlaceOf day others place

-- the days rise, and each has its sums
pub record AreInStep (days : List ℕ) (sums : List CellSums) : Type 0 where
  pub as_long : length days ≡ length sums
  pub rising : AreRising days
