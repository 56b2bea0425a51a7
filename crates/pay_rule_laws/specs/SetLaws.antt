-- What is so of every set of what has numbers.
use Rattle.std.specs.Prelude.{◌≡◌, ℕ, Bool, List, ◌∷◌, ◌++◌, None}
use Rattle.std.specs.FinMap.{get, insert, values}
use Rattle.pay_rules.specs.Numbers.{ByNumber}
use Rattle.pay_rules.specs.InTurn.{HaveTheSame, AreTaken, after_all}

-- one more stands somewhere among the others, which stay as they stood
abbrev pub OneMoreIsAmong : {X : Type 0} → (X → ℕ × ℕ) → Type 0
OneMoreIsAmong {X = X} number = (set : ByNumber X) (x : X) → get set (number x) ≡ None
    → (before : List X) × (after : List X) × (values set ≡ before ++ after) × (values (insert set (number x) x) ≡ before ++ x ∷ after)

-- where those of one list are taken one after another, then so are those of another list that has the same ones, and the set is
-- the same in the end
abbrev pub OrderIsForgotten : {X : Type 0} → (X → X → Bool) → (X → ℕ × ℕ) → Type 0
OrderIsForgotten {X = X} same number = (most : ℕ) (set : ByNumber X) (list other : List X) → HaveTheSame list other
    → AreTaken same number most set list
    → AreTaken same number most set other × (after_all same number most set other ≡ after_all same number most set list)
