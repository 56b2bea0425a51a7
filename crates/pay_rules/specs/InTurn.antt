-- Additions to a set, one after another.
use Rattle.std.specs.Prelude.{◌≡◌, ◌⊎◌, ◌↔◌, ℕ, Bool, ⊤, List, [], ◌∷◌, IsOk}
use Rattle.pay_rules.specs.Numbers.{ByNumber, judged, set_after}

-- a set after one more came
abbrev pub after : {X : Type 0} → (X → X → Bool) → (X → ℕ × ℕ) → ℕ → ByNumber X → X → ByNumber X
after same number most set x = set_after number (judged same number most set x) set x

-- and after all of a list came, one after another
abbrev pub after_all : {X : Type 0} → (X → X → Bool) → (X → ℕ × ℕ) → ℕ → ByNumber X → List X → ByNumber X
after_all same number most set [] = set
after_all same number most set (x ∷ later) = after_all same number most (after same number most set x) later

-- none of them is refused when its turn comes
abbrev pub AreTaken : {X : Type 0} → (X → X → Bool) → (X → ℕ × ℕ) → ℕ → ByNumber X → List X → Type 0
AreTaken same number most set [] = ⊤
AreTaken same number most set (x ∷ later) = IsOk (judged same number most set x) × AreTaken same number most (after same number most set x) later

-- one of a list
abbrev pub IsIn : {X : Type 0} → List X → X → Type 0
IsIn [] y = ⊥
IsIn (x ∷ list) y = (x ≡ y) ⊎ IsIn list y

-- two lists have the same ones, in whatever order and however often
abbrev pub HaveTheSame : {X : Type 0} → List X → List X → Type 0
HaveTheSame {X = X} list other = (x : X) → IsIn list x ↔ IsIn other x
