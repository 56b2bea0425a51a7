-- The items of one sender.
use Rattle.std.specs.Prelude.{ℕ, eqb, List, filter}

-- of the items, those that are from the sender p, in their order
abbrev pub of : {T : Type 0} → (T → ℕ) → ℕ → List T → List T
of sender p items = filter (λ x. eqb (sender x) p) items
