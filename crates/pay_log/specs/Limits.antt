-- How often a line of one kind is said.
use Rattle.std.specs.Prelude.{◌≡◌, ◌≤◌, ◌+◌, ℕ, Option, Some, IfSome, min, refl}

-- a second has passed since the last one, in milliseconds
abbrev pub IsDue : Option ℕ → ℕ → Type 0
IsDue last now = IfSome last (λ before. before + 1_000 ≤ now)

-- one more than a count, which stays at the most that it can be
abbrev pub one_more : ℕ → ℕ
one_more count = min (count + 1) 18_446_744_073_709_551_615

-- ---- worked rows

one_more_of_eleven : one_more 11 ≡ 12
one_more_of_eleven = refl

-- no count begins anew
one_more_of_the_most : one_more 18_446_744_073_709_551_615 ≡ 18_446_744_073_709_551_615
one_more_of_the_most = refl

due_after_a_second : IsDue (Some 5_000) 6_000 ≡ (6_000 ≤ 6_000)
due_after_a_second = refl
