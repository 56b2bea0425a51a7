-- The line with which a connection has to begin, where it has to.
use Rattle.std.specs.Prelude.{◌≡◌, ℕ, nat_eq, nat_le, Bool, true, false, List, [], ◌∷◌, ◌++◌, length, codes, replicate, Option, Some, None, if◌then◌else◌, refl}
use Rattle.std.specs.List.{starts_with}

-- A connection was greeted by the bytes that came: they begin with the greeting as a line of its own, or none is awaited.
unfoldable pub is_greeted : Option (List ℕ) → List ℕ → Bool
is_greeted None bytes = true
is_greeted (Some greeting) bytes = starts_with nat_eq bytes (greeting ++ 10 ∷ [])

-- the reply to a first line that is no greeting
abbrev pub refusal_of : List ℕ → List ℕ
refusal_of line = if nat_le (length line) 128 then codes "NO 50 BadLine\n" else codes "NO 51 LongLine\n"

-- What is written while the greeting is awaited: nothing, and the refusal of a line that is none, which is the last that is taken.
abbrev pub RefusesAlone : Bool → List ℕ → List ℕ → Type 0
RefusesAlone false before after = after ≡ before
RefusesAlone true before after = (line : List ℕ) × (after ≡ before ++ refusal_of line)

-- Bytes came: with what was begun, they greet as what is now begun and pending does, whatever comes behind. Each state is what is awaited
-- and what is begun, and after that what is pending.
abbrev pub Greets : Option (List ℕ) × List ℕ → List ℕ → Option (List ℕ) × List ℕ × List ℕ → Type 0
Greets before bytes after = (more : List ℕ) → is_greeted before.0 (before.1 ++ (bytes ++ more)) ≡ is_greeted after.0 (after.1 ++ (after.2 ++ more))

-- ---- worked rows

greeted : is_greeted (Some (codes "let me in")) (codes "let me in\nTAP") ≡ true
unfolding is_greeted
greeted = refl

-- without its newline, as a front of a line, or behind another byte it does not greet; nor does a front of it
unended : is_greeted (Some (codes "let me in")) (codes "let me in") ≡ false
unfolding is_greeted
unended = refl

longer : is_greeted (Some (codes "let me in")) (codes "let me inside\n") ≡ false
unfolding is_greeted
longer = refl

carriage_return : is_greeted (Some (codes "let me in")) (codes "let me in\r\n") ≡ false
unfolding is_greeted
carriage_return = refl

later : is_greeted (Some (codes "let me in")) (codes "\nlet me in\n") ≡ false
unfolding is_greeted
later = refl

shorter : is_greeted (Some (codes "let me in")) (codes "let me\n") ≡ false
unfolding is_greeted
shorter = refl

-- where none is awaited
anybody : is_greeted None (codes "QUIT\n") ≡ true
unfolding is_greeted
anybody = refl

-- the longest line that is refused as bad, and one byte more
bad : refusal_of (replicate 128 97) ≡ codes "NO 50 BadLine\n"
bad = refl

long : refusal_of (replicate 129 97) ≡ codes "NO 51 LongLine\n"
long = refl
