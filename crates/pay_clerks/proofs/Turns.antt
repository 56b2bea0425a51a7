-- One line more.
use Rattle.std.proofs.Common.{◌≡◌, ℕ, ◌+◌, ◌<◌, List, length, get_or, drop, Ok, refl, arith}
use Rattle.std.proofs.Math.ListN.{drop_of_length-le}
use Rattle.std.proofs.lemmas.List.{drop_more}
use Rattle.pay_clerks.specs.Clerks.{ClerkOf}
use Rattle.pay_clerks.specs.Files.{with_line, with_lines}

-- the clerks with the lines from a place on are those with the line there, and then with the others
pub turn : (place : ℕ) (lines : List (List ℕ)) (line : List ℕ) (clerks : List ClerkOf) → place < length lines → line ≡ get_or lines place line
    → with_lines (place + 1) (Ok clerks) (drop place lines) ≡ with_lines (place + 1 + 1) (with_line (place + 1) clerks line) (drop (place + 1) lines)
turn place lines line clerks here is = rw (drop_more lines place line here, ← is) refl

-- after the last line there is none
pub last : (place : ℕ) (lines : List (List ℕ)) (clerks : List ClerkOf) → place ≡ length lines → with_lines (place + 1) (Ok clerks) (drop place lines) ≡ Ok clerks
last place lines clerks end = rw (drop_of_length-le lines {i = place} (omega arith)) refl
