-- What is kept beside a journal, as a text.
use Rattle.std.specs.Prelude.{ℕ, Bool, true, false, List, ◌++◌, codes}

-- the end of the line before it, and the line that says whether days are closed into a ledger in a file
abbrev pub ledger_line : Bool → List ℕ
ledger_line true = codes "\n# with a ledger\n"
ledger_line false = codes "\n# without a ledger\n"

-- a line with the zone, that line, and then a fare file
abbrev pub kept_text : (zone : List ℕ) → Bool → (fares : List ℕ) → List ℕ
kept_text zone has_ledger fares = codes "# zone " ++ (zone ++ (ledger_line has_ledger ++ fares))
