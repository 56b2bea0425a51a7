-- The clerks of a staff file.
use Rattle.std.specs.Prelude.{ℕ, ◌+◌, ◌==◌, nat_le, Bool, if◌then◌else◌, List, [], ◌∷◌, ◌++◌, length, Option, Some, None, Result, Ok, Err}
use Rattle.std.specs.List.{list_any, slice_split}
use Rattle.pay_clerks.specs.Clerks.{ClerkOf}
use Rattle.pay_clerks.specs.Lines.{clerk_of_line, is_skipped}
use Rattle.pay_clerks.specs.declared.fault.ClerksFault.{ClerksFault}
use Rattle.pay_clerks.specs.declared.fault.ClerksFault.TheVariants.{Line, Many, Repeated}
use Rattle.pay_clerks.specs.declared.limits.TheConstants.{MOST_CLERKS}

-- one of the clerks has a staff number
abbrev pub has_staff : ℕ → List ClerkOf → Bool
has_staff staff clerks = list_any (λ (clerk : ClerkOf). clerk.staff == staff) clerks

-- the clerks with one more, whose number none of them has, and of whom there may be 1,000
abbrev pub with_clerk : ℕ → List ClerkOf → Option ClerkOf → Result (List ClerkOf) ClerksFault
with_clerk number clerks None = Err (Line number)
with_clerk number clerks (Some clerk) =
    if has_staff clerk.staff clerks then Err (Repeated number)
    else if nat_le MOST_CLERKS (length clerks) then Err Many
    else Ok (clerks ++ clerk ∷ [])

-- the clerks with the one of the line of this number, if it has one
abbrev pub with_line : ℕ → List ClerkOf → List ℕ → Result (List ClerkOf) ClerksFault
with_line number clerks line = if is_skipped line then Ok clerks else with_clerk number clerks (clerk_of_line line)

-- the clerks with those of lines, of which the first has this number
abbrev pub with_lines : ℕ → Result (List ClerkOf) ClerksFault → List (List ℕ) → Result (List ClerkOf) ClerksFault
with_lines number (Err fault) lines = Err fault
with_lines number (Ok clerks) [] = Ok clerks
with_lines number (Ok clerks) (line ∷ lines) = with_lines (number + 1) (with_line number clerks line) lines

-- the lines of a text, which end at newlines, 10
abbrev pub lines_of : List ℕ → List (List ℕ)
lines_of text = slice_split (λ (byte : ℕ). byte == 10) text

-- the clerks of a file, whose lines are counted from 1
abbrev pub clerks_of_text : List ℕ → Result (List ClerkOf) ClerksFault
clerks_of_text text = with_lines 1 (Ok []) (lines_of text)
