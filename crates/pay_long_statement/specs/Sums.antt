-- What the columns of rows add up to.
use Rattle.std.specs.Prelude.{◌≡◌, ℕ, ℤ, pos, negsuc, List, [], ◌∷◌, map, sum_by, refl}
use Rattle.pay_postings.specs.Words.{total}
use Rattle.pay_long_statement.specs.declared.row.Amount.{Amount}
use Rattle.pay_long_statement.specs.declared.row.Amount.TheVariants.{Due, Off, Posted}
use Rattle.pay_long_statement.specs.declared.row.Row.{Row}
use Rattle.pay_long_statement.specs.declared.row.RowKind.TheVariants as kind
use Rattle.pay_long_statement.specs.Rows.{sum_row}

-- the amounts of one column: those above 0, and those below 0 without their hyphens
abbrev pub due_of : Amount → ℕ
due_of (Due pence) = pence
due_of (Off pence) = 0
due_of (Posted pence) = 0

abbrev pub off_of : Amount → ℕ
off_of (Due pence) = 0
off_of (Off pence) = pence
off_of (Posted pence) = 0

-- and that of the other
abbrev pub posted_of : Amount → ℤ
posted_of (Due pence) = pos 0
posted_of (Off pence) = pos 0
posted_of (Posted pence) = pence

-- what rows add to what is due, and what they take off
abbrev pub added : List Row → ℕ
added rows = sum_by (λ (row : Row). due_of row.amount) rows

abbrev pub taken_off : List Row → ℕ
taken_off rows = sum_by (λ (row : Row). off_of row.amount) rows

-- what was charged by their postings, less what was given back
abbrev pub posted : List Row → ℤ
posted rows = total (map (λ (row : Row). posted_of row.amount) rows)

-- ---- worked rows: three journeys at 340, less 130 by a cap and a Credit of 100, and postings of 890 and of -100

abbrev of_a_week : List Row
of_a_week =
    sum_row kind.Rail 19_730 (Due 340) ∷ sum_row kind.Rail 19_730 (Due 340) ∷ sum_row kind.Rail 19_730 (Due 340) ∷ sum_row kind.Cap 19_730 (Off 130)
    ∷ sum_row kind.Credit 19_730 (Off 100) ∷ sum_row kind.Posted 19_730 (Posted (pos 890)) ∷ sum_row kind.Posted 19_731 (Posted (negsuc 99)) ∷ []

three_journeys : added of_a_week ≡ 1_020
three_journeys = refl

cap_and_credit : taken_off of_a_week ≡ 230
cap_and_credit = refl

less_than_before : posted of_a_week ≡ pos 790
less_than_before = refl
