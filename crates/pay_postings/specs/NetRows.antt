-- What was charged for a week less what was given back, by the rows of an account's postings alone.
use Rattle.std.specs.Prelude.{◌≡◌, ℕ, ◌&&◌, if◌then◌else◌, ℤ, pos, ◌+ℤ◌, List, [], ◌∷◌, Option, Some, None, refl}
use Rattle.std.specs.Ordering.{int_eq}
use Rattle.pay_rules.specs.declared.posting.Posting.{Posting}
use Rattle.pay_rows.specs.declared.row.PostingRow.{PostingRow}
use Rattle.pay_rows.specs.declared.row.ShareRow.{ShareRow}
use Rattle.pay_postings.specs.Postings.{net}
use Rattle.pay_set_rows.specs.Ranged.{◌>>=◌}
use Rattle.pay_postings.specs.PostingRows.{is_money, postings_from_rows, charge_row, refund_row}

-- with the amount of a further row of the week: none where that is no sum of money, by itself or with those before it
abbrev pub with_amount_of : ℕ → ℤ → PostingRow → Option ℤ
with_amount_of week so_far row =
    if int_eq row.week (pos week) then (if is_money row.amount && is_money (so_far +ℤ row.amount) then Some (so_far +ℤ row.amount) else None) else Some so_far

-- with those of several, one after another
abbrev pub with_amounts_of : ℕ → ℤ → List (ℤ × PostingRow) → Option ℤ
with_amounts_of week so_far [] = Some so_far
with_amounts_of week so_far (numbered ∷ rows) = do
  now ← with_amount_of week so_far numbered.1
  with_amounts_of week now rows

-- the sum of the amounts of a week
abbrev pub net_from_rows : ℕ → List (ℤ × PostingRow) → Option ℤ
net_from_rows week rows = with_amounts_of week (pos 0) rows

-- where rows say postings, it is the net of these
abbrev pub NetIsOfPostings : Type 0
NetIsOfPostings = (account week : ℕ) (rows : List (ℤ × PostingRow)) (shares : List ShareRow) (list : List Posting) → postings_from_rows account rows shares ≡ Some list → net_from_rows week rows ≡ Some (net account week list)

-- ---- worked rows

what_is_left : net_from_rows 19_730 ((pos 1, charge_row) ∷ (pos 4, refund_row) ∷ []) ≡ Some (pos 340)
unfolding charge_row refund_row
what_is_left = refl

other_week : net_from_rows 19_737 ((pos 1, charge_row) ∷ (pos 4, refund_row) ∷ []) ≡ Some (pos 0)
unfolding charge_row refund_row
other_week = refl

-- an amount beyond all sums of money makes it bad, and one of another week does not
beyond : net_from_rows 19_730 ((pos 1, record charge_row { amount = pos 4_000_000_001 }) ∷ []) ≡ None
unfolding charge_row
beyond = refl

beyond_of_other_week : net_from_rows 19_737 ((pos 1, record charge_row { amount = pos 4_000_000_001 }) ∷ []) ≡ Some (pos 0)
unfolding charge_row
beyond_of_other_week = refl
