-- The rows of an account among those of all: its postings beside their numbers, and their shares.
use Rattle.std.specs.Prelude.{◌≡◌, ⊤, ℕ, ◌==◌, Bool, ℤ, ◌<ℤ◌, List, [], ◌∷◌, map, filter, flat_map, replicate, pos, refl}
use Rattle.std.specs.List.{zip}
use Rattle.pay_rules.specs.declared.posting.Posting.{Posting}
use Rattle.pay_rows.specs.declared.row.PostingRow.{PostingRow}
use Rattle.pay_rows.specs.declared.row.ShareRow.{ShareRow}
use Rattle.pay_postings.specs.PostingRows.{posting_row, share_rows}

-- whether a posting is of an account
abbrev pub is_of_account : ℕ → Posting → Bool
is_of_account account posting = posting.quote.account == account

-- the postings of an account, in order
abbrev pub of_account : ℕ → List Posting → List Posting
of_account account list = filter (is_of_account account) list

-- and each beside its number
abbrev pub numbered_of : ℕ → List ℤ → List Posting → List (ℤ × Posting)
numbered_of account ids list = filter (λ n. is_of_account account n.1) (zip ids list)

-- their rows
abbrev pub rows_of : ℕ → List ℤ → List Posting → List (ℤ × PostingRow)
rows_of account ids list = map (λ n. (n.0, posting_row n.1)) (numbered_of account ids list)

-- the rows of their shares
abbrev pub shares_of : ℕ → List ℤ → List Posting → List ShareRow
shares_of account ids list = flat_map (λ n. share_rows n.0 n.1) (numbered_of account ids list)

-- each number is greater than the one before it, the first one than a given number
abbrev pub RiseAfter : ℤ → List ℤ → Type 0
RiseAfter number [] = ⊤
RiseAfter number (id ∷ ids) = (number <ℤ id) × RiseAfter id ids

-- ---- worked rows

-- a posting of a week by the edition from day 4 on, all of which falls to operator 2
charged : ℕ → ℕ → Posting
charged account due = record {
  quote = record { account = account; week = 19_730; through = 19_731; version = 3; due = due; edition = 4; shares = 0 ∷ due ∷ replicate 14 0 };
  amount = pos due;
  share_amounts = pos 0 ∷ pos due ∷ replicate 14 (pos 0);
}

row_of_one_account : rows_of 7 (pos 2 ∷ pos 5 ∷ []) (charged 8 175 ∷ charged 7 340 ∷ []) ≡ (pos 5, record { week = pos 19_730; through = pos 19_731; version = pos 3; due = pos 340; amount = pos 340; edition = pos 4 }) ∷ []
unfolding charged
row_of_one_account = refl

share_of_one_account : shares_of 7 (pos 2 ∷ pos 5 ∷ []) (charged 8 175 ∷ charged 7 340 ∷ []) ≡ record { posting = pos 5; operator = pos 2; amount = pos 340 } ∷ []
unfolding charged
share_of_one_account = refl
