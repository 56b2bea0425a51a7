-- Whether a posting was made, and which one is the newest.
use Rattle.std.specs.Prelude.{◌≡◌, ◌&&◌, ◌==◌, ◌-◌, ◌^◌, ℕ, ℤ, pos, negsuc, Bool, true, false, List, [], ◌∷◌, Option, Some, None, option_map, Result, Ok, Err, MatchResult, refl}
use Rattle.std.specs.List.{list_any, last_or}
use Rattle.std.specs.Ordering.{int_eq}
use Rattle.pay_rows.specs.declared.row.PostingRow.{PostingRow}
use Rattle.pay_rules.specs.declared.posting.Posting.{Posting}
use Rattle.pay_rules.specs.declared.post_fault.PostFault.{PostFault}
use Rattle.pay_rules.specs.declared.post_fault.PostFault.TheVariants.{BadArchive}
use Rattle.pay_set_rows.specs.Ranged.{◌>>=◌, ranged}
use Rattle.pay_postings.specs.Words.{postings_of}
use Rattle.pay_records.specs.Words.{LedgerRows}
use Rattle.pay_records.specs.Found as found
use Rattle.pay_ledger.specs.declared.fault.LedgerFault.{LedgerFault}
use Rattle.pay_ledger.specs.declared.fault.LedgerFault.TheVariants.{Refused}
use Rattle.pay_ledger.specs.declared.last.LastPosting.{LastPosting}

-- ---- whether a posting was made

-- a posting of its account and week is through its day and for its version
abbrev pub is_of : LastPosting → Posting → Bool
is_of last p = (last.through == p.quote.through) && (last.version == p.quote.version)

-- one of these postings is it, whatever its number is
abbrev pub has_posting : LastPosting → List Posting → Bool
has_posting last all = list_any (is_of last) (postings_of last.account last.week all)

-- a number is the one that is known, if one is
abbrev pub is_number : Option ℤ → ℤ → Bool
is_number None id = true
is_number (Some known) id = int_eq known id

-- a row of its account, beside its number, is of its week, through its day and for its version, and has its number
abbrev pub is_row_of : LastPosting → ℤ × PostingRow → Bool
is_row_of last n = int_eq n.1.week (pos last.week) && int_eq n.1.through (pos last.through) && int_eq n.1.version (pos last.version) && is_number last.id n.0

-- one of the rows is its
abbrev pub has_row : LastPosting → LedgerRows → Bool
has_row last rows = list_any (is_row_of last) (found.postings_of (pos last.account) rows)

-- of a ledger a posting that is told to be there was made, and one that was made is told, if its number is not asked
pub record IsHad (last : LastPosting) (postings : List Posting) (has : Bool) : Type 0 where
  pub made : has ≡ true → has_posting last postings ≡ true
  pub told : last.id ≡ None → has ≡ has_posting last postings

-- ---- the newest posting

-- the greatest number of 32 bits
abbrev pub most_number : ℕ
most_number = 2 ^ 32 - 1

-- the posting of a row, by its number and its account, if each number of its quote has 32 bits
abbrev pub posting_at : ℤ × ℤ × PostingRow → Option LastPosting
posting_at row = do
  account ← ranged 0 most_number row.1
  week ← ranged 0 most_number row.2.week
  through ← ranged 0 most_number row.2.through
  version ← ranged 0 most_number row.2.version
  Some (record { account = account; week = week; through = through; version = version; id = Some row.0 })

abbrev pub known_or_bad : Option LastPosting → Result (Option LastPosting) PostFault
known_or_bad None = Err BadArchive
known_or_bad (Some posting) = Ok (Some posting)

-- the posting of a row that is the last one, if there is one
abbrev pub newest_of : Option (ℤ × ℤ × PostingRow) → Result (Option LastPosting) PostFault
newest_of None = Ok None
newest_of (Some row) = known_or_bad (posting_at row)

-- the newest posting of a ledger is that of the last row: the numbers of the rows rise
abbrev pub newest_in : LedgerRows → Result (Option LastPosting) PostFault
newest_in rows = newest_of (last_or None rows.postings)

-- an answer is what the last of the rows of an account comes to, or 45 where that is bad
abbrev pub IsNewestOf : ℤ → List (ℤ × PostingRow) → Result (Option LastPosting) LedgerFault → Type 0
IsNewestOf account rows result =
    let said = newest_of (option_map (λ (n : ℤ × PostingRow). (n.0, account, n.1)) (last_or None rows)) in
    MatchResult result (λ newest. said ≡ Ok newest) (λ fault. (fault ≡ Refused BadArchive) × (said ≡ Err BadArchive))

-- ---- worked rows: account 7 was posted through Thursday of a week, for three taps, as number 41

posted : Posting
posted = record { quote = record { account = 7; week = 19_730; through = 19_733; version = 3; due = 525; edition = 4; shares = [] }; amount = pos 525; share_amounts = [] }

it : LastPosting
it = record { account = 7; week = 19_730; through = 19_733; version = 3; id = Some (pos 41) }

made : has_posting it (posted ∷ []) ≡ true
unfolding it posted
made = refl

-- not for the two taps of before
not_before : has_posting (record { account = 7; week = 19_730; through = 19_733; version = 2; id = None }) (posted ∷ []) ≡ false
unfolding posted
not_before = refl

-- nor for another account
not_of_another : has_posting (record { account = 8; week = 19_730; through = 19_733; version = 3; id = None }) (posted ∷ []) ≡ false
unfolding posted
not_of_another = refl

its_row : PostingRow
its_row = record { week = pos 19_730; through = pos 19_733; version = pos 3; due = pos 525; amount = pos 525; edition = pos 4 }

-- after one of account 8, which is number 40
rows : LedgerRows
rows = record { postings = (pos 40, pos 8, its_row) ∷ (pos 41, pos 7, its_row) ∷ []; shares = []; taps = []; fixes = [] }

row_is_there : has_row it rows ≡ true
unfolding it rows its_row
row_is_there = refl

-- not under another number, as a ledger that a drill closed may have it
not_as_number_40 : has_row (record { account = 7; week = 19_730; through = 19_733; version = 3; id = Some (pos 40) }) rows ≡ false
unfolding rows its_row
not_as_number_40 = refl

-- which is not asked where none was noted
as_any_number : has_row (record { account = 7; week = 19_730; through = 19_733; version = 3; id = None }) rows ≡ true
unfolding rows its_row
as_any_number = refl

-- the number of another account's posting is not enough
not_by_number : has_row (record { account = 7; week = 19_730; through = 19_733; version = 2; id = Some (pos 41) }) rows ≡ false
unfolding rows its_row
not_by_number = refl

newest : newest_in rows ≡ Ok (Some it)
unfolding it rows its_row
newest = refl

nothing_posted : newest_in (record { postings = []; shares = []; taps = []; fixes = [] }) ≡ Ok None
nothing_posted = refl

-- an account below 0 is none
bad_account : newest_in (record { postings = (pos 41, negsuc 6, its_row) ∷ []; shares = []; taps = []; fixes = [] }) ≡ Err BadArchive
unfolding its_row
bad_account = refl
