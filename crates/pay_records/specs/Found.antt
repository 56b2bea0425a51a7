-- What is found in the tables of a ledger.
use Rattle.std.specs.Prelude.{ℤ, Bool, ◌&&◌, int_le, List, map, filter, flat_map}
use Rattle.std.specs.Ordering.{int_eq}
use Rattle.sqlite.specs.State.{State, IsUnchanged}
use Rattle.pay_rows.specs.declared.row.PostingRow.{PostingRow}
use Rattle.pay_rows.specs.declared.row.ShareRow.{ShareRow}
use Rattle.pay_rows.specs.declared.row.TapRow.{TapRow}
use Rattle.pay_rows.specs.declared.row.FixRow.{FixRow}
use Rattle.pay_records.specs.Rows.{LedgerRows, HoldsRows}
use Rattle.pay_records.specs.FirstVersion.{HoldsFirst}

-- where the database is a ledger, this is so of its rows, and nothing changes
abbrev pub Finds : State → State → (LedgerRows → Type 0) → Type 0
Finds old new Found = (rows : LedgerRows) → HoldsRows old.now rows → Found rows × IsUnchanged old new

-- where it is a ledger of version 1, this is so of its rows, and nothing changes
abbrev pub FindsFirst : State → State → (LedgerRows → Type 0) → Type 0
FindsFirst old new Found = (rows : LedgerRows) → HoldsFirst old.now rows → Found rows × IsUnchanged old new

-- the postings of an account, each beside its number
abbrev pub postings_of : ℤ → LedgerRows → List (ℤ × PostingRow)
postings_of account l = map (λ (p : ℤ × ℤ × PostingRow). (p.0, p.2)) (filter (λ (p : ℤ × ℤ × PostingRow). int_eq p.1 account) l.postings)

-- and the shares of these
abbrev pub shares_of : ℤ → LedgerRows → List ShareRow
shares_of account l = flat_map (λ (p : ℤ × PostingRow). filter (λ (s : ShareRow). int_eq s.posting p.0) l.shares) (postings_of account l)

-- the archived taps of an account
abbrev pub taps_of : ℤ → LedgerRows → List TapRow
taps_of account l = map (λ (t : ℤ × TapRow). t.1) (filter (λ (t : ℤ × TapRow). int_eq t.0 account) l.taps)

-- and its corrections
abbrev pub fixes_of : ℤ → LedgerRows → List FixRow
fixes_of account l = map (λ (f : ℤ × FixRow). f.1) (filter (λ (f : ℤ × FixRow). int_eq f.0 account) l.fixes)

-- of rows that each stand beside an account, those of one
abbrev pub rows_of : {A : Type 0} → ℤ → List (ℤ × A) → List A
rows_of {A} account list = map (λ (r : ℤ × A). r.1) (filter (λ (r : ℤ × A). int_eq r.0 account) list)

-- ---- of a stretch of accounts, each row beside its account

-- an account is one of these numbers
abbrev pub is_between : ℤ → ℤ → ℤ → Bool
is_between from through account = int_le from account && int_le account through

-- postings, each beside its account, and beside its number
abbrev pub postings_between : ℤ → ℤ → LedgerRows → List (ℤ × (ℤ × PostingRow))
postings_between from through l =
    map (λ (p : ℤ × ℤ × PostingRow). (p.1, (p.0, p.2))) (filter (λ (p : ℤ × ℤ × PostingRow). is_between from through p.1) l.postings)

-- and the shares of these
abbrev pub shares_between : ℤ → ℤ → LedgerRows → List (ℤ × ShareRow)
shares_between from through l =
    flat_map (λ (p : ℤ × (ℤ × PostingRow)). map (λ (s : ShareRow). (p.0, s)) (filter (λ (s : ShareRow). int_eq s.posting p.1.0) l.shares)) (postings_between from through l)

-- archived taps
abbrev pub taps_between : ℤ → ℤ → LedgerRows → List (ℤ × TapRow)
taps_between from through l = filter (λ (t : ℤ × TapRow). is_between from through t.0) l.taps

-- and corrections
abbrev pub fixes_between : ℤ → ℤ → LedgerRows → List (ℤ × FixRow)
fixes_between from through l = filter (λ (f : ℤ × FixRow). is_between from through f.0) l.fixes

-- ---- of all accounts

-- the account of each posting, of each archived tap and of each correction
abbrev pub posted_accounts : LedgerRows → List ℤ
posted_accounts l = map (λ (p : ℤ × ℤ × PostingRow). p.1) l.postings

abbrev pub tapped_accounts : LedgerRows → List ℤ
tapped_accounts l = map (λ (t : ℤ × TapRow). t.0) l.taps

abbrev pub fixed_accounts : LedgerRows → List ℤ
fixed_accounts l = map (λ (f : ℤ × FixRow). f.0) l.fixes
