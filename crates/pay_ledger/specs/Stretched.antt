-- Accounts in order, each once, and what is read of a stretch of them.
use Rattle.std.specs.Prelude.{◌≡◌, ◌<ℤ◌, ℤ, cond, List, [], ◌∷◌, Option, Some, None, Result, IfOk, IsPermutation, ⊤}
use Rattle.std.specs.List.{AllByRecursion, list_any}
use Rattle.std.specs.Ordering.{int_eq}
use Rattle.pay_records.specs.Words.{LedgerRows, rows_of, postings_of, shares_of, taps_of, fixes_of, postings_between, shares_between, taps_between, fixes_between}
use Rattle.pay_ledger.specs.declared.stretch.Stretch.{Stretch}

-- numbers that ascend, each once
abbrev pub Ascend : List ℤ → Type 0
Ascend [] = ⊤
Ascend (number ∷ more) = AllByRecursion (λ later. number <ℤ later) more × Ascend more

-- the same numbers, in whatever order and however often
abbrev pub HaveSame : List ℤ → List ℤ → Type 0
HaveSame some others = (number : ℤ) → list_any (λ n. int_eq n number) some ≡ list_any (λ n. int_eq n number) others

-- numbers without those that equal the one before them; the first one may stand before them all
abbrev pub distinct_after : Option ℤ → List ℤ → List ℤ
distinct_after last [] = []
distinct_after None (number ∷ more) = number ∷ distinct_after (Some number) more
distinct_after (Some last) (number ∷ more) = cond (int_eq last number) (distinct_after (Some last) more) (number ∷ distinct_after (Some number) more)

-- What was read is what the rows have of the accounts from one number through another.
pub record IsBetween (rows : LedgerRows) (from through : ℤ) (stretch : Stretch) : Type 0 where
  pub postings : stretch.postings.items ≡ postings_between from through rows
  pub shares : IsPermutation (shares_between from through rows) stretch.shares.items
  pub taps : stretch.taps.items ≡ taps_between from through rows
  pub fixes : stretch.fixes.items ≡ fixes_between from through rows

-- What was read has of an account what the rows have of it.
pub record HasRowsOf (rows : LedgerRows) (stretch : Stretch) (number : ℤ) : Type 0 where
  pub postings : rows_of number stretch.postings.items ≡ postings_of number rows
  pub shares : IsPermutation (shares_of number rows) (rows_of number stretch.shares.items)
  pub taps : rows_of number stretch.taps.items ≡ taps_of number rows
  pub fixes : rows_of number stretch.fixes.items ≡ fixes_of number rows

-- and so of each of these
abbrev pub HasRowsOfEach : LedgerRows → Stretch → List ℤ → Type 0
HasRowsOfEach rows stretch numbers = AllByRecursion (HasRowsOf rows stretch) numbers

-- this is answered by the rows of which that was read
abbrev pub AnswersOfStretch : {A E : Type 0} → Result A E → Stretch → List ℤ → (LedgerRows → A → Type 0) → Type 0
AnswersOfStretch answer stretch numbers IsSo = IfOk answer (λ it. (rows : LedgerRows) → HasRowsOfEach rows stretch numbers → IsSo rows it)
