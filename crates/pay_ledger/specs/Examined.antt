-- The accounts of a ledger, what is so of each that was looked at, and what of one of which something was found.
use Rattle.std.specs.Prelude.{◌≡◌, ◌≤◌, ◌<◌, ℕ, ◌<ℤ◌, ℤ, pos, List, map, length, take, slice_index_or, ◌++◌}
use Rattle.std.specs.List.{AllByRecursion, Contains}
use Rattle.pay_rules.specs.declared.posting.Posting.{Posting}
use Rattle.pay_rules.specs.declared.tap.Tap.{Tap}
use Rattle.pay_rules.specs.declared.fix.Fix.{Fix}
use Rattle.pay_postings.specs.Words.{LedgerParts, ArchivedParts, archived_of}
use Rattle.pay_records.specs.Words.{LedgerRows}
use Rattle.pay_records.specs.Found.{posted_accounts, tapped_accounts, fixed_accounts}
use Rattle.pay_ledger.specs.BadRows.{IsReadFrom}

-- the accounts of all postings, archived taps and archived corrections, by the rows
abbrev pub accounts : LedgerRows → List ℤ
accounts rows = (posted_accounts rows ++ tapped_accounts rows) ++ fixed_accounts rows

-- and by what a ledger has
abbrev pub accounts_in : LedgerParts → List ℕ
accounts_in ledger = (map (λ (p : Posting). p.quote.account) ledger.postings ++ map (λ (tap : Tap). tap.account) ledger.taps) ++ map (λ (fix : Fix). fix.account) ledger.fixes

module _ (Passes : ℕ → ArchivedParts → Type 0) where
  -- an account passes by what its rows say
  abbrev pub PassesRows : LedgerRows → ℤ → Type 0
  PassesRows rows number = (account : ℕ) × (number ≡ pos account) × (1 ≤ account) × (read : ArchivedParts) × IsReadFrom rows account read × Passes account read

  -- and so does each that the rows have
  abbrev pub AllPassRows : LedgerRows → Type 0
  AllPassRows rows = AllByRecursion (PassesRows rows) (accounts rows)

  -- so do those of smaller numbers than an account's
  abbrev pub PassRowsBefore : LedgerRows → ℕ → Type 0
  PassRowsBefore rows account = AllByRecursion (λ number. number <ℤ pos account → PassesRows rows number) (accounts rows)

  -- or those that stand before it in a list
  abbrev pub PassUpTo : List ℤ → LedgerRows → ℕ → Type 0
  PassUpTo numbers rows account = (at : ℕ) × (at < length numbers) × (slice_index_or numbers at (pos account) ≡ pos account) × AllByRecursion (PassesRows rows) (take at numbers)

  -- an account of a ledger passes by what the ledger has of it
  abbrev pub PassesIn : LedgerParts → ℕ → Type 0
  PassesIn ledger account = (1 ≤ account) × Passes account (archived_of account ledger)

  -- Each account that a ledger has anything of passes.
  pub record AllPass (ledger : LedgerParts) : Type 0 where
    pub posted : AllByRecursion (λ (p : Posting). PassesIn ledger p.quote.account) ledger.postings
    pub tapped : AllByRecursion (λ (tap : Tap). PassesIn ledger tap.account) ledger.taps
    pub fixed : AllByRecursion (λ (fix : Fix). PassesIn ledger fix.account) ledger.fixes

  -- and so do those of smaller numbers than an account's
  abbrev pub PassBefore : LedgerParts → ℕ → Type 0
  PassBefore ledger account = AllByRecursion (λ other. other < account → PassesIn ledger other) (accounts_in ledger)

module _ {Found : Type 0} (Finds : ℕ → ArchivedParts → Found → Type 0) where
  -- of an account, by what its rows say, this was found
  abbrev pub IsFoundOfRows : LedgerRows → ℕ × Found → Type 0
  IsFoundOfRows rows it = (1 ≤ it.0) × (read : ArchivedParts) × IsReadFrom rows it.0 read × Finds it.0 read it.1

  -- the account is one of these
  abbrev pub IsFoundAmong : List ℤ → LedgerRows → ℕ × Found → Type 0
  IsFoundAmong numbers rows it = Contains numbers (pos it.0) × IsFoundOfRows rows it

  -- or one that the rows have
  abbrev pub IsFoundInRows : LedgerRows → ℕ × Found → Type 0
  IsFoundInRows rows it = IsFoundAmong (accounts rows) rows it

  -- or one that a ledger has anything of, by what it has of it
  abbrev pub IsFoundIn : LedgerParts → ℕ × Found → Type 0
  IsFoundIn ledger it = Contains (accounts_in ledger) it.0 × (1 ≤ it.0) × Finds it.0 (archived_of it.0 ledger) it.1
