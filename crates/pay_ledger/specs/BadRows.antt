-- What the rows of an account say, and which of them are bad.
use Rattle.std.specs.Prelude.{◌≡◌, ◌≢◌, ◌⊎◌, ℕ, ◌==◌, ℤ, pos, true, List, map, ◌++◌, Option, Some, None, Result, MatchResult, IsPermutation, IsTrue}
use Rattle.std.specs.List.{list_any}
use Rattle.std.specs.FinMap as finite
use Rattle.pay_rows.specs.declared.row.ShareRow.{ShareRow}
use Rattle.pay_rules.specs.declared.posting.Posting.{Posting}
use Rattle.pay_rules.specs.QuoteParts.{QuoteParts}
use Rattle.pay_rules.specs.SetsParts.{SetsParts}
use Rattle.pay_rules.specs.declared.post_fault.PostFault.TheVariants.{BadArchive}
use Rattle.pay_postings.specs.PostingRows.{postings_from_rows}
use Rattle.pay_postings.specs.Words.{ArchivedParts, AccountsParts, net_from_rows}
use Rattle.pay_records.specs.Words.{LedgerRows}
use Rattle.pay_records.specs.Found.{postings_of, shares_of, taps_of, fixes_of}
use Rattle.pay_ledger.specs.declared.fault.LedgerFault.{LedgerFault}
use Rattle.pay_ledger.specs.declared.fault.LedgerFault.TheVariants.{Refused}
use Rattle.pay_ledger.specs.Faults.{is_of_store}

-- what the rows of an account say, by those of its shares in some order: its postings, and none where one of them is bad
abbrev pub ReadsAs : LedgerRows → ℕ → Option (List Posting) → Type 0
ReadsAs rows account said =
    (shares : List ShareRow) × IsPermutation (shares_of (pos account) rows) shares × (postings_from_rows account (postings_of (pos account) rows) shares ≡ said)

-- they say its postings
abbrev pub IsReadable : LedgerRows → ℕ → Type 0
IsReadable rows account = (postings : List Posting) × ReadsAs rows account (Some postings)

-- one of them is bad, in whatever order those of its shares come
abbrev pub IsBad : LedgerRows → ℕ → Type 0
IsBad rows account = (shares : List ShareRow) → IsPermutation (shares_of (pos account) rows) shares → postings_from_rows account (postings_of (pos account) rows) shares ≡ None

-- what the amounts of an account's postings come to for a week, and none where one of these is bad
abbrev pub net_said : LedgerRows → ℕ → ℕ → Option ℤ
net_said rows account week = net_from_rows week (postings_of (pos account) rows)

-- an answer is what rows come to, or 45 where they are bad
abbrev pub IsNetOf : Result ℤ LedgerFault → Option ℤ → Type 0
IsNetOf result said = MatchResult result (λ net. said ≡ Some net) (λ fault. (fault ≡ Refused BadArchive) × (said ≡ None))

-- the accounts whose rows are read for quotes and sets
abbrev pub quoted : List QuoteParts → List ℕ
quoted quotes = map (λ (q : QuoteParts). q.account) quotes

abbrev pub in_sets : List SetsParts → List ℕ
in_sets sets = map (λ (s : SetsParts). s.account) sets

abbrev pub asked : List QuoteParts → List SetsParts → List ℕ
asked quotes sets = quoted quotes ++ in_sets sets

-- an account is one of these
abbrev pub IsAmong : ℕ → List ℕ → Type 0
IsAmong account accounts = list_any (λ a. a == account) accounts ≡ true

-- the rows of each of these accounts say its postings
abbrev pub AreReadable : LedgerRows → List ℕ → Type 0
AreReadable rows accounts = (account : ℕ) → IsAmong account accounts → IsReadable rows account

-- what was read of an account is what its rows say
pub record IsReadFrom (rows : LedgerRows) (account : ℕ) (read : ArchivedParts) : Type 0 where
  pub postings : ReadsAs rows account (Some read.postings)
  pub taps : read.taps ≡ taps_of (pos account) rows
  pub fixes : read.fixes ≡ fixes_of (pos account) rows

-- and so is that of each account that is there
abbrev pub WereRead : LedgerRows → AccountsParts → Type 0
WereRead rows there = (account : ℕ) (read : ArchivedParts) → finite.get there account ≡ Some read → IsReadFrom rows account read

-- 45 of one of these accounts, whose rows say nothing
abbrev pub IsBadAmong : LedgerRows → List ℕ → LedgerFault → Type 0
IsBadAmong rows accounts fault = (fault ≡ Refused BadArchive) × (account : ℕ) × IsAmong account accounts × ReadsAs rows account None

-- a refusal that the database gives; or 45, where the rows of one of these accounts say nothing; or another, where those of all of them say their postings
abbrev pub IsJudgedByRows : LedgerRows → List ℕ → LedgerFault → Type 0
IsJudgedByRows rows accounts fault = IsTrue (is_of_store fault) ⊎ IsBadAmong rows accounts fault ⊎ ((fault ≢ Refused BadArchive) × AreReadable rows accounts)
