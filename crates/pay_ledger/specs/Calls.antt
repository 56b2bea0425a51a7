-- What a call says of the ledger in a connection's database, from what the connection holds before it to what it holds after it.
use Rattle.std.specs.Prelude.{◌≡◌, ◌⊎◌, ℕ, ℤ, List, Option, Some, None, Result, MatchResult, OnOk, OnErr, IsTrue}
use Rattle.sqlite.specs.Store.{Ghosts}
use Rattle.sqlite.specs.Held.{Held, state}
use Rattle.pay_rows.specs.declared.row.TapRow.{TapRow}
use Rattle.pay_rows.specs.declared.row.FixRow.{FixRow}
use Rattle.pay_rules.specs.declared.post_fault.PostFault.{PostFault}
use Rattle.pay_rules.specs.declared.post_fault.PostFault.TheVariants.{BadArchive}
use Rattle.pay_rules.specs.QuoteParts.{QuoteParts}
use Rattle.pay_rules.specs.SetsParts.{SetsParts}
use Rattle.pay_postings.specs.Words.{LedgerParts, AccountsParts, posted}
use Rattle.pay_restore.specs.Words.{tap_rows, fix_rows}
use Rattle.pay_records.specs.Words.{LedgerRows, HoldsRows, OnCleanDisk, Answers, Refuses, DoesInside}
use Rattle.pay_ledger.specs.declared.fault.LedgerFault.{LedgerFault}
use Rattle.pay_ledger.specs.declared.fault.LedgerFault.TheVariants.{Refused}
use Rattle.pay_ledger.specs.Faults.{is_of_store}
use Rattle.pay_ledger.specs.BadRows.{ReadsAs, net_said, asked, AreReadable, IsBadAmong, IsJudgedByRows}
use Rattle.pay_ledger.specs.Stores.{IsLedger}
use Rattle.pay_ledger.specs.Steps.{Grows, FindsRows, FindsLedger, ReadsInto, IsRefused, IsAsBefore}

-- a fault is one that the database gives, or the archive is bad and has no accounts
abbrev pub IsRefusedAsBad : {A : Type 0} → Option A → LedgerFault → Type 0
IsRefusedAsBad accounts fault = IsTrue (is_of_store fault) ⊎ ((fault ≡ Refused BadArchive) × (accounts ≡ None))

-- the accounts of an archive are answered, or it is refused as bad, or memory is wanting
abbrev pub AreAccountsOf : {A B : Type 0} → Result A LedgerFault → Option B → (A → B) → Type 0
AreAccountsOf result restored accounts = MatchResult result (λ it. restored ≡ Some (accounts it)) (IsRefusedAsBad restored)

module _ {S : Type 0} (store : Ghosts S) (old new : Held S) where
  -- ---- what it keeps

  -- the database is as it was, if the connection is still open
  abbrev pub ChangesNothing : Type 0
  ChangesNothing = OnCleanDisk store old new (λ old new. IsTrue new.is_open → IsAsBefore old new)

  module _ {A E : Type 0} (answer : Result A E) where
    -- it is as it was where it fails
    abbrev pub ChangesNothingIfRefused : Type 0
    ChangesNothingIfRefused = OnCleanDisk store old new (λ old new. IsTrue new.is_open → OnErr answer (IsAsBefore old new))

    -- ---- what it does

    -- where it is done, accounts are read into those that are there
    abbrev pub ReadsIntoIfDone : AccountsParts → AccountsParts → Type 0
    ReadsIntoIfDone before after = OnOk answer (ReadsInto (state store old) (state store new) before after)

    -- where it is done inside a transaction, a ledger becomes another
    abbrev pub GrowsInside : (LedgerParts → LedgerParts) → Type 0
    GrowsInside change = DoesInside store old new answer (λ old new. Grows old new change)

    -- ---- what it answers

    -- of a ledger this is answered, and nothing changes
    abbrev pub FindsInLedger : (LedgerParts → A → Type 0) → Type 0
    FindsInLedger IsSo = Answers store old new answer (λ old new it. FindsLedger old new (λ ledger. IsSo ledger it))

    -- of a ledger this is answered
    abbrev pub AnswersOfLedger : (LedgerParts → A → Type 0) → Type 0
    AnswersOfLedger IsSo = Answers store old new answer (λ old _ it. (ledger : LedgerParts) → IsLedger old.now ledger → IsSo ledger it)

    -- and this refused
    abbrev pub RefusesOfLedger : (LedgerParts → E → Type 0) → Type 0
    RefusesOfLedger IsSo = Refuses store old new answer (λ old _ fault. (ledger : LedgerParts) → IsLedger old.now ledger → IsSo ledger fault)

    -- of a ledger's rows this is answered
    abbrev pub AnswersOfRows : (LedgerRows → A → Type 0) → Type 0
    AnswersOfRows IsSo = Answers store old new answer (λ old _ it. (rows : LedgerRows) → HoldsRows old.now rows → IsSo rows it)

    -- of a ledger's rows this is answered, and nothing changes
    abbrev pub FindsInHeldRows : (LedgerRows → A → Type 0) → Type 0
    FindsInHeldRows IsSo = Answers store old new answer (λ old new it. FindsRows old new (λ rows. IsSo rows it))

    -- it answers only where the rows of each of these accounts say its postings
    abbrev pub AnswersOfReadable : List ℕ → Type 0
    AnswersOfReadable accounts = AnswersOfRows (λ rows _. AreReadable rows accounts)

    -- and this refused
    abbrev pub RefusesOfRows : (LedgerRows → E → Type 0) → Type 0
    RefusesOfRows IsSo = Refuses store old new answer (λ old _ fault. (rows : LedgerRows) → HoldsRows old.now rows → IsSo rows fault)

  module _ {A : Type 0} (answer : Result A LedgerFault) where
    -- of a ledger it refuses only what a database gives
    abbrev pub FailsByStoreAlone : Type 0
    FailsByStoreAlone = RefusesOfLedger answer (λ _ fault. IsTrue (is_of_store fault))

    -- and so it does of a ledger's rows
    abbrev pub FailsByStoreAloneOfRows : Type 0
    FailsByStoreAloneOfRows = RefusesOfRows answer (λ _ fault. IsTrue (is_of_store fault))

    -- of a ledger's rows it refuses what the database gives, or by 45 an account whose rows say nothing
    abbrev pub RefusesBadRows : ℕ → Type 0
    RefusesBadRows account = RefusesOfRows answer (λ rows fault. IsTrue (is_of_store fault) ⊎ ((fault ≡ Refused BadArchive) × ReadsAs rows account None))

    -- or an account with an amount in a week that is bad
    abbrev pub RefusesBadAmounts : ℕ → ℕ → Type 0
    RefusesBadAmounts account week = RefusesOfRows answer (λ rows fault. IsTrue (is_of_store fault) ⊎ ((fault ≡ Refused BadArchive) × (net_said rows account week ≡ None)))

    -- and of several accounts one whose rows say nothing
    abbrev pub RefusesBadRowsOf : List ℕ → Type 0
    RefusesBadRowsOf accounts = RefusesOfRows answer (λ rows fault. IsTrue (is_of_store fault) ⊎ IsBadAmong rows accounts fault)

    -- bad rows of these accounts come before all that is refused by what was posted
    abbrev pub RefusesBadRowsFirst : List ℕ → Type 0
    RefusesBadRowsFirst accounts = RefusesOfRows answer (λ rows fault. IsJudgedByRows rows accounts fault)

    -- what a database does not give, it refuses of an open connection alone
    abbrev pub RefusesOpenAlone : Type 0
    RefusesOpenAlone = Refuses store old new answer (λ old _ fault. IsTrue (is_of_store fault) ⊎ IsTrue old.is_open)

    -- of a ledger it refuses what the definition does, beside what a database gives
    abbrev pub RefusesAsDefined : {B : Type 0} → (LedgerParts → Result B PostFault) → Type 0
    RefusesAsDefined defined = RefusesOfLedger answer (λ ledger fault. IsRefused fault (defined ledger))

    -- It posts quotes and archives sets, or refuses them, as the definition does, and by the rows of the accounts that are asked about.
    pub record IsJudged (quotes : List QuoteParts) (sets : List SetsParts) : Type 0 where
      pub refused : RefusesAsDefined (λ ledger. posted ledger quotes sets)
      pub read : AnswersOfReadable answer (asked quotes sets)
      pub bad_first : RefusesBadRowsFirst (asked quotes sets)

    module _ {B : Type 0} (restored : List (ℤ × TapRow) → List (ℤ × FixRow) → Option B) (accounts : A → B) where
      -- the accounts of the archive are answered, by a ledger's rows, or it is refused as bad
      abbrev pub RestoresRows : Type 0
      RestoresRows = OnCleanDisk store old new (λ old _. MatchResult answer
          (λ it. (rows : LedgerRows) → HoldsRows old.now rows → restored rows.taps rows.fixes ≡ Some (accounts it))
          (λ fault. (rows : LedgerRows) → HoldsRows old.now rows → IsRefusedAsBad (restored rows.taps rows.fixes) fault))

      -- and so they are by a ledger's taps and corrections
      abbrev pub RestoresLedger : Type 0
      RestoresLedger = OnCleanDisk store old new (λ old _. MatchResult answer
          (λ it. (ledger : LedgerParts) → IsLedger old.now ledger → restored (tap_rows ledger.taps) (fix_rows ledger.fixes) ≡ Some (accounts it))
          (λ fault. (ledger : LedgerParts) → IsLedger old.now ledger → IsRefusedAsBad (restored (tap_rows ledger.taps) (fix_rows ledger.fixes)) fault))
