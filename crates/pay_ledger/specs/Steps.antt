-- What a part of a transaction does to a ledger, and what all of it does.
use Rattle.std.specs.Prelude.{◌≡◌, ◌⊎◌, ℕ, List, Result, Ok, Err, OnOk, OnErr, IsTrue}
use Rattle.std.specs.Borrow.{MutBor}
use Rattle.sqlite.specs.State.{State, HasCleanDisk, KeepsCommit, Survives}
use Rattle.sqlite.specs.Store.{Ghosts}
use Rattle.sqlite.specs.Held.{Held, state}
use Rattle.sqlite.specs.Tree.{Trees}
use Rattle.sqlite.specs.Effect.{Database}
use Rattle.pay_rules.specs.declared.posting.Posting.{Posting}
use Rattle.pay_rules.specs.QuoteParts.{QuoteParts}
use Rattle.pay_rules.specs.SetsParts.{SetsParts}
use Rattle.pay_rules.specs.declared.post_fault.PostFault.{PostFault}
use Rattle.pay_postings.specs.Words.{LedgerParts, posted, AccountsParts, IsThere}
use Rattle.pay_records.specs.Words.{LedgerRows, HoldsRows, KeepsOthers}
use Rattle.pay_ledger.specs.declared.fault.LedgerFault.{LedgerFault}
use Rattle.pay_ledger.specs.declared.fault.LedgerFault.TheVariants.{Store, Refused}
use Rattle.pay_ledger.specs.Faults.{is_of_store}
use Rattle.pay_ledger.specs.BadRows.{WereRead}
use Rattle.pay_ledger.specs.Stores.{Stores, IsLedger}

-- nothing is committed by it, and a crash leaves what it would have left before
pub record Stays (old new : State) : Type 0 where
  pub unchanged : HasCleanDisk new → IsTrue old.in_transaction → KeepsCommit old new
  pub survives : Survives old new (λ _. ⊥)

-- and the transaction goes on
pub record GoesOn (old new : State) : Type 0 where
  pub stays : Stays old new
  pub inside : HasCleanDisk new → IsTrue old.in_transaction → IsTrue new.in_transaction

-- A step inside a transaction, by what its connection is before it and after it: it is the same one; where the step is done, nothing
-- is committed and the transaction goes on; and where it fails, nothing is committed.
pub record IsStep {S A E : Type 0} (store : Ghosts S) (old new : MutBor (Held S)) (answer : Result A E) : Type 0 where
  pub same_reference : new.ghost_name ≡ old.ghost_name
  pub goes_on : OnOk answer (GoesOn (state store old.now) (state store new.now))
  pub stays : OnErr answer (Stays (state store old.now) (state store new.now))

-- steps that were done, and one that failed, whatever they answered
abbrev pub HasGoneOn : {S : Type 0} → Ghosts S → MutBor (Held S) → MutBor (Held S) → Type 0
HasGoneOn store old new = IsStep {A = Unit {0}} {E = LedgerFault} store old new (Ok tt)

abbrev pub HasStopped : {S : Type 0} → Ghosts S → MutBor (Held S) → MutBor (Held S) → Type 0
HasStopped store old new = IsStep {A = Unit {0}} {E = LedgerFault} store old new (Err Store)

-- the rows of a ledger become others, and nothing beside them does
abbrev pub RowsGrow : State → State → (LedgerRows → LedgerRows) → Type 0
RowsGrow old new change = ((rows : LedgerRows) → HoldsRows old.now rows → HoldsRows new.now (change rows)) × KeepsOthers old.now new.now

-- a ledger becomes another, and so
abbrev pub Grows : State → State → (LedgerParts → LedgerParts) → Type 0
Grows old new change = ((ledger : LedgerParts) → Stores old.now ledger → Stores new.now (change ledger)) × KeepsOthers old.now new.now

-- this is so of the rows of a ledger, and nothing changes
abbrev pub FindsRows : State → State → (LedgerRows → Type 0) → Type 0
FindsRows old new IsSo = (rows : LedgerRows) → HoldsRows old.now rows → IsSo rows × (new.now ≡ old.now)

-- this is so of a ledger, and nothing changes
abbrev pub FindsLedger : State → State → (LedgerParts → Type 0) → Type 0
FindsLedger old new IsSo = (ledger : LedgerParts) → IsLedger old.now ledger → IsSo ledger × (new.now ≡ old.now)

-- accounts are read of a ledger's rows into those that are there, and nothing changes
pub record ReadsInto (old new : State) (before after : AccountsParts) : Type 0 where
  pub rows : HasCleanDisk new → FindsRows old new (λ rows. WereRead rows before → WereRead rows after)
  pub stay : (account : ℕ) → IsThere before account → IsThere after account

-- a fault is one that the database gives, or the refusal that is answered
abbrev pub IsRefused : {A : Type 0} → LedgerFault → Result A PostFault → Type 0
IsRefused fault answer = IsTrue (is_of_store fault) ⊎ ((why : PostFault) × (fault ≡ Refused why) × (answer ≡ Err why))

-- of a ledger the database has become the one that posting quotes and archiving sets comes to, and nothing beside it has changed
abbrev pub BecomesPosted : Database → Database → List QuoteParts × List SetsParts → List Posting → Type 0
BecomesPosted old new asked given = (ledger : LedgerParts) → IsLedger old ledger → (after : LedgerParts) × (posted ledger asked.0 asked.1 ≡ Ok (given, after)) × IsLedger new after × KeepsOthers old new

-- every crash leaves just what is there
unfoldable pub IsOnDisk : State → Type 0
IsOnDisk s = (trees : Trees) → s.may_leave trees → trees ≡ s.now.trees

-- quotes were posted and sets archived, and it is committed and on the disk
pub record Posts (old new : State) (quotes : List QuoteParts) (sets : List SetsParts) (given : List Posting) : Type 0 where
  pub was_open : IsTrue old.is_open
  pub is_open : IsTrue new.is_open
  pub committed : new.committed ≡ new.now
  pub lasts : IsOnDisk new
  pub ledger : BecomesPosted old.now new.now (quotes, sets) given

-- nothing was
pub record IsAsBefore (old new : State) : Type 0 where
  pub was_open : IsTrue old.is_open
  pub now : new.now ≡ old.now
  pub committed : new.committed ≡ old.committed

-- what a crash may leave of it, beside what it left before: all that the definition says, and nothing else
abbrev pub MayLeave : State → List QuoteParts → List SetsParts → Trees → Type 0
MayLeave old quotes sets trees =
    (db : Database) × (trees ≡ db.trees) × ((ledger : LedgerParts) → IsLedger old.now ledger → (answer : List Posting × LedgerParts) × (posted ledger quotes sets ≡ Ok answer) × IsLedger db answer.1 × KeepsOthers old.now db)
