-- What a call says of a connection's database, from what the connection holds before it to what it holds after it.
use Rattle.std.specs.Prelude.{◌≡◌, IfOk, IfErr, OnOk, IsTrue, Result, Err}
use Rattle.sqlite_trees.specs.declared.store.Store.{Ghosts}
use Rattle.sqlite_trees.specs.Tree.{Trees}
use Rattle.sqlite.specs.Held.{Held, state}
use Rattle.sqlite.specs.Schema.{Schema}
use Rattle.sqlite.specs.State.{State, HasCleanDisk, KeepsCommit, IsUnchanged, Survives}
use Rattle.pay_records.specs.Free.{IsFree}
use Rattle.pay_records.specs.Rows.{LedgerRows, HoldsRows}
use Rattle.pay_records.specs.Found.{Finds, FindsFirst}
use Rattle.pay_records.specs.Steps.{Changes}
use Rattle.pay_records.specs.declared.fault.ReadFault.{ReadFault}
use Rattle.pay_records.specs.declared.fault.ReadFault.TheVariants.{BadArchive}

module _ {S : Type 0} (store : Ghosts S) (old new : Held S) where
  -- this is so, as long as the disk has returned what was written
  abbrev pub OnCleanDisk : (State → State → Type 0) → Type 0
  OnCleanDisk IsSo = HasCleanDisk (state store new) → IsSo (state store old) (state store new)

  -- and inside a transaction
  abbrev pub OnCleanDiskInside : (State → State → Type 0) → Type 0
  OnCleanDiskInside IsSo = OnCleanDisk (λ old new. IsTrue old.in_transaction → IsSo old new)

  -- ---- what it keeps

  -- no fault of the disk is forgotten, and a crash leaves what it would have left before, or what is named
  abbrev pub LeavesAsBeforeOr : (State → Trees → Type 0) → Type 0
  LeavesAsBeforeOr MayLeave = Survives (state store old) (state store new) (MayLeave (state store old))

  -- a crash leaves just what it would have left before
  abbrev pub LeavesAsBefore : Type 0
  LeavesAsBefore = LeavesAsBeforeOr (λ _ _. ⊥)

  -- nothing is committed
  abbrev pub CommitsNothing : Type 0
  CommitsNothing = OnCleanDisk KeepsCommit

  -- nothing is committed of a transaction
  abbrev pub CommitsNothingInside : Type 0
  CommitsNothingInside = OnCleanDiskInside KeepsCommit

  module _ {A E : Type 0} (answer : Result A E) where
    -- the transaction goes on
    abbrev pub StaysInside : Type 0
    StaysInside = OnCleanDiskInside (λ _ new. OnOk answer (IsTrue new.in_transaction))

    -- it is in a transaction if it was
    abbrev pub StaysInsideOrOut : Type 0
    StaysInsideOrOut = OnCleanDisk (λ old new. OnOk answer (new.in_transaction ≡ old.in_transaction))

    -- ---- what it tells and what it does, as long as the disk has returned what was written

    -- what is answered is so of the database before it and after it
    abbrev pub Answers : (State → State → A → Type 0) → Type 0
    Answers IsSo = OnCleanDisk (λ old new. IfOk answer (IsSo old new))

    -- and inside a transaction
    abbrev pub AnswersInside : (State → State → A → Type 0) → Type 0
    AnswersInside IsSo = OnCleanDiskInside (λ old new. IfOk answer (IsSo old new))

    -- why it is refused is so of them
    abbrev pub Refuses : (State → State → E → Type 0) → Type 0
    Refuses IsSo = OnCleanDisk (λ old new. IfErr answer (IsSo old new))

    -- where it is done, it did so
    abbrev pub Does : (State → State → Type 0) → Type 0
    Does Did = OnCleanDisk (λ old new. OnOk answer (Did old new))

    -- and inside a transaction
    abbrev pub DoesInside : (State → State → Type 0) → Type 0
    DoesInside Did = OnCleanDiskInside (λ old new. OnOk answer (Did old new))

    -- what is answered is told by the tables that there are, and nothing changes
    abbrev pub SeesInSchema : (Schema → A) → Type 0
    SeesInSchema seen_in = Answers (λ old new it. (it ≡ seen_in old.now.schema) × IsUnchanged old new)

    -- where a ledger can be made this is answered, and nothing changes
    abbrev pub SeesNoTables : A → Type 0
    SeesNoTables it_is = Answers (λ old new it. IsFree old.now → (it ≡ it_is) × IsUnchanged old new)

    -- where the database is a ledger, what is answered is so of its rows, and nothing changes
    abbrev pub FindsInRows : (LedgerRows → A → Type 0) → Type 0
    FindsInRows Found = Answers (λ old new it. Finds old new (λ rows. Found rows it))

    -- and where it is a ledger of version 1, of the rows of that
    abbrev pub FindsInFirst : (LedgerRows → A → Type 0) → Type 0
    FindsInFirst Found = Answers (λ old new it. FindsFirst old new (λ rows. Found rows it))

    -- the rows of a ledger become others
    abbrev pub ChangesRows : (LedgerRows → LedgerRows) → Type 0
    ChangesRows change = Does (λ old new. Changes old new change)

    -- the rows of a ledger become others by what is answered, inside a transaction
    abbrev pub ChangesRowsInside : (A → LedgerRows → LedgerRows) → Type 0
    ChangesRowsInside change = AnswersInside (λ old new it. Changes old new (change it))

  -- the rows of a ledger are never told to be bad
  abbrev pub NeverBadOfRows : {A : Type 0} → Result A ReadFault → Type 0
  NeverBadOfRows answer = OnCleanDisk (λ old _. answer ≡ Err BadArchive → (rows : LedgerRows) → HoldsRows old.now rows → ⊥)
