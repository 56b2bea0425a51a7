-- What was committed stays, whatever a statement in a transaction does.
use Rattle.std.proofs.Common.{◌≡◌, OnOk, ◌⊎◌, inl, inr, ℕ, List, [], Some, None, Option, true, Ok, Err, Result, IsTrue, refl}
use Rattle.sqlite_resolve.specs.declared.compiled.Compiled.{Compiled}
use Rattle.sqlite_schema.specs.declared.command.Returning.{Returning}
use Rattle.sqlite.specs.declared.error.Error.{Error}
use Rattle.sqlite.specs.Order.{Row}
use Rattle.pay_records.specs.Steps.{GoesOn}
use Rattle.sqlite.specs.State.{State, Shows, ExecutesInside, KeepsCommit, IsUnchanged, IsRolledBack, IsNotRun, FailsToShow, FailsToQuery, ShowsRows, Shown, QueriesRow, QueriesRowInside, IsTooLate}

pub kept_inside : (held : ℕ) (sql : List ℕ) (params : Row) (old new : State) (r : Result ℕ Error) → ExecutesInside held sql params old new r → KeepsCommit old new
kept_inside held sql params old new (Ok count) h = record { was_open = λ _. h.1.was_open; committed = λ _. h.1.committed_is }
kept_inside held sql params old new (Err e) (inl (ran, inl same)) = record { was_open = λ _. same.0.was_open; committed = λ _. same.0.committed_is }
kept_inside held sql params old new (Err e) (inl (ran, inr undone)) = record { was_open = undone.was_open; committed = λ live. (undone.undone live).1 }
kept_inside held sql params old new (Err e) (inr (escapes, refused, same)) = record { was_open = λ _. same.0.was_open; committed = λ _. same.0.committed_is }

pub kept_same : (old : State) → KeepsCommit old old
kept_same old = record { was_open = λ live. live; committed = λ _. refl }

pub kept_unchanged : (old new : State) → IsUnchanged old new → KeepsCommit old new
kept_unchanged old new same = record { was_open = λ _. same.0.was_open; committed = λ _. same.0.committed_is }

kept_undone : (old new : State) → IsRolledBack old new → KeepsCommit old new
kept_undone old new undone = record { was_open = undone.was_open; committed = λ live. (undone.undone live).1 }

module _ (old new : State) (sql : List ℕ) where
  pub kept_not_run : (params : Row) (e : Error) → IsNotRun old new sql params e → KeepsCommit old new
  unfolding IsNotRun
  kept_not_run params e (inl refused) = kept_unchanged old new refused.1
  kept_not_run params e (inr fails) = kept_undone old new fails.3

  kept_failed : (c : Compiled) (params : Row) (e : Error) (returning : Option Returning) → FailsToShow old new sql c params e returning → KeepsCommit old new
  kept_failed c params e None h = kept_unchanged old new h.3
  kept_failed c params e (Some what) (inl refused) = kept_unchanged old new refused.1
  kept_failed c params e (Some what) (inr fails) = kept_undone old new fails.3

  kept_query : (params : Row) (e : Error) → FailsToQuery sql params old new e → KeepsCommit old new
  unfolding FailsToQuery
  kept_query params e (inl h) = kept_not_run params e h
  kept_query params e (inr h) = kept_failed h.0 _ e h.0.returning h.2

  kept_shown_by : IsTrue old.in_transaction → (c : Compiled) (params : Row) (rows : List Row) (returning : Option Returning) → ShowsRows old new sql c params rows returning → KeepsCommit old new
  kept_shown_by inside c params rows None h = kept_unchanged old new h.3
  kept_shown_by inside c params rows (Some what) h =
      let shown = h.1.shown in
      record { was_open = λ _. shown.was_open; committed = λ _. rw inside at shown.committed_is }

  kept_shown : IsTrue old.in_transaction → (params : Row) (rows : List Row) → Shown sql params old new rows → KeepsCommit old new
  unfolding Shown
  kept_shown inside params rows h = kept_shown_by inside h.0 _ rows h.0.returning h.2

  pub kept_row : IsTrue old.in_transaction → (params : Row) (r : Result Row Error) → QueriesRowInside sql params old new r → KeepsCommit old new
  unfolding QueriesRow
  kept_row inside params (Ok row) (inl h) = kept_unchanged old new h.1
  kept_row inside params (Ok row) (inr h) = kept_shown inside params h.0 h.1
  kept_row inside params (Err e) (inl (inl h)) = kept_query params e h
  kept_row inside params (Err e) (inl (inr h)) = kept_shown inside params [] h.1
  kept_row inside params (Err e) (inr late) = kept_unchanged old new late.5

  pub kept_all : IsTrue old.in_transaction → (params : Row) (rows : List Row) → Shown sql params old new rows → KeepsCommit old new
  kept_all = kept_shown

  pub kept_none : (params : Row) (e : Error) → FailsToQuery sql params old new e ⊎ IsTooLate sql params old new e → KeepsCommit old new
  kept_none params e (inl h) = kept_query params e h
  kept_none params e (inr late) = kept_unchanged old new late.5

pub went_on : (old new : State) → Shows old new new.now old.committed true → IsTrue old.in_transaction → GoesOn old new
went_on old new h inside = record { before = inside; after = h.mode; was_open = h.was_open; is_open = h.is_open; committed = h.committed_is }

-- a query goes on in the transaction in which it began
inside_by : (old new : State) (sql : List ℕ) (c : Compiled) (params : Row) (rows : List Row) (returning : Option Returning) → ShowsRows old new sql c params rows returning → new.in_transaction ≡ old.in_transaction
inside_by old new sql c params rows None h = h.3.0.mode
inside_by old new sql c params rows (Some what) h = h.1.shown.mode

pub inside_shown : (old new : State) (sql : List ℕ) (params : Row) (rows : List Row) → Shown sql params old new rows → new.in_transaction ≡ old.in_transaction
unfolding Shown
inside_shown old new sql params rows h = inside_by old new sql h.0 _ rows h.0.returning h.2

pub inside_row : (old new : State) (sql : List ℕ) (params : Row) (row : Row) → QueriesRow sql params old new (Ok row) → new.in_transaction ≡ old.in_transaction
unfolding QueriesRow
inside_row old new sql params row (inl h) = h.1.0.mode
inside_row old new sql params row (inr h) = inside_shown old new sql params h.0 h.1

pub on_ok : {A : Type 0} (P : Type 0) (r : Result A Error) → P → OnOk r P
on_ok P (Ok x) h = h
on_ok P (Err e) h = tt
