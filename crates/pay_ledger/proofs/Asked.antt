-- A database that is asked first: where it answers, it is open and as it was.
use Rattle.std.proofs.Common.{inl, inr, ◌⊎◌, ℕ, List, [], Ok, Err, Result, IfErr, IsTrue, sym, subst}
use Rattle.sqlite.specs.declared.error.Error.{Error}
use Rattle.sqlite.specs.Order.{Row}
use Rattle.sqlite.specs.Effect.{Database}
use Rattle.sqlite.specs.State.{State, HasCleanDisk, KeepsCommit, Survives, IsUnchanged, IsNotRun}
use Rattle.pay_ledger.specs.declared.fault.LedgerFault.{LedgerFault}
use Rattle.pay_ledger.specs.Faults.{is_of_store}
use Rattle.pay_ledger.specs.Steps.{Stays, GoesOn}

module _ (old new : State) where
  kept_not_run : (sql : List ℕ) (params : Row) (e : Error) → IsNotRun old new sql params e → KeepsCommit old new
  unfolding IsNotRun
  kept_not_run sql params e (inl refused) = record { was_open = λ _. refused.1.0.was_open; committed = λ _. refused.1.0.committed_is }
  kept_not_run sql params e (inr fails) = record { was_open = fails.3.was_open; committed = λ live. (fails.3.undone live).1 }

  -- it did not answer
  pub not_run_stays : (sql : List ℕ) (e : Error) → (HasCleanDisk new → (params : Row) → IsNotRun old new sql params e) → Survives old new (λ _. ⊥) → Stays old new
  not_run_stays sql e refused survives = record { unchanged = λ clean inside. kept_not_run sql [] e (refused clean []); survives = survives }

  -- it answered
  pub unchanged_goes_on : (HasCleanDisk new → IsUnchanged old new) → Survives old new (λ _. ⊥) → GoesOn old new
  unchanged_goes_on same survives = record {
    stays = record {
      unchanged = λ clean inside. record { was_open = λ _. (same clean).0.was_open; committed = λ _. (same clean).0.committed_is };
      survives = survives;
    };
    inside = λ clean inside. subst IsTrue (sym (same clean).0.mode) inside;
  }

where_open : {A : Type 0} (Live : Type 0) (answer : Result A LedgerFault) → Live → IfErr answer (λ fault. IsTrue (is_of_store fault) ⊎ Live)
where_open Live (Ok given) live = tt
where_open Live (Err fault) live = inr live

-- What comes after it, from between to new, is so of what was there before it was asked.
module _ (old between new : State) (same : HasCleanDisk between → IsUnchanged old between) (was : HasCleanDisk new → HasCleanDisk between) where
  pub so_inside : (P : Database → Type 0) → (HasCleanDisk new → IsTrue between.in_transaction → P between.now) → HasCleanDisk new → IsTrue old.in_transaction → P old.now
  so_inside P so clean inside = subst P (same (was clean)).0.now_is (so clean (subst IsTrue (sym (same (was clean)).0.mode) inside))

  pub refuses_open : {A : Type 0} (answer : Result A LedgerFault) → HasCleanDisk new → IfErr answer (λ fault. IsTrue (is_of_store fault) ⊎ IsTrue old.is_open)
  refuses_open answer clean = where_open (IsTrue old.is_open) answer (same (was clean)).0.was_open
