-- How a service ended, from what `serve` says of it.
use Rattle.std.proofs.Common.{◌≡◌, inl, inr, ℕ, Bool, List, Option, Result, Ok, Err, refl, sym, subst, arith}
use Rattle.sqlite.specs.Held.{Held, state}
use Rattle.sqlite.specs.State.{State, Survives}
use Rattle.sqlite.specs.Store.{Ghosts}
use Rattle.pay_journal.specs.declared.keeper.Keeper.{Ghosts as Keeping}
use Rattle.pay_close.specs.Closes.{Closes}
use Rattle.pay_till.specs.declared.till.NoTill.{NoTill}
use Rattle.pay_lanes.specs.Words.{Passed}
use Rattle.pay_serve.specs.Words.{GateParts, HoldsPassed}
use Rattle.pay_serve.specs.Words.{Closing, Terms, IsServed}
use Rattle.pay_serve.specs.declared.fault.ServeFault.{ServeFault}
use Rattle.pay_records.specs.Words.{LeavesAsBefore}
use Rattle.jiff.specs.declared.tz.timezone.TimeZone.{TimeZone}
use Rattle.pay_tables.specs.Words.{FareEditions}
use Rattle.pay_serve_job.specs.Service.{IsTakenBy, IsNotTakenBy, FailsToServe, IsNotHere, IsServeFault, IsServedAloneOrNot, IsServedOrNot}
use Rattle.pay_jobs.specs.declared.fault.Fault.{Fault}

-- ---- a ledger and its journals

survives_same : (s : State) → Survives s s (λ _. ⊥)
survives_same s = record { clean = omega arith; shield = λ h. h; counts = omega arith; limit = refl; closes = λ clean live. inl live; crash = λ clean db left. inl left }

module _ {S : Type 0} (store : Ghosts S) (old new : Held S) where
  stays_same : new ≡ old → LeavesAsBefore store old new
  stays_same same = subst (λ h. LeavesAsBefore store old h) (sym same) (survives_same (state store old))

  module _ (editions : FareEditions) (zone : TimeZone) (texts : List (List ℕ)) where
    -- what is taken is as it was, and so is what is not
    taken_stays : IsTakenBy store editions zone texts old new → LeavesAsBefore store old new
    taken_stays it = it.taken.survives

    pub refused_stays : (fault : Fault) → IsNotTakenBy store editions zone texts old new fault → LeavesAsBefore store old new
    refused_stays fault (inl not_taken) = not_taken.2.survives
    refused_stays fault (inr (same, why)) = stays_same same

-- what is so of the ledgers that a till lent before and after is so of these, which they are
pub of_lent : {T H : Type 0} (lent : T → H) (P : H → H → Type 0) (old last : H) (before after : T) → old ≡ lent before → last ≡ lent after → P (lent before) (lent after) → P old last
of_lent lent P old last before after was became h = subst (λ o. P o last) (sym was) (subst (λ l. P (lent before) l) (sym became) h)

-- a service that was not come to leaves more untouched than is told
pub if_untouched : {Holds : GateParts → List Passed → Bool → Type 0} {terms : Terms} {Closed : Closing} {written : Option (List ℕ) × Option (List ℕ)} {result : Result Bool ServeFault} {Untouched Same : Type 0} → (Untouched → Same)
    → IsServed Holds terms Closed written result Untouched → IsServed Holds terms Closed written result Same
if_untouched same (inl by) = inl by
if_untouched same (inr none) = inr (none.0, same none.1)

-- ---- a service over a ledger

module _ {K S : Type 0} (keeper : Keeping K) (store : Ghosts S) (terms : Terms) where
  -- the ledger was not taken with the journals
  pub not_taken : (old new : Held S) (held : Option (List ℕ)) (fault : Fault) → IsNotTakenBy store terms.fares terms.zone terms.texts old new fault
      → IsServedOrNot keeper store terms (old, held) (new, held) (Err fault)
  not_taken old new held fault why = inr (refl, refl, refused_stays store old new terms.fares terms.zone terms.texts fault why)

  pub why_not : (old new : Held S) (fault : Fault) → IsNotTakenBy store terms.fares terms.zone terms.texts old new fault → FailsToServe store terms old fault
  why_not old new fault why = inl (new, why)

  pub served_well : (old begun new : Held S) (held written : Option (List ℕ)) (closed : Bool) (Untouched : Type 0)
      → IsTakenBy store terms.fares terms.zone terms.texts old begun
      → IsServed (HoldsPassed keeper.holds keeper.HasFailed keeper.IsSettled) terms (λ of put answer. Closes (state store begun) (state store new) of put answer) (held, written) (Ok closed) Untouched
      → IsServedOrNot keeper store terms (old, held) (new, written) (Ok closed)
  served_well old begun new held written closed Untouched taken (inl by) =
      inl (record { begun = begun; taken = taken; ended = Ok closed; served = by; told = refl })
  served_well old begun new held written closed Untouched taken (inr (failed, same)) = absurd (cc)

  pub served_badly : (old begun new : Held S) (held written : Option (List ℕ)) (why : ServeFault) (fault : Fault) (Untouched : Type 0)
      → (Untouched → (new ≡ begun) × (written ≡ held)) → IsTakenBy store terms.fares terms.zone terms.texts old begun → IsServeFault why fault
      → IsServed (HoldsPassed keeper.holds keeper.HasFailed keeper.IsSettled) terms (λ of put answer. Closes (state store begun) (state store new) of put answer) (held, written) (Err why) Untouched
      → IsServedOrNot keeper store terms (old, held) (new, written) (Err fault)
  served_badly old begun new held written why fault Untouched stays taken told (inl by) =
      inl (record { begun = begun; taken = taken; ended = Err why; served = by; told = told })
  served_badly old begun new held written why fault Untouched stays taken told (inr (failed, same)) =
      let as_before = stays same in
      inr (refl, as_before.1, subst (λ h. LeavesAsBefore store old h) (sym as_before.0) (taken_stays store old begun terms.fares terms.zone terms.texts taken))

-- ---- without a ledger

module _ {K : Type 0} (keeper : Keeping K) (terms : Terms) where
  pub alone_well : (till after : NoTill) (held written : Option (List ℕ)) (closed : Bool) (Untouched : Type 0)
      → IsServed (HoldsPassed keeper.holds keeper.HasFailed keeper.IsSettled) terms (IsNotHere till after) (held, written) (Ok closed) Untouched
      → IsServedAloneOrNot keeper terms held written (Ok closed)
  alone_well till after held written closed Untouched (inl by) = inl (record { till = till; till_after = after; ended = Ok closed; served = by; told = refl })
  alone_well till after held written closed Untouched (inr (failed, same)) = absurd (cc)

  pub alone_badly : (till after : NoTill) (held written : Option (List ℕ)) (why : ServeFault) (fault : Fault) (Untouched : Type 0) → (Untouched → written ≡ held) → IsServeFault why fault
      → IsServed (HoldsPassed keeper.holds keeper.HasFailed keeper.IsSettled) terms (IsNotHere till after) (held, written) (Err why) Untouched
      → IsServedAloneOrNot keeper terms held written (Err fault)
  alone_badly till after held written why fault Untouched stays told (inl by) = inl (record { till = till; till_after = after; ended = Err why; served = by; told = told })
  alone_badly till after held written why fault Untouched stays told (inr (failed, same)) = inr (refl, stays same)
