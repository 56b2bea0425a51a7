-- A ledger of a database that was found, and why one is none.
use Rattle.std.proofs.Common.{◌≡◌, ◌∙◌, Bool, true, false, inl, inr, refl, sym}
use Rattle.sqlite.specs.Store.{Ghosts}
use Rattle.sqlite.specs.Held.{Held, state}
use Rattle.sqlite.specs.State.{State, HasCleanDisk, Opens, Survives}
use Rattle.sqlite.specs.Steps.{IsEmpty}
use Rattle.pay_records.specs.Words.{empty_is_free}
use Rattle.pay_ledger.specs.declared.fault.OpenFault.{OpenFault}
use Rattle.pay_ledger.specs.Words.{IsLedger, nothing, MayLeaveOpened}
use Rattle.pay_ledger_files.specs.Opening.{IsMadeOf, IsNoneOf}
use Rattle.pay_ledger.specs.declared.fault.OpenFault.TheVariants.{NotALedger}
use Rattle.pay_ledger_files.specs.Files.{IsOpenedOf, IsNotOpened, has_meta, free_has_no_meta, IsExistingOf, IsNotExisting}
use Rattle.std.proofs.lemmas.Bool.{true≢false}
use Rattle.std.proofs.Common.{arith}

module _ {S : Type 0} (g : Ghosts S) (was : Held S) where
  was_clean : (left : Held S) → Survives (state g was) (state g left) (MayLeaveOpened (state g was)) → HasCleanDisk (state g left) → HasCleanDisk (state g was)
  was_clean left survives clean = let less = survives.clean in omega (arith, less, clean)

  module _ (Found : State → Type 0) (found : HasCleanDisk (state g was) → Opens (state g was) × Found (state g was)) where
    pub opened_of : (ledger : Held S) → IsMadeOf g was ledger → IsOpenedOf g Found ledger
    opened_of ledger made = record {
      was = was;
      found = λ clean. found (was_clean ledger made.survives clean);
      opened = made.opened;
      grows = made.grows;
      lasts = made.lasts;
      survives = made.survives;
    }

    pub refused_of : (fault : OpenFault) → IsNoneOf g was fault → IsNotOpened g Found fault
    refused_of fault none = inr (record {
      was = was;
      left = none.left;
      found = λ clean. found (was_clean none.left none.survives clean);
      why = none.why;
      survives = none.survives;
    })

    -- one that had the table of its version was there before
    pub existing_of : (ledger : Held S) (there : Bool) → there ≡ has_meta (state g was).now → there ≡ true → IsMadeOf g was ledger → IsExistingOf g Found ledger
    unfolding opened_of
    existing_of ledger there is so made = record {
      is = opened_of ledger made;
      was_there = λ clean. sym is ∙ so;
      was_not_free = λ clean free. true≢false (sym so ∙ is ∙ free_has_no_meta (state g was).now free);
    }

    -- and one without it is none
    pub without_meta : (there : Bool) → there ≡ has_meta (state g was).now → there ≡ false → IsNotExisting g Found NotALedger
    without_meta there is so = inl (record { left = was; found = found; without = sym is ∙ so; is = refl })

  -- where there was nothing it is a ledger of nothing
  pub new_ledger : (ledger : Held S) (Blank : Type 0) → (HasCleanDisk (state g was) → Blank → IsEmpty (state g was)) → IsMadeOf g was ledger → HasCleanDisk (state g ledger) → Blank → IsLedger (state g ledger).now nothing
  new_ledger ledger Blank empty made clean blank = (made.opened clean).blank (empty_is_free (state g was).now (empty (was_clean ledger made.survives clean) blank).2)
