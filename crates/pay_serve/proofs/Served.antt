-- What stands when a service has ended.
use Rattle.std.proofs.Common.{inl, inr, ℕ, Bool, Result, List, [], ◌∷◌, Option}
use Rattle.std.specs.List.{AllZip}
use Rattle.pay_lanes.specs.Words.{LaneParts, WorkerParts, Passed, HavePassed}
use Rattle.pay_serve.specs.KeepingGates.{GateParts, HoldsPassed}
use Rattle.pay_serve.specs.Closes.{Closing, Terms, IsServed, IsServedWith}
use Rattle.pay_serve.specs.Kept.{HasKept, PassedAreKept}
use Rattle.pay_serve.specs.declared.fault.ServeFault.{ServeFault}

-- what all gates let pass they have kept
pub all_kept : {K : Type 0} (holds : K → Option (List ℕ)) (HasFailed IsSettled : K → Type 0) → PassedAreKept holds HasFailed IsSettled → (lanes : List LaneParts) (workers : List WorkerParts) (gates : List GateParts)
    → HavePassed (HoldsPassed holds HasFailed IsSettled) lanes workers gates → AllZip (HasKept lanes) workers gates
all_kept holds HasFailed IsSettled law lanes [] [] passed = tt
all_kept holds HasFailed IsSettled law lanes [] (g ∷ gates) passed = absurd passed
all_kept holds HasFailed IsSettled law lanes (w ∷ workers) [] passed = absurd passed
all_kept holds HasFailed IsSettled law lanes (w ∷ workers) (g ∷ gates) passed = (law lanes w g passed.0, all_kept holds HasFailed IsSettled law lanes workers gates passed.1)

-- what is so with these gates is so with some
pub with_some : (Holds : GateParts → List Passed → Bool → Type 0) (terms : Terms) (Closed : Closing) (written : Option (List ℕ) × Option (List ℕ)) (left : List GateParts × Result Bool ServeFault) (Untouched : Type 0)
    → IsServedWith Holds terms Closed written left Untouched → IsServed Holds terms Closed written left.1 Untouched
with_some Holds terms Closed written left Untouched (inl with_these) = inl with_these.0
with_some Holds terms Closed written left Untouched (inr other) = inr other
