-- The last leg of a run, as it is read from the legs after the first.
use Rattle.std.proofs.Common.{◌≡◌, ℕ, suc, zero, ◌+◌, ◌-◌, List, [], ◌∷◌, length, slice_get, Option, Some, None, refl, arith}
use Rattle.std.specs.Option.{unwrap_or, option_copied}
use Rattle.pay_rules.specs.declared.parts.Leg.{Leg}
use Rattle.pay_rules.specs.LinkedLegs.{last_after}
use denote.Bor.{Bor}

-- legs after another one end with the last of all
last_at : (first : Leg) (others : List Leg) (n : ℕ) → n + 1 ≡ length others → slice_get others n ≡ Some (last_after first others)
last_at first [] n e = absurd (omega arith)
last_at first (next ∷ []) zero e = refl
last_at first (next ∷ []) (suc n) e = absurd (omega arith)
last_at first (next ∷ after ∷ later) zero e = absurd (omega arith)
last_at first (next ∷ after ∷ later) (suc n) e = last_at next (after ∷ later) n (omega arith)

-- the last of all is the last one after the first, or else the first
pub last_is : (found : Option (Bor Leg)) (first : Bor Leg) (others : List Leg) →
    option_copied found ≡ slice_get others (length others - 1) → (unwrap_or found first).now ≡ last_after first.now others
last_is None first [] h = refl
last_is (Some last) first [] h = cc
last_is None first (next ∷ later) h = let e = last_at first.now (next ∷ later) (length (next ∷ later) - 1) (omega arith) in cc
last_is (Some last) first (next ∷ later) h = let e = last_at first.now (next ∷ later) (length (next ∷ later) - 1) (omega arith) in cc
