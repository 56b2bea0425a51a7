-- Partitions that are asked, one after another.
use Rattle.std.proofs.Common.{◌≡◌, ℕ, suc, ◌+◌, List, [], ◌∷◌, ◌++◌, length, refl, subst, arith, Option}
use Rattle.pay_front.specs.Answers.{AreAsked, IsAsked}

-- and one more
pub asked_then : {P : Type 0} (MayGive : P → ℕ → List ℕ → Option (List ℕ) → P → Type 0) (first : ℕ) (line : List ℕ) (replies : List (List ℕ)) (reply : List ℕ) (before mid after : P)
    → AreAsked MayGive first line before replies mid → IsAsked MayGive (first + length replies) line mid reply after → AreAsked MayGive first line before (replies ++ reply ∷ []) after
asked_then MayGive first line [] reply before mid after all one =
    let at : first + 0 ≡ first = omega arith in
    (after, subst (λ n. IsAsked MayGive n line before reply after) at (subst (λ (m : _). IsAsked MayGive (first + 0) line m reply after) all one), refl)
asked_then MayGive first line (r ∷ replies) reply before mid after all one =
    let at : first + suc (length replies) ≡ suc first + length replies = omega arith in
    (all.0, all.1, asked_then MayGive (suc first) line replies reply all.0 mid after all.2 (subst (λ n. IsAsked MayGive n line mid reply after) at one))
