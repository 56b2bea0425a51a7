-- Tests and ranges.
use Rattle.std.proofs.Common.{◌≡◌, ℕ, ◌+◌, ◌≤◌, ◌<◌, zero, suc, Bool, true, false, not, refl, ap, ◌∙◌, arith, inl, inr}
use Rattle.std.specs.Prelude.{◌&&◌, ◌⊎◌}
use Rattle.std.specs.List.{list_all, range_with_len}

pub and_both : (a b : Bool) → (a && b) ≡ true → (a ≡ true) × (b ≡ true)
and_both true b e = (refl, e)
and_both false b e = absurd cc

pub not_true : (a : Bool) → not a ≡ true → a ≡ false
not_true true e = absurd cc
not_true false e = refl

-- what holds of all numbers of a range holds of each
pub each_of_range : (p : ℕ → Bool) (a n k : ℕ) → list_all p (range_with_len a n) ≡ true → a ≤ k → k < a + n → p k ≡ true
each_of_range p a zero k h low high = absurd (omega arith)
each_of_range p a (suc n) k h low high =
    let both = and_both (p a) (list_all p (range_with_len (a + 1) n)) h in
    elim (first_or_later a k low) [
      | inl same ↦ ap p same ∙ both.0
      | inr later ↦ each_of_range p (a + 1) n k both.1 later (omega (arith, high))
    ]
  where
    first_or_later : (a k : ℕ) → a ≤ k → (k ≡ a) ⊎ (a + 1 ≤ k)
    first_or_later a k low = grind arith
