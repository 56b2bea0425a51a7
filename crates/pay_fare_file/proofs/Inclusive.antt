-- A range with its end, as the list of its numbers.
use Rattle.std.proofs.Common.{◌≡◌, ℕ, ◌+◌, ◌-◌, zero, suc, false, Option, refl, sym, ap, subst, ◌∙◌, arith, inl, inr}
use Rattle.std.specs.List.{range_with_len}
use Rattle.std.specs.Iterator.{AlwaysYields}
use Rattle.std.specs.Range.{range_inclusive_start, range_inclusive_end, range_inclusive_exhausted, range_inclusive_left, range_inclusive_steps}
use Rattle.std.specs.declared.ops.RangeInclusive.{RangeInclusive}
use Rattle.std.proofs.lemmas.Bool.{cases_Bool}
use Rattle.std.proofs.lemmas.Iterator.{YieldsList}

abbrev gap : ℕ → ℕ → ℕ
gap a b = b - a

abbrev steps : RangeInclusive ℕ → Option ℕ → RangeInclusive ℕ → Type 0
steps = range_inclusive_steps gap (λ a b. b ≡ a + 1)

-- one that is spent has no number left
same_rest : (a n : ℕ) (s : RangeInclusive ℕ) → range_inclusive_left gap s ≡ n → (range_inclusive_exhausted s ≡ false → range_inclusive_start s ≡ a + 1) → range_with_len (range_inclusive_start s) n ≡ range_with_len (a + 1) n
same_rest a n s e next =
    elim (cases_Bool (range_inclusive_exhausted s)) [
      | inl spent ↦ let none : n ≡ 0 = sym e ∙ rw spent refl in rw none refl
      | inr more ↦ ap (λ b. range_with_len b n) (next more)
    ]

yields : (n : ℕ) (s : RangeInclusive ℕ) → range_inclusive_left gap s ≡ n → AlwaysYields steps (λ x. x) s (range_with_len (range_inclusive_start s) n)
yields zero s e = λ x t h. omega (arith, e, h.1.1)
yields (suc n) s e = (
  (λ t h. omega (arith, e, h.1.0)),
  λ x t h.
      let fewer : range_inclusive_left gap t ≡ n = omega (arith, e, h.1.1) in
      (h.1.0, subst (AlwaysYields steps (λ y. y) t) (same_rest (range_inclusive_start s) n t fewer h.1.2) (yields n t fewer)),
)

left_of : (s : RangeInclusive ℕ) (a b n : ℕ) → range_inclusive_start s ≡ a → range_inclusive_end s ≡ b → range_inclusive_exhausted s ≡ false → b + 1 - a ≡ n → range_inclusive_left gap s ≡ n
left_of s a b n start end more e = rw (start, end, more) (omega arith)

pub YieldsList-from_inclusive : {s : RangeInclusive ℕ} (a b n : ℕ) → range_inclusive_start s ≡ a → range_inclusive_end s ≡ b → range_inclusive_exhausted s ≡ false → b + 1 - a ≡ n → YieldsList steps (λ x. x) s (range_with_len a n)
YieldsList-from_inclusive {s} a b n start end more e = record { runs = subst (λ c. AlwaysYields steps (λ x. x) s (range_with_len c n)) start (yields n s (left_of s a b n start end more e)) }
