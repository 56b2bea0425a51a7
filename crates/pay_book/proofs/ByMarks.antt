-- Journeys by rail that are read back from marks and taps.
use Rattle.std.proofs.Common.{◌≡◌, ℕ, zero, suc, ◌+◌, ◌<◌, ◌≤◌, Bool, true, false, List, [], ◌∷◌, ◌++◌, length, take, drop, get_or, slice_get, Some, refl, sym, ap, ◌∙◌, append_assoc, arith}
use Rattle.pay_rules.specs.declared.tap.Touch.{Touch}
use Rattle.pay_rules.specs.declared.journey.Journey.{Journey}
use Rattle.pay_links.specs.Starts.{journey_of_taps, until_start, journeys_by_marks}
use Rattle.pay_book.proofs.Boarded.{at_place}

-- the taps before the next start are as many as marks before it
pub stops_at : (marks : List Bool) (taps : List Touch) (n : ℕ) → n ≤ length marks → length marks ≡ length taps → ((k : ℕ) → k < n → get_or marks k true ≡ false) → (n < length marks → get_or marks n false ≡ true)
    → until_start marks taps ≡ take n taps
stops_at [] taps zero few same none at = refl
stops_at [] taps (suc n) few same none at = absurd (omega arith)
stops_at (true ∷ marks) taps zero few same none at = refl
stops_at (true ∷ marks) taps (suc n) few same none at = let first = none 0 (omega arith) in absurd (cc)
stops_at (false ∷ marks) taps zero few same none at = let first = at (omega arith) in absurd (cc)
stops_at (false ∷ marks) [] (suc n) few same none at = absurd (omega arith)
stops_at (false ∷ marks) (tap ∷ taps) (suc n) few same none at =
    ap (λ (l : List Touch). tap ∷ l) (stops_at marks taps n (omega arith) (omega arith) (λ k lt. none (suc k) (omega arith)) (λ lt. at (omega arith)))

-- and where none follows, all of them
pub stops_never : (marks : List Bool) (taps : List Touch) → length marks ≡ length taps → ((k : ℕ) → k < length marks → get_or marks k true ≡ false) → until_start marks taps ≡ taps
stops_never [] [] same none = refl
stops_never [] (tap ∷ taps) same none = absurd (omega arith)
stops_never (true ∷ marks) taps same none = let first = none 0 (omega arith) in absurd (cc)
stops_never (false ∷ marks) [] same none = refl
stops_never (false ∷ marks) (tap ∷ taps) same none = ap (λ (l : List Touch). tap ∷ l) (stops_never marks taps (omega arith) (λ k lt. none (suc k) (omega arith)))

-- the journeys from a place on
abbrev pub rest_by_marks : List Bool → List Touch → ℕ → List Journey
rest_by_marks marks taps place = journeys_by_marks (drop place marks) (drop place taps)

module _ (marks : List Bool) (taps : List Touch) (place : ℕ) (tap : Touch) (list all : List Journey) (at : slice_get taps place ≡ Some tap) where
  next : suc place ≡ place + 1
  next = omega arith

  -- one starts at the next tap
  pub one_started : (more : List Journey) (one : Journey) → slice_get marks place ≡ Some true → one ≡ journey_of_taps tap (until_start (drop (place + 1) marks) (drop (place + 1) taps)) → more ≡ list ++ one ∷ []
      → list ++ rest_by_marks marks taps place ≡ all → more ++ rest_by_marks marks taps (place + 1) ≡ all
  one_started more one marked is added whole =
      let rest : List Journey = rest_by_marks marks taps (suc place) in
      let first : rest_by_marks marks taps place ≡ one ∷ rest =
      (λ i. journeys_by_marks (at_place marks place true marked i) (at_place taps place tap at i))
      ∙ ap (λ (n : ℕ). journey_of_taps tap (until_start (drop n marks) (drop n taps)) ∷ rest) next ∙ ap (λ (j : Journey). j ∷ rest) (sym is) in
      ap (λ (n : ℕ). more ++ rest_by_marks marks taps n) (sym next) ∙ ap (λ (l : List Journey). l ++ rest) added ∙ append_assoc list (one ∷ []) rest
      ∙ ap (λ (l : List Journey). list ++ l) (sym first) ∙ whole

  -- none does
  pub none_started : slice_get marks place ≡ Some false → list ++ rest_by_marks marks taps place ≡ all → list ++ rest_by_marks marks taps (place + 1) ≡ all
  none_started marked whole =
      let first : rest_by_marks marks taps place ≡ rest_by_marks marks taps (suc place) = λ i. journeys_by_marks (at_place marks place false marked i) (at_place taps place tap at i) in
      ap (λ (n : ℕ). list ++ rest_by_marks marks taps n) (sym next) ∙ ap (λ (l : List Journey). list ++ l) (sym first) ∙ whole
