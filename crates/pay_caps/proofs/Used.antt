-- How many of some sums are in use: all after these are 0, so that a walk may end there.
use Rattle.std.proofs.Common.{◌≡◌, ◌≢◌, ℕ, ◌+◌, ◌≤◌, ◌<◌, zero, suc, Bool, if◌then◌else◌, List, [], ◌∷◌, length, set, get_or, take, max, refl, ap, ◌∙◌, arith, get_or-set_other, inl, inr}
use Rattle.std.specs.Prelude.{◌⊎◌, replicate, sum}
use Rattle.std.specs.List.{zip}
use Rattle.std.proofs.lemmas.List.Sums.{sum_by-cons}
use Rattle.pay_caps.specs.declared.limits.TheConstants.{SPANS}
use Rattle.pay_caps.specs.Cells.{used_before, used_of}
use Rattle.pay_caps.proofs.Weights.{weighed, weighs_at_most}

-- ---- one sum more in front

later_used : (n used : ℕ) → used ≤ used_before n used
later_used zero zero = omega arith
later_used zero (suc used) = omega arith
later_used (suc n) used = omega arith

none_used : (n used : ℕ) → used_before n used ≤ 0 → n ≡ 0
none_used zero used h = refl
none_used (suc n) used h = absurd (omega (arith, h))

fewer_used : (n used i : ℕ) → used_before n used ≤ suc i → used ≤ i
fewer_used n zero i h = omega arith
fewer_used zero (suc used) i h = omega (arith, h)
fewer_used (suc n) (suc used) i h = omega (arith, h)

at_most_one_more : (n used : ℕ) → used_before n used ≤ used + 1
at_most_one_more zero zero = omega arith
at_most_one_more zero (suc used) = omega arith
at_most_one_more (suc n) used = omega arith

-- ---- what is in use

pub after_used : (ns : List ℕ) (i : ℕ) → used_of ns ≤ i → get_or ns i 0 ≡ 0
unfolding used_of
after_used [] i h = refl
after_used (n ∷ ns) zero h = none_used n (used_of ns) h
after_used (n ∷ ns) (suc i) h = after_used ns i (fewer_used n (used_of ns) i h)

pub used_at_most : (ns : List ℕ) (most : ℕ) → ((i : ℕ) → most ≤ i → get_or ns i 0 ≡ 0) → used_of ns ≤ most
unfolding used_of
used_at_most [] most h = omega arith
used_at_most (n ∷ ns) zero h = none_before n (used_of ns) (h zero (omega arith)) (used_at_most ns zero (λ i low. h (suc i) (omega arith)))
  where
    none_before : (n used : ℕ) → n ≡ 0 → used ≤ 0 → used_before n used ≤ 0
    none_before zero zero e low = omega arith
    none_before zero (suc used) e low = absurd (omega (arith, low))
    none_before (suc n) used e low = absurd (omega (arith, e))
used_at_most (n ∷ ns) (suc most) h = omega (arith, at_most_one_more n (used_of ns), used_at_most ns most (λ i low. h (suc i) (omega (arith, low))))

pub none_used_of_none : used_of (replicate SPANS 0) ≡ 0
unfolding used_of
none_used_of_none = refl

pub used_is_few : (ns : List ℕ) → used_of ns ≤ length ns
unfolding used_of
used_is_few [] = omega arith
used_is_few (n ∷ ns) = omega (arith, at_most_one_more n (used_of ns), used_is_few ns)

-- where a sum is changed, no more are in use than before, or than those through it
pub used_with_one : (ns : List ℕ) (place n : ℕ) → used_of (set ns place n) ≤ max (used_of ns) (place + 1)
used_with_one ns place n =
    used_at_most (set ns place n) (max (used_of ns) (place + 1)) (λ i low.
    let other : i ≢ place = omega (arith, low) in
    get_or-set_other ns place i n 0 other ∙ after_used ns i (omega (arith, low)))

-- a walk from after: past a 0, and to what is not 0
pub one_less_used : (ns : List ℕ) (place : ℕ) → used_of ns ≤ place + 1 → get_or ns place 0 ≡ 0 → used_of ns ≤ place
one_less_used ns place h none =
    used_at_most ns place (λ i low.
    elim (here_or_later place i low) [
      | inl here ↦ ap (λ (j : ℕ). get_or ns j 0) here ∙ none
      | inr later ↦ after_used ns i (omega (arith, h, later))
    ])
  where
    here_or_later : (place i : ℕ) → place ≤ i → (i ≡ place) ⊎ (place + 1 ≤ i)
    here_or_later place i low = grind arith

pub last_used : (ns : List ℕ) (place : ℕ) → used_of ns ≤ place + 1 → 0 < get_or ns place 0 → place + 1 ≡ used_of ns
last_used ns place h there =
    elim (all_or_fewer (used_of ns) place h) [
      | inl all ↦ all
      | inr fewer ↦ absurd (omega (arith, after_used ns place fewer, there))
    ]
  where
    all_or_fewer : (used place : ℕ) → used ≤ place + 1 → (place + 1 ≡ used) ⊎ (used ≤ place)
    all_or_fewer used place h = grind arith

-- ---- walks

pub nothing_after : (ns : List ℕ) → used_of ns ≤ 0 → sum ns ≡ 0
unfolding used_of
nothing_after [] h = refl
nothing_after (n ∷ ns) h = omega (arith, sum_by-cons (λ (m : ℕ). m) n ns, none_used n (used_of ns) h, later_used n (used_of ns), nothing_after ns (omega (arith, h, later_used n (used_of ns))))

pub sum_of_used : (ns : List ℕ) (used : ℕ) → used_of ns ≤ used → sum (take used ns) ≡ sum ns
unfolding used_of
sum_of_used [] zero h = refl
sum_of_used [] (suc used) h = refl
sum_of_used (n ∷ ns) zero h = omega (arith, nothing_after (n ∷ ns) h)
sum_of_used (n ∷ ns) (suc used) h =
    omega (arith, sum_by-cons (λ (m : ℕ). m) n ns, sum_by-cons (λ (m : ℕ). m) n (take used ns), sum_of_used ns used (fewer_used n (used_of ns) used h))

pub weighs_used : {X : Type 0} (g : X → Bool) (xs : List X) (ns : List ℕ) (used : ℕ) → used_of ns ≤ used → weighed g xs (take used ns) ≡ weighed g xs ns
unfolding used_of
weighs_used g [] ns used h = refl
weighs_used g (x ∷ xs) [] zero h = refl
weighs_used g (x ∷ xs) [] (suc used) h = refl
weighs_used g (x ∷ xs) (n ∷ ns) zero h = omega (arith, weighs_at_most g (x ∷ xs) (n ∷ ns), nothing_after (n ∷ ns) h)
weighs_used {X} g (x ∷ xs) (n ∷ ns) (suc used) h =
    let one : X × ℕ → ℕ = λ (one : X × ℕ). if g one.0 then one.1 else 0 in
    omega (arith, sum_by-cons one (x, n) (zip xs ns), sum_by-cons one (x, n) (zip xs (take used ns)), weighs_used g xs ns used (fewer_used n (used_of ns) used h))
