-- Proportions of a total, rounded down: how they grow, what they come to one after another, and how far they are from exact.
use Rattle.std.proofs.Common.{◌≡◌, ℕ, zero, suc, ◌+◌, ◌-◌, ◌*◌, ◌/◌, ◌^◌, ◌<◌, ◌≤◌, inl, inr, List, length, take, get_or, set, sum_by, ap, sym, ◌∙◌, subst, arith}
use Rattle.std.specs.Prelude.{sum}
use Rattle.std.specs.List.{range_with_len}
use Rattle.std.proofs.Math.Nat.{div-zero, zero-div, div-mul-le_self, lt-div-mul-add, div-le_of_le-mul, mul-div_cancel, mul-le-mul_left}
use Rattle.std.proofs.lemmas.Nat.{le-div, mul-lt}
use Rattle.std.proofs.lemmas.Bool.{cases_lt}
use Rattle.std.proofs.lemmas.List.{take_all, get_or_past}
use Rattle.std.proofs.lemmas.List.Edits.{fill_by_more}
use Rattle.std.proofs.lemmas.List.FromFn.{get_or-map-range_with_len, length-map-range_with_len}
use Rattle.std.proofs.lemmas.List.Sums.{sum_by-cons, sum_by_more, sum-map}
use Rattle.pay_money.specs.Shares.{proportion, part, parts, share, shares}

-- ---- one proportion

-- a product of two numbers of 64 bits has 128
pub product_fits : (total some : ℕ) → total < 2 ^ 64 → some < 2 ^ 64 → total * some < 2 ^ 128
product_fits total some p q = mul-lt total some (2 ^ 64) (2 ^ 64) p q

-- no more falls to some of a whole than all
pub proportion_at_most : (total some whole : ℕ) → some ≤ whole → proportion total some whole ≤ total
proportion_at_most total some whole h = div-le_of_le-mul whole (omega (arith, mul-le-mul_left total h))

-- no less falls to more of it
pub proportion_grows : (total some more whole : ℕ) → some ≤ more → proportion total some whole ≤ proportion total more whole
proportion_grows total some more zero h = omega (arith, div-zero (total * some))
proportion_grows total some more (suc n) h =
    le-div (total * some / suc n) (total * more) (suc n) (omega arith) (omega (arith, div-mul-le_self (total * some) (suc n), mul-le-mul_left total h))

none_of_it : (total whole : ℕ) → proportion total 0 whole ≡ 0
none_of_it total whole = let e : total * 0 ≡ 0 = omega arith in ap (λ (n : ℕ). n / whole) e ∙ zero-div whole

all_of_it : (total whole : ℕ) → 1 ≤ whole → proportion total whole whole ≡ total
all_of_it total whole h = mul-div_cancel total (omega arith)

all_covered : (total whole : ℕ) → total ≤ whole → proportion total whole whole ≡ total
all_covered total zero h = let e : 0 ≡ total = omega arith in div-zero (total * 0) ∙ e
all_covered total (suc n) h = all_of_it total (suc n) (omega arith)

-- ---- one after another

-- what a number grows by, step by step, is the difference of the last and the first
steps : (reached : ℕ → ℕ) → ((i : ℕ) → reached i ≤ reached (i + 1)) → (from count : ℕ)
    → sum_by (λ i. reached (i + 1) - reached i) (range_with_len from count) + reached from ≡ reached (from + count)
steps reached grows from zero = let e : from ≡ from + 0 = omega arith in omega (arith, ap reached e)
steps reached grows from (suc count) =
    let e : from + 1 + count ≡ from + suc count = omega arith in
    omega (
      arith,
      sum_by-cons (λ (i : ℕ). reached (i + 1) - reached i) from (range_with_len (from + 1) count),
      steps reached grows (from + 1) count,
      grows from,
      ap reached e,
    )

pub parts_together : (total count : ℕ) → 1 ≤ count → sum (parts total count) ≡ total
parts_together total count h =
    let reached : ℕ → ℕ = λ index. proportion total index count in
    let e : 0 + count ≡ count = omega arith in
    omega (
      arith,
      sum-map (part total count) (range_with_len 0 count),
      steps reached (λ i. proportion_grows total i (i + 1) count (omega arith)) 0 count,
      none_of_it total count,
      ap reached e ∙ all_of_it total count h,
    )

-- the weights so far grow by the next one; there is none after the last
pub weights_so_far : (weights : List ℕ) (index : ℕ) → sum (take (index + 1) weights) ≡ sum (take index weights) + get_or weights index 0
weights_so_far weights index = elim (cases_lt index (length weights)) [ inl within ↦ sum_by_more (λ n. n) weights index 0 within | inr past ↦ beyond past ]
  where
    beyond : length weights ≤ index → sum (take (index + 1) weights) ≡ sum (take index weights) + get_or weights index 0
    beyond past =
        omega (
          arith,
          ap sum (take_all (index + 1) weights (omega arith)),
          ap sum (take_all index weights past),
          get_or_past weights index 0 past,
        )

pub shares_together : (total : ℕ) (weights : List ℕ) → total ≤ sum weights → sum (shares total weights) ≡ total
shares_together total weights h =
    let reached : ℕ → ℕ = λ index. proportion total (sum (take index weights)) (sum weights) in
    let e : take (0 + length weights) weights ≡ weights = take_all (0 + length weights) weights (omega arith) in
    omega (
      arith,
      sum-map (share total weights) (range_with_len 0 (length weights)),
      steps reached (λ i. proportion_grows total _ _ (sum weights) (omega (arith, weights_so_far weights i))) 0 (length weights),
      none_of_it total (sum weights),
      ap (λ (list : List ℕ). proportion total (sum list) (sum weights)) e ∙ all_covered total (sum weights) h,
    )

-- a share is put where it stands
pub next_share : (total : ℕ) (weights : List ℕ) (place whole before given : ℕ) → whole ≡ sum weights → before ≡ sum (take place weights)
    → given ≡ proportion total (before + get_or weights place 0) whole - proportion total before whole → given ≡ share total weights place
next_share total weights place whole before given all so_far its =
    let through : before + get_or weights place 0 ≡ sum (take (place + 1) weights) = omega (arith, so_far, weights_so_far weights place) in
    its
    ∙ ap (λ (n : ℕ). proportion total n whole - proportion total before whole) through
    ∙ ap (λ (n : ℕ). proportion total (sum (take (place + 1) weights)) whole - proportion total n whole) so_far
    ∙ ap (λ (n : ℕ). proportion total (sum (take (place + 1) weights)) n - proportion total (sum (take place weights)) n) all

pub one_share_more : (total : ℕ) (weights list : List ℕ) (place given : ℕ) → place < length list → given ≡ share total weights place
    → ((k : ℕ) → k < place → get_or list k 0 ≡ share total weights k) → (k : ℕ) → k < place + 1 → get_or (set list place given) k 0 ≡ share total weights k
one_share_more total weights list place given within e before =
    let P : ℕ → Type 0 = λ put. (k : ℕ) → k < place + 1 → get_or (set list place put) k 0 ≡ share total weights k in
    subst P (sym e) (fill_by_more (share total weights) list place 0 within before)

-- ---- no weight

pub no_share : (total : ℕ) (weights : List ℕ) (index : ℕ) → get_or weights index 0 ≡ 0 → share total weights index ≡ 0
no_share total weights index h =
    let e : sum (take (index + 1) weights) ≡ sum (take index weights) = omega (arith, weights_so_far weights index, h) in
    omega (arith, ap (λ (n : ℕ). proportion total n (sum weights)) e)

-- ---- the list of all

pub part_there : (total count index : ℕ) → index < count → get_or (parts total count) index 0 ≡ part total count index
part_there total count index within = get_or-map-range_with_len (part total count) 0 count index index 0 within (omega arith)

pub share_there : (total : ℕ) (weights : List ℕ) (index : ℕ) → get_or (shares total weights) index 0 ≡ share total weights index
share_there total weights index = elim (cases_lt index (length weights)) [ inl within ↦ there within | inr past ↦ beyond past ]
  where
    there : index < length weights → get_or (shares total weights) index 0 ≡ share total weights index
    there within = get_or-map-range_with_len (share total weights) 0 (length weights) index index 0 within (omega arith)

    beyond : length weights ≤ index → get_or (shares total weights) index 0 ≡ share total weights index
    beyond past =
        get_or_past (shares total weights) index 0 (omega (arith, length-map-range_with_len (share total weights) 0 (length weights)))
        ∙ sym (no_share total weights index (get_or_past weights index 0 past))

-- ---- how far from exact

-- a gap between two numbers, and all three times a fourth
gap_times : (gap low high times : ℕ) → gap + low ≡ high → gap * times + low * times ≡ high * times
gap_times gap low high times e = omega (arith, ap (λ (n : ℕ). n * times) e)

-- the lower number is less than a penny below its exact one, and the higher is not above its own; or the other way round
gap_up : (gap low high total before weight whole : ℕ) → gap + low ≡ high → high * whole ≤ total * (before + weight) → total * before < low * whole + whole
    → gap * whole < total * weight + whole
gap_up gap low high total before weight whole e p q = omega (arith, gap_times gap low high whole e)

gap_down : (gap low high total before weight whole : ℕ) → gap + low ≡ high → total * (before + weight) < high * whole + whole → low * whole ≤ total * before
    → total * weight < gap * whole + whole
gap_down gap low high total before weight whole e p q = omega (arith, gap_times gap low high whole e)

-- what falls to some of a whole, and then to more of it
pub step_up : (total before weight whole : ℕ) → 1 ≤ whole
    → (proportion total (before + weight) whole - proportion total before whole) * whole < total * weight + whole
step_up total before weight whole h =
    let low : ℕ = proportion total before whole in
    let high : ℕ = proportion total (before + weight) whole in
    gap_up (high - low) low high total before weight whole (omega (arith, proportion_grows total before (before + weight) whole (omega arith)))
    (div-mul-le_self (total * (before + weight)) whole) (lt-div-mul-add (omega arith))

pub step_down : (total before weight whole : ℕ) → 1 ≤ whole
    → total * weight < (proportion total (before + weight) whole - proportion total before whole) * whole + whole
step_down total before weight whole h =
    let low : ℕ = proportion total before whole in
    let high : ℕ = proportion total (before + weight) whole in
    gap_down (high - low) low high total before weight whole (omega (arith, proportion_grows total before (before + weight) whole (omega arith)))
    (lt-div-mul-add (omega arith)) (div-mul-le_self (total * before) whole)

pub part_up : (total count index : ℕ) → 1 ≤ count → part total count index * count < total + count
part_up total count index h = omega (arith, step_up total index 1 count h)

pub part_down : (total count index : ℕ) → 1 ≤ count → total < part total count index * count + count
part_down total count index h = omega (arith, step_down total index 1 count h)

pub share_up : (total : ℕ) (weights : List ℕ) (index : ℕ) → 1 ≤ sum weights → share total weights index * sum weights < total * get_or weights index 0 + sum weights
share_up total weights index h =
    let P : ℕ → Type 0 = λ after. (proportion total after (sum weights) - proportion total (sum (take index weights)) (sum weights)) * sum weights < total * get_or weights index 0 + sum weights in
    subst P (sym (weights_so_far weights index)) (step_up total (sum (take index weights)) (get_or weights index 0) (sum weights) h)

pub share_down : (total : ℕ) (weights : List ℕ) (index : ℕ) → 1 ≤ sum weights → total * get_or weights index 0 < share total weights index * sum weights + sum weights
share_down total weights index h =
    let P : ℕ → Type 0 = λ after. total * get_or weights index 0 < (proportion total after (sum weights) - proportion total (sum (take index weights)) (sum weights)) * sum weights + sum weights in
    subst P (sym (weights_so_far weights index)) (step_down total (sum (take index weights)) (get_or weights index 0) (sum weights) h)
