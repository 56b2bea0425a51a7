-- The lowest of offers.
use Rattle.std.proofs.Common.{◌≡◌, ℕ, ◌+◌, ◌≤◌, ◌<◌, Bool, true, false, if◌then◌else◌, List, [], ◌∷◌, ◌++◌, length, get_or, drop, drop-cons, add-one, Some, None, refl, ap, sym, ◌∙◌, arith}
use Rattle.std.specs.Prelude.{nat_lt}
use Rattle.std.proofs.lemmas.Bool.Decides.{nat_tests}
use Rattle.pay_tables.specs.declared.band.Band.{Band}
use Rattle.pay_rules.specs.Lowest.{Offer, lower, lowest, offers, charged}

-- the lower of two is as low as either
lower_at_most_first : (first second : Offer) → (lower first second).0 ≤ first.0
lower_at_most_first first second = chosen (nat_lt second.0 first.0) first second (λ e. grind (arith, nat_tests))
  where
    chosen : (b : Bool) (first second : Offer) → (b ≡ true → second.0 ≤ first.0) → (if b then second else first).0 ≤ first.0
    chosen true first second h = h refl
    chosen false first second h = omega arith

lower_at_most_second : (first second : Offer) → (lower first second).0 ≤ second.0
lower_at_most_second first second = chosen (nat_lt second.0 first.0) first second (λ e. grind (arith, nat_tests))
  where
    chosen : (b : Bool) (first second : Offer) → (b ≡ false → first.0 ≤ second.0) → (if b then second else first).0 ≤ second.0
    chosen true first second h = omega arith
    chosen false first second h = h refl

lower_at_least : (first second : Offer) (n : ℕ) → n ≤ first.0 → n ≤ second.0 → n ≤ (lower first second).0
lower_at_least first second n h k = chosen (nat_lt second.0 first.0) first second n h k
  where
    chosen : (b : Bool) (first second : Offer) (n : ℕ) → n ≤ first.0 → n ≤ second.0 → n ≤ (if b then second else first).0
    chosen true first second n h k = k
    chosen false first second n h k = h

pub lowest_at_most : (first : Offer) (others : List Offer) → (lowest first others).0 ≤ first.0
lowest_at_most first [] = omega arith
lowest_at_most first (other ∷ others) = omega (arith, lowest_at_most (lower first other) others, lower_at_most_first first other)

pub charged_at_most_all : (cap : Band → ℕ) (all : ℕ) (outside : Band → ℕ) (bands : List Band) → (charged cap all outside bands).0 ≤ all
charged_at_most_all cap all outside bands = lowest_at_most (all, None) (offers cap outside 0 bands)

lowest_at_most_band : (cap outside : Band → ℕ) (first : Offer) (place : ℕ) (before : List Band) (band : Band) (after : List Band)
    → (lowest first (offers cap outside place (before ++ band ∷ after))).0 ≤ cap band + outside band
lowest_at_most_band cap outside first place [] band after =
    let offer : Offer = (cap band + outside band, Some place) in
    omega (arith, lowest_at_most (lower first offer) (offers cap outside (place + 1) after), lower_at_most_second first offer)
lowest_at_most_band cap outside first place (other ∷ before) band after =
    lowest_at_most_band cap outside (lower first (cap other + outside other, Some place)) (place + 1) before band after

pub charged_at_most_band : (cap : Band → ℕ) (all : ℕ) (outside : Band → ℕ) (bands before : List Band) (band : Band) (after : List Band) → bands ≡ before ++ band ∷ after
    → (charged cap all outside bands).0 ≤ cap band + outside band
charged_at_most_band cap all outside bands before band after e =
    rw e (lowest_at_most_band cap outside (all, None) 0 before band after)

-- where each band leaves as much outside, as much is charged
offers_same : (cap f g : Band → ℕ) → ((band : Band) → f band ≡ g band) → (place : ℕ) (bands : List Band) → offers cap f place bands ≡ offers cap g place bands
offers_same cap f g h place [] = refl
offers_same cap f g h place (band ∷ bands) =
    ap (λ (n : ℕ). (cap band + n, Some place) ∷ offers cap f (place + 1) bands) (h band)
    ∙ ap (λ (rest : List Offer). (cap band + g band, Some place) ∷ rest) (offers_same cap f g h (place + 1) bands)

pub charged_same : (cap : Band → ℕ) (all other : ℕ) (f g : Band → ℕ) (bands : List Band) → all ≡ other → ((band : Band) → f band ≡ g band) → charged cap all f bands ≡ charged cap other g bands
charged_same cap all other f g bands e h =
    ap (λ (n : ℕ). charged cap n f bands) e ∙ ap (λ (those : List Offer). lowest (other, None) those) (offers_same cap f g h 0 bands)

-- where each leaves more outside, no less is charged
lowest_grows : (cap f g : Band → ℕ) → ((band : Band) → f band ≤ g band) → (first other : Offer) → first.0 ≤ other.0 → (place : ℕ) (bands : List Band)
    → (lowest first (offers cap f place bands)).0 ≤ (lowest other (offers cap g place bands)).0
lowest_grows cap f g h first other e place [] = e
lowest_grows cap f g h first other e place (band ∷ bands) =
    let mine : Offer = (cap band + f band, Some place) in
    let its : Offer = (cap band + g band, Some place) in
    lowest_grows cap f g h (lower first mine) (lower other its)
    (lower_at_least other its (lower first mine).0 (omega (arith, lower_at_most_first first mine, e)) (omega (arith, lower_at_most_second first mine, h band)))
    (place + 1) bands

pub charged_grows : (cap : Band → ℕ) (all other : ℕ) (f g : Band → ℕ) (bands : List Band) → all ≤ other → ((band : Band) → f band ≤ g band) → (charged cap all f bands).0 ≤ (charged cap other g bands).0
charged_grows cap all other f g bands e h = lowest_grows cap f g h (all, None) (other, None) e 0 bands

-- one band after another, in the order of the file
pub next_offer : (cap outside : Band → ℕ) (best now whole : Offer) (bands : List Band) (place : ℕ) (band : Band) → place < length bands → band ≡ get_or bands place band
    → now ≡ lower best (cap band + outside band, Some place) → lowest best (offers cap outside place (drop place bands)) ≡ whole
    → lowest now (offers cap outside (place + 1) (drop (place + 1) bands)) ≡ whole
next_offer cap outside best now whole bands place band below is same before =
    ap (λ (o : Offer). lowest o (offers cap outside (place + 1) (drop (place + 1) bands))) (same ∙ ap (λ (b : Band). lower best (cap b + outside b, Some place)) is)
    ∙ ap (λ (j : ℕ). lowest (lower best (cap (get_or bands place band) + outside (get_or bands place band), Some place)) (offers cap outside (place + 1) (drop j bands))) (add-one place)
    ∙ ap (λ (rest : List Band). lowest best (offers cap outside place rest)) (sym (drop-cons bands place band below))
    ∙ before
