-- The lowest of offers.
use Rattle.std.specs.Prelude.{◌≡◌, ℕ, ◌+◌, nat_lt, if◌then◌else◌, List, [], ◌∷◌, Option, Some, None, refl}
use Rattle.std.specs.List.{fold}
use Rattle.pay_tables.specs.declared.band.Band.{Band}

-- a price, and the band that gives it, by its place in the fare file, where one does
abbrev pub Offer : Type 0
Offer = ℕ × Option ℕ

-- the lower of two offers, and the first if they are alike
abbrev pub lower : Offer → Offer → Offer
lower first second = if nat_lt second.0 first.0 then second else first

-- the lowest of offers, and the first of several that are alike
abbrev pub lowest : Offer → List Offer → Offer
lowest first others = fold lower first others

-- what bands offer, the first of which stands at a place in the fare file: each its cap, and what it leaves outside
abbrev pub offers : (Band → ℕ) → (Band → ℕ) → ℕ → List Band → List Offer
offers cap outside place [] = []
offers cap outside place (band ∷ bands) = (cap band + outside band, Some place) ∷ offers cap outside (place + 1) bands

-- what is charged where all costs so much and each band leaves so much outside: no band is asked first, and then each in the order of the file
abbrev pub charged : (Band → ℕ) → ℕ → (Band → ℕ) → List Band → Offer
charged cap all outside bands = lowest (all, None) (offers cap outside 0 bands)

-- ---- worked rows

-- no band wins a tie, and of two bands the first does
tie_with_no_band : lowest (525, None) ((525, Some 0) ∷ []) ≡ (525, None)
tie_with_no_band = refl

tie_of_bands : lowest (700, None) ((525, Some 0) ∷ (525, Some 1) ∷ []) ≡ (525, Some 0)
tie_of_bands = refl

a_later_band : lowest (1_200, None) ((1_070, Some 0) ∷ (1_050, Some 1) ∷ (1_060, Some 2) ∷ []) ≡ (1_050, Some 1)
a_later_band = refl
