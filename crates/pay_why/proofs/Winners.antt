-- Which offer wins, and the reason that names it.
use Rattle.std.proofs.Common.{◌≡◌, ℕ, zero, suc, ◌+◌, ◌<◌, ◌≤◌, ◌⊎◌, inl, inr, Bool, true, false, nat_lt, if◌then◌else◌, List, [], ◌∷◌, slice_get, option_map, Option, Some, None, refl, ap, sym, ◌∙◌, arith}
use Rattle.std.proofs.lemmas.Bool.Decides.{nat_tests}
use Rattle.pay_tables.specs.declared.band.Band.{Band}
use Rattle.pay_rules.specs.Lowest.{Offer, lower, lowest, offers, charged}
use Rattle.pay_why.specs.declared.cap.CappedBand.{CappedBand}
use Rattle.pay_why.specs.Caps.{Offered, winning, capped_band, band_at, cap_reason}
use Rattle.pay_why.specs.CapLaws.{offer_of, Wins, NamedBandsWin, NoneNamedIsLeast, ReasonsNameWinners}

-- the band at a place beyond the first ones has the least offer: below another price and the offers of the bands before it
record IsLowest (price : Band → ℕ) (bands : List Band) (below : ℕ) (place : ℕ) (band : Band) : Type 0 where
  there : slice_get bands place ≡ Some band
  below_it : price band < below
  below_earlier : (other : ℕ) (its : Band) → slice_get bands other ≡ Some its → other < place → price band < price its
  least : (other : ℕ) (its : Band) → slice_get bands other ≡ Some its → price band ≤ price its

-- no band offers less than a price
abbrev NoneIsLower : (Band → ℕ) → List Band → ℕ → Type 0
NoneIsLower price bands at = (place : ℕ) (band : Band) → slice_get bands place ≡ Some band → at ≤ price band

-- what comes of bands of which the first stands at a place: the best so far, or the lowest of theirs
record WonBy (cap outside : Band → ℕ) (best : Offer) (from : ℕ) (bands : List Band) (place : ℕ) (band : Band) : Type 0 where
  offer : lowest best (offers cap outside from bands) ≡ (cap band + outside band, Some (from + place))
  lowest : IsLowest (λ its. cap its + outside its) bands best.0 place band

abbrev Outcome : (Band → ℕ) → (Band → ℕ) → Offer → ℕ → List Band → Type 0
Outcome cap outside best from bands =
    ((lowest best (offers cap outside from bands) ≡ best) × NoneIsLower (λ its. cap its + outside its) bands best.0)
    ⊎ ((place : ℕ) × (band : Band) × WonBy cap outside best from bands place band)

same_first : {X : Type 0} (x y : X) (rest : List X) → slice_get (x ∷ rest) 0 ≡ Some y → x ≡ y
same_first x y rest e = cc

none_lower : (price : Band → ℕ) (band : Band) (bands : List Band) (at : ℕ) → at ≤ price band → NoneIsLower price bands at → NoneIsLower price (band ∷ bands) at
none_lower price band bands at h rest zero its e = rw (sym (same_first band its bands e)) h
none_lower price band bands at h rest (suc place) its e = rest place its e

-- the first band wins where no later one is lower
first_wins : (price : Band → ℕ) (band : Band) (bands : List Band) (at : ℕ) → price band < at → NoneIsLower price bands (price band) → IsLowest price (band ∷ bands) at 0 band
first_wins price band bands at h rest = record {
  there = refl;
  below_it = h;
  below_earlier = λ other its e earlier. absurd (omega (arith, earlier));
  least = none_lower price band bands (price band) (omega arith) rest;
}

-- a later one wins where it is below the first as well
later_wins : (price : Band → ℕ) (band : Band) (bands : List Band) (at : ℕ) (place : ℕ) (winner : Band) → IsLowest price bands at place winner → price winner < price band
    → IsLowest price (band ∷ bands) at (suc place) winner
later_wins price band bands at place winner wins h = record {
  there = wins.there;
  below_it = wins.below_it;
  below_earlier = earlier;
  least = none_lower price band bands (price winner) (omega (arith, h)) wins.least;
}
  where
    earlier : (other : ℕ) (its : Band) → slice_get (band ∷ bands) other ≡ Some its → other < suc place → price winner < price its
    earlier zero its e before = rw (sym (same_first band its bands e)) h
    earlier (suc other) its e before = wins.below_earlier other its e (omega (arith, before))

lower_at : {price : Band → ℕ} {bands : List Band} {at other : ℕ} {place : ℕ} {winner : Band} → at ≤ other → IsLowest price bands at place winner → IsLowest price bands other place winner
lower_at h wins = record { there = wins.there; below_it = omega (arith, h, wins.below_it); below_earlier = wins.below_earlier; least = wins.least }

-- a place, said in another way
told_at : (price n m : ℕ) → n ≡ m → ◌≡◌ {A = Offer} (price, Some n) (price, Some m)
told_at price n m e = ap (λ (its : ℕ). (price, Some its)) e

-- by whether the first band is lower than the best so far
one_more : (cap outside : Band → ℕ) (best : Offer) (from : ℕ) (band : Band) (bands : List Band) (b : Bool) → nat_lt (cap band + outside band) best.0 ≡ b
    → Outcome cap outside (if b then (cap band + outside band, Some from) else best) (from + 1) bands
    → ((lowest (if b then (cap band + outside band, Some from) else best) (offers cap outside (from + 1) bands) ≡ best) × NoneIsLower (λ its. cap its + outside its) (band ∷ bands) best.0)
    ⊎ ((place : ℕ)
    × (winner : Band)
    × (lowest (if b then (cap band + outside band, Some from) else best) (offers cap outside (from + 1) bands) ≡ (cap winner + outside winner, Some (from + place)))
    × IsLowest (λ its. cap its + outside its) (band ∷ bands) best.0 place winner)
one_more cap outside best from band bands true h (inl rest) =
    inr (
      0,
      band,
      rest.0 ∙ told_at (cap band + outside band) from (from + 0) (omega arith),
      first_wins (λ its. cap its + outside its) band bands best.0 (grind (arith, nat_tests, h)) rest.1,
    )
one_more cap outside best from band bands true h (inr rest) =
    let wins = rest.2.lowest in
    inr (
      suc rest.0,
      rest.1,
      rest.2.offer ∙ told_at (cap rest.1 + outside rest.1) (from + 1 + rest.0) (from + suc rest.0) (omega arith),
      later_wins (λ its. cap its + outside its) band bands best.0 rest.0 rest.1 (lower_at (grind (arith, nat_tests, h)) wins) wins.below_it,
    )
one_more cap outside best from band bands false h (inl rest) =
    inl (rest.0, none_lower (λ its. cap its + outside its) band bands best.0 (grind (arith, nat_tests, h)) rest.1)
one_more cap outside best from band bands false h (inr rest) =
    let wins = rest.2.lowest in
    let not_lower : best.0 ≤ cap band + outside band = grind (arith, nat_tests, h) in
    inr (
      suc rest.0,
      rest.1,
      rest.2.offer ∙ told_at (cap rest.1 + outside rest.1) (from + 1 + rest.0) (from + suc rest.0) (omega arith),
      later_wins (λ its. cap its + outside its) band bands best.0 rest.0 rest.1 wins (omega (arith, not_lower, wins.below_it)),
    )

as_outcome : (cap outside : Band → ℕ) (best : Offer) (from : ℕ) (bands : List Band)
    → ((lowest best (offers cap outside from bands) ≡ best) × NoneIsLower (λ its. cap its + outside its) bands best.0)
    ⊎ ((place : ℕ)
    × (winner : Band)
    × (lowest best (offers cap outside from bands) ≡ (cap winner + outside winner, Some (from + place)))
    × IsLowest (λ its. cap its + outside its) bands best.0 place winner)
    → Outcome cap outside best from bands
as_outcome cap outside best from bands (inl none) = inl none
as_outcome cap outside best from bands (inr won) = inr (won.0, won.1, record { offer = won.2; lowest = won.3 })

outcome : (cap outside : Band → ℕ) (best : Offer) (from : ℕ) (bands : List Band) → Outcome cap outside best from bands
outcome cap outside best from [] = inl (refl, λ place band e. absurd (cc))
outcome cap outside best from (band ∷ bands) =
    as_outcome cap outside best from (band ∷ bands)
    (one_more cap outside best from band bands (nat_lt (cap band + outside band) best.0) refl (outcome cap outside (lower best (cap band + outside band, Some from)) (from + 1) bands))

-- ---- the reason that names it

-- no band has won
abbrev NoneWins : Offered → Type 0
NoneWins offered = (winning offered ≡ (offered.uncapped, None)) × NoneIsLower (offer_of offered) offered.bands offered.uncapped

-- a band has won
record HasWon (offered : Offered) (place : ℕ) (band : Band) : Type 0 where
  offer : winning offered ≡ (offer_of offered band, Some place)
  wins : Wins offered place band

won : (offered : Offered) → NoneWins offered ⊎ ((place : ℕ) × (band : Band) × HasWon offered place band)
won offered = by_outcome (outcome offered.cap offered.outside (offered.uncapped, None) 0 offered.bands)
  where
    by_outcome : Outcome offered.cap offered.outside (offered.uncapped, None) 0 offered.bands → NoneWins offered ⊎ ((place : ℕ) × (band : Band) × HasWon offered place band)
    by_outcome (inl none) = inl none
    by_outcome (inr found) =
        let lowest = found.2.lowest in
        inr (
          found.0,
          found.1,
          record {
            offer = found.2.offer ∙ told_at (offer_of offered found.1) (0 + found.0) found.0 (omega arith);
            wins = record { there = lowest.there; below_all = lowest.below_it; below_earlier = lowest.below_earlier; least = lowest.least };
          },
        )

named_by : (offered : Offered) (place : ℕ) (band : Band) → HasWon offered place band → band_at offered (winning offered).1 ≡ Some (capped_band offered place band)
named_by offered place band has =
    ap (λ (offer : Offer). band_at offered offer.1) has.offer ∙ ap (option_map (capped_band offered place)) has.wins.there

none_by : (offered : Offered) → winning offered ≡ (offered.uncapped, None) → band_at offered (winning offered).1 ≡ None
none_by offered e = ap (λ (offer : Offer). band_at offered offer.1) e

inner : {one other : CappedBand} → Some one ≡ Some other → one ≡ other
inner e = cc

pub named_win : NamedBandsWin
named_win offered named e = by_winner (won offered)
  where
    by_winner : NoneWins offered ⊎ ((place : ℕ) × (band : Band) × HasWon offered place band)
        → (band : Band) × Wins offered named.place band × (named ≡ capped_band offered named.place band) × ((cap_reason offered).price ≡ named.cap + named.outside + offered.maximum)
    by_winner (inl none) = absurd (let h = sym e ∙ none_by offered none.0 in cc)
    by_winner (inr found) =
        let is : named ≡ capped_band offered found.0 found.1 = inner (sym e ∙ named_by offered found.0 found.1 found.2) in
        let price : (cap_reason offered).price ≡ offer_of offered found.1 + offered.maximum = ap (λ (offer : Offer). offer.0 + offered.maximum) found.2.offer in
        (found.1, rw is found.2.wins, rw is refl, rw is price)

pub none_is_least : NoneNamedIsLeast
none_is_least offered e = by_winner (won offered)
  where
    by_winner : NoneWins offered ⊎ ((place : ℕ) × (band : Band) × HasWon offered place band)
        → ((cap_reason offered).price ≡ offered.uncapped + offered.maximum) × NoneIsLower (offer_of offered) offered.bands offered.uncapped
    by_winner (inl none) = (ap (λ (offer : Offer). offer.0 + offered.maximum) none.0, none.1)
    by_winner (inr found) = absurd (let h = sym e ∙ named_by offered found.0 found.1 found.2 in cc)

pub name_winners : ReasonsNameWinners
name_winners offered = by_winner (won offered)
  where
    by_winner : NoneWins offered ⊎ ((place : ℕ) × (band : Band) × HasWon offered place band)
        → option_map (λ (named : CappedBand). named.place) (cap_reason offered).band ≡ (winning offered).1
    by_winner (inl none) = ap (option_map (λ (named : CappedBand). named.place)) (none_by offered none.0) ∙ sym (ap (λ (offer : Offer). offer.1) none.0)
    by_winner (inr found) =
        ap (option_map (λ (named : CappedBand). named.place)) (named_by offered found.0 found.1 found.2) ∙ sym (ap (λ (offer : Offer). offer.1) found.2.offer)
