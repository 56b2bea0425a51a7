-- How a journey's fare is divided among operators.
use Rattle.std.specs.Prelude.{ℕ, List, [], ◌∷◌, length, map}
use Rattle.std.specs.List.{enumerate_from}
use Rattle.pay_money.specs.Words.{part}
use Rattle.pay_tables.specs.declared.place.Place.{Place}
use Rattle.pay_tables.specs.declared.place.Place.TheVariants.{Station, Route}
use Rattle.pay_tables.specs.Words.{FareTables, station_at}
use Rattle.pay_rules.specs.declared.parts.Leg.{Leg}
use Rattle.pay_rules.specs.LinkedLegs.{all_legs}
use Rattle.pay_rules.specs.declared.journey.Journey.{Journey}
use Rattle.pay_rules.specs.declared.journey.Journey.TheVariants.{Run, Same, Lone, Bus}

-- whose a station or a route is
abbrev pub operator_of : Place → ℕ
operator_of (Station low high operator) = operator
operator_of (Route operator) = operator

-- whose the place at a number is; a number without a place, which no accepted tap has, counts as one of operator 1
abbrev pub operator_at : FareTables → ℕ → ℕ
operator_at tables place = operator_of (station_at tables place)

-- pence of a fare, and the operator that they fall to
pub record Portion : Type 0 where
  pub operator : ℕ
  pub pence : ℕ

-- pence that fall to the operator of a place
abbrev pub portion : FareTables → ℕ → ℕ → Portion
portion tables place pence = record { operator = operator_at tables place; pence = pence }

-- what falls to the operator of the station where a leg began: of so many parts of the fare the one at the leg's place, from 0 on
abbrev pub leg_portion : FareTables → ℕ → ℕ → ℕ × Leg → Portion
leg_portion tables legs fare one = portion tables one.1.entry.place (part fare legs one.0)

abbrev pub leg_portions : FareTables → List Leg → ℕ → List Portion
leg_portions tables legs fare = map (leg_portion tables (length legs) fare) (enumerate_from 0 legs)

-- The portions of a journey's fare. Of linked legs each has an equal part, which falls to the operator of the station where the leg began. The fare of
-- a leg that ends where it began, of a lone tap and of a boarding falls to the operator of its place.
abbrev pub portions : FareTables → Journey → ℕ → List Portion
portions tables (Run legs) fare = leg_portions tables (all_legs legs) fare
portions tables (Same leg) fare = portion tables leg.entry.place fare ∷ []
portions tables (Lone tap) fare = portion tables tap.place fare ∷ []
portions tables (Bus tap pays) fare = portion tables tap.place fare ∷ []
