-- Legs one after another, one at least, and how they are stored, so that a model may hold them.
use Rattle.std.specs.Prelude.{List, [], ◌∷◌, ◌++◌, refl}
use Rattle.std.specs.Coded.{Coded, code_by, coded×, coded_list}
use Rattle.pay_rules.specs.declared.parts.Leg.{Leg}
use Rattle.pay_rules.specs.contracts.parts.Leg as leg

-- legs one after another; those of a run are linked, by `IsRun`
pub record LinkedLegs : Type 0 where
  pub first : Leg
  pub others : List Leg

-- all of them, in order
abbrev pub all_legs : LinkedLegs → List Leg
all_legs legs = legs.first ∷ legs.others

-- the last of legs that begin so
abbrev pub last_after : Leg → List Leg → Leg
last_after leg [] = leg
last_after leg (next ∷ later) = last_after next later

-- the last of them
abbrev pub last_leg : LinkedLegs → Leg
last_leg legs = last_after legs.first legs.others

-- legs and the ones that go on from them
abbrev pub joined : LinkedLegs → LinkedLegs → LinkedLegs
joined legs later = record { first = legs.first; others = legs.others ++ all_legs later }

abbrev pub legs_code : Coded LinkedLegs
legs_code = code_by (Leg × List Leg) (coded× leg.the_row.coded (coded_list leg.the_row.coded)) (λ l. (l.first, l.others)) (λ p. record { first = p.0; others = p.1 }) (λ _. refl)
