-- Which journeys a band covers.
use Rattle.std.specs.Prelude.{Bool, true, false}
use Rattle.pay_tables.specs.declared.band.Band.{Band}
use Rattle.pay_tables.specs.Words.{FareTables, covers_span}
use Rattle.pay_rules.specs.declared.journey.Journey.{Journey}
use Rattle.pay_rules.specs.Runs.{span_of_legs, span_of_station}
use Rattle.pay_rules.specs.declared.journey.Journey.TheVariants.{Run, Same, Lone, Bus}

-- A band of zones covers the journeys by rail whose span lies within them, and all boardings; the bus band covers the boardings alone. A rail tap
-- without its partner is covered by none.
abbrev pub covers : FareTables → Band → Journey → Bool
covers tables band (Run legs) = covers_span band.cover (span_of_legs tables legs)
covers tables band (Same leg) = covers_span band.cover (span_of_station tables leg.entry.place)
covers tables band (Lone tap) = false
covers tables band (Bus tap pays) = true

-- whether caps hold for a journey: for all but a rail tap without its partner
abbrev pub is_capped : Journey → Bool
is_capped (Run legs) = true
is_capped (Same leg) = true
is_capped (Lone tap) = false
is_capped (Bus tap pays) = true
