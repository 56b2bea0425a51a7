-- A run that may go on, while the parts are read.
use Rattle.std.specs.Prelude.{List, [], ◌∷◌, ◌++◌, Option, Some, None}
use Rattle.pay_tables.specs.Words.{FareTables}
use Rattle.pay_rules.specs.declared.parts.RailPart.{RailPart}
use Rattle.pay_rules.specs.LinkedLegs.{LinkedLegs}
use Rattle.pay_rules.specs.RailJourneys.{run_before, journeys}
use Rattle.pay_rules.specs.declared.journey.Journey.{Journey}
use Rattle.pay_rules.specs.declared.journey.Journey.TheVariants as journey

-- what it is, if no leg is linked with its last one
abbrev pub closed : Option LinkedLegs → List Journey
closed None = []
closed (Some run) = journey.Run run ∷ []

-- the journeys, if these are after it
abbrev pub open_before : FareTables → Option LinkedLegs → List Journey → List Journey
open_before tables None later = later
open_before tables (Some run) later = run_before tables run later

-- all journeys, if these are done, this run may go on, and these parts are still to come
abbrev pub journeys_with : FareTables → List Journey → Option LinkedLegs → List RailPart → List Journey
journeys_with tables done run later = done ++ open_before tables run (journeys tables later)
