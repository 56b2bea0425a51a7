-- Where a tap may be made.
use Rattle.std.specs.Prelude.{ℕ, Bool, true, false, Option, Some}
use Rattle.std.specs.FinMap as map
use Rattle.pay_tables.specs.Words.{FareEditions}
use Rattle.pay_tables.specs.declared.place.Place.{Place}
use Rattle.pay_tables.specs.declared.place.Place.TheVariants.{Station, Route}
use Rattle.pay_rules.specs.declared.tap.Kind.{Kind}
use Rattle.pay_rules.specs.declared.tap.Kind.TheVariants.{In, Out, Bus}
use Rattle.pay_rules.specs.declared.fix.What.{What}
use Rattle.pay_rules.specs.declared.fix.What.TheVariants.{Fill}

-- a touch in or out fits a station, one on a bus or a tram fits a route, and none fits no place
abbrev pub fits : Kind → Option Place → Bool
fits In (Some (Station low high operator)) = true
fits Out (Some (Station low high operator)) = true
fits Bus (Some (Route operator)) = true
fits _ _ = false

-- whether the fare file has a place of the sort that a tap of this kind needs
abbrev pub is_known : FareEditions → ℕ → Kind → Bool
is_known editions place kind = fits kind (map.get editions.own.places place)

-- whether a correction is made where it may be: a Fill as the tap that it adds, any other everywhere
abbrev pub is_known_fix : FareEditions → What → Bool
is_known_fix editions (Fill stamp place kind) = is_known editions place kind
is_known_fix editions _ = true
