-- Legs: a tap in and the next tap out, if not too much later.
use Rattle.std.specs.Prelude.{◌≡◌, ℕ, ◌+◌, ◌==◌, ◌&&◌, nat_le, Bool, true, if◌then◌else◌, List, [], ◌∷◌, ◌++◌, All}
use Rattle.std.specs.List.{flat_map}
use Rattle.pay_tables.specs.Words.{FareEditions, FareTables, on, station_at, allowed_seconds, span_of}
use Rattle.pay_rules.specs.declared.tap.Kind.TheVariants.{In, Out}
use Rattle.pay_rules.specs.declared.tap.Touch.{Touch}
use Rattle.pay_rules.specs.Taps.{same_kind}
use Rattle.pay_rules.specs.declared.parts.RailPart.{RailPart}
use Rattle.pay_rules.specs.declared.parts.RailPart.TheVariants as part

-- how many seconds may pass between the two taps of a leg: at one station `same_limit`, and between two stations the allowed time of their span
abbrev pub allowed_seconds_between : FareTables → Touch → Touch → ℕ
allowed_seconds_between tables entry exit =
    if entry.place == exit.place then tables.rules.same_limit
    else allowed_seconds tables (span_of (station_at tables entry.place ∷ station_at tables exit.place ∷ []))

-- whether a tap and the next one are a leg: one on the way in and one on the way out, not too much later by the edition of the service day of the way in
abbrev pub is_leg : FareEditions → Touch → Touch → Bool
is_leg editions entry exit =
    same_kind entry.kind In && same_kind exit.kind Out && nat_le exit.stamp.utc (entry.stamp.utc + allowed_seconds_between (on editions entry.stamp.day) entry exit)

abbrev pub leg : Touch → Touch → RailPart
leg entry exit = part.Leg (record { entry = entry; exit = exit })

-- the legs and the lone taps of rail taps in order: two neighbours that are a leg go together, and every other tap stands alone
abbrev pub legs : FareEditions → List Touch → List RailPart
legs editions [] = []
legs editions (tap ∷ []) = part.Lone tap ∷ []
legs editions (tap ∷ next ∷ later) =
    if is_leg editions tap next then leg tap next ∷ legs editions later else part.Lone tap ∷ legs editions (next ∷ later)

-- ---- the same, said of the parts

-- the taps of a part, and those of parts in order
abbrev pub taps_of_part : RailPart → List Touch
taps_of_part (part.Leg l) = l.entry ∷ l.exit ∷ []
taps_of_part (part.Lone tap) = tap ∷ []

abbrev pub taps_of : List RailPart → List Touch
taps_of parts = flat_map taps_of_part parts

-- what a part may be: two taps that are a leg, or any tap alone
abbrev pub IsPart : FareEditions → RailPart → Type 0
IsPart editions (part.Leg l) = is_leg editions l.entry l.exit ≡ true
IsPart editions (part.Lone tap) = Unit {0}

-- among the parts is the leg of these two taps, after the parts of these taps
abbrev pub HasLeg : List RailPart → List Touch → Touch → Touch → Type 0
HasLeg parts before entry exit = (front back : List RailPart) × (parts ≡ front ++ leg entry exit ∷ back) × (taps_of front ≡ before)

-- the parts of rail taps in order: they have each tap once and in its place, no other taps are together than legs, and neighbours that are a leg are together
pub record AreParts (editions : FareEditions) (taps : List Touch) (parts : List RailPart) : Type 0 where
  pub each_tap : taps_of parts ≡ taps
  pub each_part : All (IsPart editions) parts
  pub each_leg : (before after : List Touch) (entry exit : Touch) →
      taps ≡ before ++ entry ∷ exit ∷ after → is_leg editions entry exit ≡ true → HasLeg parts before entry exit
