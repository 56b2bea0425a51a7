-- The marks of journeys on the line of a day, from 04:30 to 04:30.
use Rattle.std.specs.Prelude.{◌≡◌, ℕ, ◌+◌, ◌-◌, ◌/◌, ◌%◌, ◌==◌, nat_lt, if◌then◌else◌, Bool, List, [], ◌++◌, slice_get, Option, Some, None, codes, decimal, refl}
use Rattle.std.specs.Fmt.{digits}
use Rattle.std.specs.List.{flat_map, enumerate_from}
use Rattle.pay_day.specs.Words.{Stamp}
use Rattle.pay_day.specs.declared.limits.TheConstants.{SECONDS_PER_DAY, SERVICE_DAY_START}
use Rattle.pay_rules.specs.declared.parts.Leg.{Leg}
use Rattle.pay_rules.specs.LinkedLegs.{LinkedLegs, all_legs, last_leg}
use Rattle.pay_rules.specs.declared.journey.Journey.{Journey}
use Rattle.pay_rules.specs.declared.journey.Journey.TheVariants as journey
use Rattle.pay_why.specs.declared.listed.Mode.{Mode}
use Rattle.pay_why.specs.declared.listed.Mode.TheVariants as mode
use Rattle.pay_why.specs.declared.listed.ListedJourney.{ListedJourney}
use Rattle.pay_page.specs.declared.marks.TheConstants.{LEAST_WIDTH, LEFT, RIGHT, SECONDS_PER_UNIT}

-- where a local second of a day stands: so many units after the left end as have passed since 04:30
abbrev pub across : ℕ → ℕ
across second = LEFT + (second + (SECONDS_PER_DAY - SERVICE_DAY_START)) % SECONDS_PER_DAY / SECONDS_PER_UNIT

-- where a moment stands on the line of a day: what is of a later one stands at the end
unfoldable pub across_on : ℕ → Stamp → ℕ
across_on day stamp = if stamp.day == day then across stamp.second else RIGHT

-- what costs nothing is drawn hollow
abbrev pub class_of : ℕ → List ℕ
class_of fare = if fare == 0 then codes "free" else codes "paid"

-- numbers stand in two rows above those of a kind, even ones higher
abbrev height_by : Mode → Bool → ℕ
height_by mode.Bus even = if even then 24 else 36
height_by mode.Rail even = if even then 76 else 88

abbrev pub number_height : ℕ → Mode → ℕ
number_height number kind = height_by kind (number % 2 == 0)

unfoldable pub number_mark : ℕ → Stamp → Mode → List ℕ
number_mark number stamp kind =
    codes "<text x=\"" ++ (decimal (across stamp.second) ++ (codes "\" y=\"" ++ (decimal (number_height number kind) ++ (codes "\">" ++ (decimal number ++ codes "</text>\n")))))

-- a boarding is a square
unfoldable pub square : Stamp → ℕ → List ℕ
square stamp fare = codes "<rect class=\"" ++ (class_of fare ++ (codes "\" x=\"" ++ (decimal (across stamp.second) ++ codes "\" y=\"44\" width=\"8\" height=\"16\"/>\n")))

-- a leg is a bar, which is not too narrow to be seen
unfoldable pub width_of : ℕ → ℕ → ℕ
width_of from to = if nat_lt (to - from) LEAST_WIDTH then LEAST_WIDTH else to - from

unfoldable pub bar : ℕ → ℕ → Leg → List ℕ
bar day fare leg =
    let from = across_on day leg.entry.stamp in
    codes "<rect class=\""
    ++ (class_of fare
    ++ (codes "\" x=\"" ++ (decimal from ++ (codes "\" y=\"96\" width=\"" ++ (decimal (width_of from (across_on day leg.exit.stamp)) ++ codes "\" height=\"12\"/>\n")))))

-- a line joins the legs of a journey, which lie upon it
unfoldable pub join : ℕ → Stamp → Stamp → List ℕ
join day from to =
    codes "<line class=\"join\" x1=\"" ++ (decimal (across_on day from) ++ (codes "\" y1=\"102\" x2=\"" ++ (decimal (across_on day to) ++ codes "\" y2=\"102\"/>\n")))

abbrev pub bars : ℕ → ℕ → LinkedLegs → List ℕ
bars day fare legs = join day legs.first.entry.stamp (last_leg legs).exit.stamp ++ flat_map (bar day fare) (all_legs legs)

-- a tap that stands alone is a diamond
unfoldable pub diamond : Stamp → List ℕ
diamond stamp = codes "<path class=\"lone\" d=\"M" ++ (decimal (across stamp.second) ++ codes " 94l8 8-8 8-8-8z\"/>\n")

-- a journey by rail of a day, which costs so much
abbrev pub rail_shape : ℕ → ℕ → Journey → List ℕ
rail_shape day fare (journey.Run legs) = bars day fare legs
rail_shape day fare (journey.Same leg) = bar day fare leg
rail_shape day fare (journey.Lone tap) = diamond tap.stamp
rail_shape day fare (journey.Bus tap pays) = []

abbrev pub rail_shape_if : ℕ → ℕ → Option Journey → List ℕ
rail_shape_if day fare None = []
rail_shape_if day fare (Some journey) = rail_shape day fare journey

-- a journey that a day lists, among all by rail of the account
abbrev pub shape_by : List Journey → ListedJourney → Mode → List ℕ
shape_by journeys one mode.Bus = square one.tap.stamp one.fare
shape_by journeys one mode.Rail = rail_shape_if one.tap.stamp.day one.fare (slice_get journeys one.place)

abbrev pub shape_of : List Journey → ListedJourney → List ℕ
shape_of journeys one = shape_by journeys one one.mode

-- with its number
abbrev pub mark_of : List Journey → ℕ → ListedJourney → List ℕ
mark_of journeys number one = shape_of journeys one ++ number_mark number one.tap.stamp one.mode

-- those of all, with numbers from 1
abbrev pub marks : List Journey → List ListedJourney → List ℕ
marks journeys list = flat_map (λ one. mark_of journeys one.0 one.1) (enumerate_from 1 list)

-- ---- worked rows

-- the day begins at 04:30, at 05:30 an hour has passed, and it ends just before 04:30
at_its_start : across 16_200 ≡ 60
at_its_start = refl

an_hour_later : across 19_800 ≡ 100
an_hour_later = refl

at_midnight : across 0 ≡ 840
at_midnight = refl

at_its_end : across 16_199 ≡ 1_019
at_its_end = refl

abbrev at_second : ℕ → Stamp
at_second second = record { utc = 1_704_672_000 + second; day = 19_730; second = second }

a_free_boarding : square (at_second 25_200) 0 ≡ codes "<rect class=\"free\" x=\"160\" y=\"44\" width=\"8\" height=\"16\"/>\n"
unfolding digits square
a_free_boarding = refl

its_number : number_mark 2 (at_second 25_200) mode.Bus ≡ codes "<text x=\"160\" y=\"24\">2</text>\n"
unfolding digits number_mark
its_number = refl

at_nine : diamond (at_second 32_400) ≡ codes "<path class=\"lone\" d=\"M240 94l8 8-8 8-8-8z\"/>\n"
unfolding digits diamond
at_nine = refl

twenty_minutes : width_of 200 213 ≡ 13
unfolding width_of
twenty_minutes = refl

a_minute : width_of 360 361 ≡ 6
unfolding width_of
a_minute = refl

-- from 01:50 on, and to 01:10 after the clocks were set back
set_back : width_of 913 886 ≡ 6
unfolding width_of
set_back = refl
