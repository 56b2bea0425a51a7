-- The rows of a long statement: what each kind of row tells.
use Rattle.std.specs.Prelude.{◌≡◌, ℕ, ◌-◌, nat_lt, if◌then◌else◌, List, [], ◌∷◌, slice_get, Option, Some, None, refl}
use Rattle.pay_rules.specs.declared.tap.Kind.TheVariants.{Out}
use Rattle.pay_rules.specs.declared.tap.Touch.{Touch}
use Rattle.pay_rules.specs.declared.fix.Fix.{Fix}
use Rattle.pay_rules.specs.declared.fix.What.{What}
use Rattle.pay_rules.specs.declared.fix.What.TheVariants.{Credit}
use Rattle.pay_rules.specs.declared.journey.Journey.{Journey}
use Rattle.pay_rules.specs.declared.journey.Journey.TheVariants as journey
use Rattle.pay_rules.specs.declared.posting.Posting.{Posting}
use Rattle.pay_rules.specs.LinkedLegs.{last_leg}
use Rattle.pay_rules.specs.Taps.{same_kind}
use Rattle.pay_tables.specs.declared.band.Cover.TheVariants.{Zones}
use Rattle.pay_why.specs.declared.cap.CappedBand.{CappedBand}
use Rattle.pay_why.specs.declared.listed.Mode.{Mode}
use Rattle.pay_why.specs.declared.listed.Mode.TheVariants as mode
use Rattle.pay_why.specs.declared.listed.ListedJourney.{ListedJourney}
use Rattle.pay_long_statement.specs.declared.row.Amount.{Amount}
use Rattle.pay_long_statement.specs.declared.row.Amount.TheVariants.{Due, Off, Posted}
use Rattle.pay_long_statement.specs.declared.row.Row.{Row}
use Rattle.pay_long_statement.specs.declared.row.RowKind.{RowKind}
use Rattle.pay_long_statement.specs.declared.row.RowKind.TheVariants as kind

-- ---- journeys

-- a journey with two taps, from the one to the other
abbrev pub two_taps : RowKind → Touch → Touch → ℕ → Row
two_taps what entry exit fare = record {
  day = entry.stamp.day;
  kind = what;
  from = Some entry.place;
  to = Some exit.place;
  start = Some entry.stamp;
  end = Some exit.stamp;
  amount = Due fare;
}

-- one with a single tap, at a place where it began or ended
abbrev pub one_tap : RowKind → Touch → Option ℕ → Option ℕ → ℕ → Row
one_tap what tap from to fare = record { day = tap.stamp.day; kind = what; from = from; to = to; start = Some tap.stamp; end = None; amount = Due fare }

-- a rail tap that stands alone: of one on the way out it is known where the journey ended
abbrev pub lone_row : Touch → ℕ → Row
lone_row tap fare = if same_kind tap.kind Out then one_tap kind.Lone tap None (Some tap.place) fare else one_tap kind.Lone tap (Some tap.place) None fare

abbrev pub boarding_row : Touch → ℕ → Row
boarding_row tap fare = one_tap kind.Bus tap (Some tap.place) None fare

-- a journey, by what it costs by itself
abbrev pub journey_row : Journey → ℕ → Row
journey_row (journey.Run legs) fare = two_taps kind.Rail legs.first.entry (last_leg legs).exit fare
journey_row (journey.Same leg) fare = two_taps kind.Same leg.entry leg.exit fare
journey_row (journey.Lone tap) fare = lone_row tap fare
journey_row (journey.Bus tap pays) fare = boarding_row tap fare

-- the journey at a place by rail, which is there for each that is listed
abbrev pub rail_row : Option Journey → ListedJourney → Row
rail_row None one = lone_row one.tap one.fare
rail_row (Some journey) one = journey_row journey one.fare

-- a journey that a day lists, where these are all journeys by rail
abbrev pub row_by : List Journey → ListedJourney → Mode → Row
row_by journeys one mode.Rail = rail_row (slice_get journeys one.place) one
row_by journeys one mode.Bus = boarding_row one.tap one.fare

abbrev pub listed_row : List Journey → ListedJourney → Row
listed_row journeys one = row_by journeys one one.mode

-- ---- what is no journey

abbrev pub sum_row : RowKind → ℕ → Amount → Row
sum_row what day amount = record { day = day; kind = what; from = None; to = None; start = None; end = None; amount = amount }

-- what a cap takes off: what it covers came to more
abbrev pub cap_rows : RowKind → ℕ → Option CappedBand → List Row
cap_rows what day None = []
cap_rows what day (Some band) = sum_row what day (Off (band.inside - band.cap)) ∷ []

-- a Credit, on its day
abbrev pub credit_rows_of : What → List Row
credit_rows_of (Credit credit) = sum_row kind.Credit credit.day (Off credit.pence) ∷ []
credit_rows_of _ = []

abbrev pub credit_rows : Fix → List Row
credit_rows fix = credit_rows_of fix.what

-- what is left of Credits that come to more than the price, since nothing below 0 is due
abbrev pub unused_rows : ℕ → ℕ → ℕ → List Row
unused_rows day price credits = if nat_lt price credits then sum_row kind.Unused day (Due (credits - price)) ∷ [] else []

-- a posting, on the day through which it was posted
abbrev pub posted_row : Posting → Row
posted_row posting = sum_row kind.Posted posting.quote.through (Posted posting.amount)

-- ---- worked rows

-- three journeys at 340 below a cap of 890
capped : cap_rows kind.Cap 19_730 (Some (record { place = 1; cover = Zones (record { from = 1; to = 2 }); cap = 890; inside = 1_020; outside = 0 }))
    ≡ sum_row kind.Cap 19_730 (Off 130) ∷ []
capped = refl

no_cap : cap_rows kind.Cap 19_730 None ≡ []
no_cap = refl

-- a price of 340 and Credits of 500: 160 of them are not used
of_more : unused_rows 19_736 340 500 ≡ sum_row kind.Unused 19_736 (Due 160) ∷ []
of_more = refl

of_all : unused_rows 19_736 340 340 ≡ []
of_all = refl
