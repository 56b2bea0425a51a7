-- The days of a week, with their journeys and with the sums of these.
use Rattle.std.proofs.Common.{◌≡◌, ℕ, ◌+◌, ◌-◌, ◌<◌, ◌≤◌, All, get_or, List, [], ◌∷◌, ◌++◌, length, map, refl, ap, ◌∙◌, append_assoc, arith}
use Rattle.std.specs.List.{flat_map, zip}
use Rattle.std.proofs.lemmas.List.FromFn.{length-range_with_len, get_or-range_with_len}
use Rattle.std.proofs.lemmas.List.Elements.{All-from_get_or}
use Rattle.std.specs.List.{range_with_len}
use Rattle.pay_day.specs.Words.{IsDay, monday}
use Rattle.pay_day.specs.declared.limits.TheConstants.{DAYS_PER_WEEK, LAST_DAY}
use Rattle.pay_tables.specs.Words.{FareEditions, on}
use Rattle.pay_rules.specs.declared.tap.Touch.{Touch}
use Rattle.pay_rules.specs.declared.journey.Journey.{Journey}
use Rattle.pay_rules.specs.DayPrices.{capped_price}
use Rattle.pay_rules.specs.Fixes.{Fixes}
use Rattle.pay_rules.specs.Lowest.{Offer}
use Rattle.pay_rules.specs.Prices.{days_through, with_journeys}
use Rattle.pay_rules.specs.WeekPrices.{DayJourneys}
use Rattle.pay_caps.specs.Words.{CellSums, cells_of, capped_price_of}
use Rattle.pay_why.specs.declared.cap.CapReason.{CapReason}
use Rattle.pay_why.specs.Words.{bus_journeys, cap_reason, sums_of_week, WeekSumsGiveReasons}
use Rattle.pay_explain.specs.Cells.{cells_on}
use Rattle.pay_explain.specs.Week.{day_line_text, day_line, day_line_of, reason_lines, week_text, week_text_of}

-- a week has seven days
pub few_days : (day : ℕ) → length (days_through day) ≤ DAYS_PER_WEEK
few_days day = omega (arith, length-range_with_len (monday day) (day + 1 - monday day))

-- and each is a day
in_range : (from n : ℕ) → IsDay from → from + n ≤ LAST_DAY + 1 → (i : ℕ) → i < length (range_with_len from n) → IsDay (get_or (range_with_len from n) i 0)
in_range from n is few i within =
    let inside : i < n = omega (arith, within, length-range_with_len from n) in
    rw (get_or-range_with_len from n i 0 inside) (omega (arith, is), omega (arith, few))

pub all_days : (through : ℕ) → IsDay through → All IsDay (days_through through)
all_days through is =
    let from : IsDay (monday through) = (omega (arith, is), omega (arith, is)) in
    All-from_get_or IsDay (days_through through) 0 (in_range (monday through) (through + 1 - monday through) from (omega (arith, is, from)))

-- two additions to a text, one after the other
pub then : (before now after first second : List ℕ) → after ≡ now ++ second → now ≡ before ++ first → after ≡ before ++ (first ++ second)
then before now after first second next so_far = next ∙ ap (λ (text : List ℕ). text ++ second) so_far ∙ append_assoc before first second

-- the sums of a day's journeys give its price
abbrev pub SumsGivePrices : FareEditions → Type 0
SumsGivePrices editions = (day : ℕ) (list : List Journey) → capped_price_of (on editions day) (cells_of (on editions day) list) ≡ capped_price (on editions day) list

-- a day with the sums of its journeys
abbrev pub with_sums : FareEditions → DayJourneys → ℕ × CellSums
with_sums editions one = (one.0, cells_of (on editions one.0) one.1)

pub beside : (editions : FareEditions) (journeys : List Journey) (taps : List Touch) (days : List ℕ)
    → zip days (map (cells_on editions journeys taps) days) ≡ map (with_sums editions) (map (with_journeys (journeys ++ bus_journeys editions taps)) days)
beside editions journeys taps [] = refl
beside editions journeys taps (day ∷ days) = ap (λ (rest : List (ℕ × CellSums)). (day, cells_on editions journeys taps day) ∷ rest) (beside editions journeys taps days)

lines_alike : (editions : FareEditions) → SumsGivePrices editions → (days : List DayJourneys) → flat_map (day_line_of editions) (map (with_sums editions) days) ≡ flat_map (day_line editions) days
lines_alike editions prices [] = refl
lines_alike editions prices (one ∷ days) =
    ap (λ (pence : ℕ). day_line_text one.0 pence ++ flat_map (day_line_of editions) (map (with_sums editions) days)) (ap (λ (offer : Offer). offer.0) (prices one.0 one.1))
    ∙ ap (λ (rest : List ℕ). day_line editions one ++ rest) (lines_alike editions prices days)

-- so the text by the sums of a week's days is that by their journeys
pub text_is : (editions : FareEditions) → SumsGivePrices editions → WeekSumsGiveReasons editions → (journeys : List Journey) (taps : List Touch) (fixes : Fixes) (through : ℕ) (days : List ℕ) (sums : List CellSums)
    → days ≡ days_through through → sums ≡ map (cells_on editions journeys taps) days → week_text_of editions (zip days sums) fixes through ≡ week_text editions (journeys ++ bus_journeys editions taps) fixes through
text_is editions prices reasons journeys taps fixes through days sums those each =
    let all : List Journey = journeys ++ bus_journeys editions taps in
    let week : List DayJourneys = map (with_journeys all) (days_through through) in
    ap (λ (its : List CellSums). week_text_of editions (zip days its) fixes through) each
    ∙ ap (λ (its : List ℕ). week_text_of editions (zip its (map (cells_on editions journeys taps) its)) fixes through) those
    ∙ ap (λ (its : List (ℕ × CellSums)). week_text_of editions its fixes through) (beside editions journeys taps (days_through through))
    ∙ ap (λ (lines : List ℕ). lines ++ reason_lines (cap_reason (sums_of_week editions (monday through) (map (with_sums editions) week))) fixes through) (lines_alike editions prices week)
    ∙ ap (λ (reason : CapReason). flat_map (day_line editions) week ++ reason_lines reason fixes through) (reasons (monday through) week)
