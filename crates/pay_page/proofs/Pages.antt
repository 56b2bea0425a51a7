-- Pages by their parts.
use Rattle.std.proofs.Common.{◌≡◌, ℕ, Bool, List, ◌++◌, map, filter, ap, ◌∙◌}
use Rattle.pay_day.specs.Words.{monday}
use Rattle.pay_names.specs.Words.{Named}
use Rattle.pay_tables.specs.Words.{FareEditions}
use Rattle.pay_rules.specs.declared.tap.Touch.{Touch}
use Rattle.pay_rules.specs.declared.journey.Journey.{Journey}
use Rattle.pay_rules.specs.Accepted.{Accepted, touches}
use Rattle.pay_rules.specs.Journeys.{is_bus, rail_journeys}
use Rattle.pay_rules.specs.Prices.{days_through, with_journeys}
use Rattle.pay_why.specs.declared.cap.CapReason.{CapReason}
use Rattle.pay_why.specs.declared.listed.ListedJourney.{ListedJourney}
use Rattle.pay_why.specs.Words.{bus_journeys, listed_journeys}
use Rattle.pay_explain.specs.declared.facts.DayFacts.{DayFacts}
use Rattle.pay_explain.specs.declared.facts.PricedDay.{PricedDay}
use Rattle.pay_explain.specs.declared.facts.WeekFacts.{WeekFacts}
use Rattle.pay_explain.specs.Facts.{AreDayFacts, AreDayFactsBy, AreWeekFacts, priced}
use Rattle.pay_page.specs.Corrections.{correction_items, corrections_part}
use Rattle.pay_page.specs.DayPages.{day_page_text, day_parts, day_parts_of, day_sums, journeys_part}
use Rattle.pay_page.specs.Frame.{page_start, page_end}
use Rattle.pay_page.specs.Headings.{day_title, week_title}
use Rattle.pay_page.specs.Links.{day_links, week_links}
use Rattle.pay_page.specs.WeekPages.{days_part, week_page_text, week_sums}

-- the parts by the facts of a day are those by its touches
pub parts_are : (title : List ℕ) (names : Named) (editions : FareEditions) (list : List Touch) (day : ℕ) (facts : DayFacts) → AreDayFactsBy editions list day facts
    → day_parts_of title names editions facts ≡ day_parts title names editions list day
parts_are title names editions list day facts are =
    let sums = day_sums facts.reason in
    let boardings : List Touch = filter is_bus list in
    let journeys : List Journey = rail_journeys editions list in
    ap (λ (its : List Journey). journeys_part title names editions its facts.boardings.items facts.list.items ++ sums) are.journeys
    ∙ ap (λ (its : List Touch). journeys_part title names editions journeys its facts.list.items ++ sums) are.boardings
    ∙ ap (λ (its : List ListedJourney). journeys_part title names editions journeys boardings its ++ sums) are.listed
    ∙ ap (λ (reason : CapReason). journeys_part title names editions journeys boardings (listed_journeys editions journeys boardings day) ++ day_sums reason) are.reason

-- and so the page
pub day_page_is : (corrects : Bool) (names : Named) (editions : FareEditions) (accepted : Accepted) (account day : ℕ) (title text : List ℕ) (facts : DayFacts) → title ≡ day_title account day
    → AreDayFacts editions accepted day facts
    → text
    ≡ page_start title
    ++ (day_links corrects account day ++ (day_parts_of title names editions facts ++ (corrections_part (correction_items names accepted.taps accepted.fixes day) ++ page_end)))
    → text ≡ day_page_text corrects names editions accepted account day
day_page_is corrects names editions accepted account day title text facts titled are is =
    let rest : List ℕ = corrections_part (correction_items names accepted.taps accepted.fixes day) ++ page_end in
    let links = day_links corrects account day in
    is
    ∙ ap (λ (its : List ℕ). page_start its ++ (links ++ (day_parts_of its names editions facts ++ rest))) titled
    ∙ ap (λ (parts : List ℕ). page_start (day_title account day) ++ (links ++ (parts ++ rest))) (parts_are (day_title account day) names editions (touches accepted) day facts are)

-- the page of a week by its facts
pub week_page_is : (corrects : Bool) (posted : List ℕ) (editions : FareEditions) (accepted : Accepted) (account through : ℕ) (title text days : List ℕ) (those : List PricedDay) (facts : WeekFacts)
    → title ≡ week_title account (monday through) through → AreWeekFacts editions accepted through facts → those ≡ facts.days.items → days ≡ days_through through
    → text ≡ page_start title ++ (week_links corrects account through ++ (days_part account days those ++ (week_sums facts.reason accepted.fixes through ++ (posted ++ page_end))))
    → text ≡ week_page_text corrects posted editions accepted account through
week_page_is corrects posted editions accepted account through title text days those facts titled are same each is =
    let links = week_links corrects account through in
    let start = page_start (week_title account (monday through) through) in
    let list : List Journey = rail_journeys editions (touches accepted) ++ bus_journeys editions (filter is_bus (touches accepted)) in
    let week = map (with_journeys list) (days_through through) in
    is
    ∙ ap (λ (its : List ℕ). page_start its ++ (links ++ (days_part account days those ++ (week_sums facts.reason accepted.fixes through ++ (posted ++ page_end))))) titled
    ∙ ap (λ (its : List ℕ). start ++ (links ++ (days_part account its those ++ (week_sums facts.reason accepted.fixes through ++ (posted ++ page_end))))) each
    ∙ ap (λ (its : List PricedDay). start ++ (links ++ (days_part account (days_through through) its ++ (week_sums facts.reason accepted.fixes through ++ (posted ++ page_end))))) (same ∙ are.days)
    ∙ ap (λ (reason : CapReason). start ++ (links ++ (days_part account (days_through through) (map (priced editions) week) ++ (week_sums reason accepted.fixes through ++ (posted ++ page_end))))) are.reason
