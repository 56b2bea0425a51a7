-- Documents by their parts.
use Rattle.std.proofs.Common.{◌≡◌, ℕ, List, ◌++◌, map, filter, true, refl, ap, ◌∙◌}
use Rattle.json.specs.Print.{escape_byte}
use Rattle.serde_json.specs.Data.{Data, object, Members}
use Rattle.serde_json.specs.Written.{compact_text, members_text}
use Rattle.pay_day.specs.Words.{monday}
use Rattle.pay_dates.specs.Words.{date_text_of}
use Rattle.pay_names.specs.Words.{Named}
use Rattle.pay_tables.specs.Words.{FareEditions}
use Rattle.pay_rules.specs.declared.fix.Fix.{Fix}
use Rattle.pay_rules.specs.declared.posting.Posting.{Posting}
use Rattle.pay_rules.specs.declared.tap.Touch.{Touch}
use Rattle.pay_rules.specs.declared.journey.Journey.{Journey}
use Rattle.pay_rules.specs.Accepted.{Accepted, touches}
use Rattle.pay_rules.specs.Journeys.{is_bus, rail_journeys}
use Rattle.pay_rules.specs.Prices.{days_through, with_journeys}
use Rattle.pay_why.specs.declared.cap.CapReason.{CapReason}
use Rattle.pay_why.specs.declared.due.DueReason.{DueReason}
use Rattle.pay_why.specs.declared.listed.ListedJourney.{ListedJourney}
use Rattle.pay_why.specs.Words.{bus_journeys, counted_credits, due_reason, listed_journeys, week_reason}
use Rattle.pay_explain.specs.declared.facts.DayFacts.{DayFacts}
use Rattle.pay_explain.specs.declared.facts.PricedDay.{PricedDay}
use Rattle.pay_explain.specs.declared.facts.WeekFacts.{WeekFacts}
use Rattle.pay_explain.specs.Facts.{AreDayFacts, AreWeekFacts, priced}
use Rattle.pay_json.specs.Corrections.{corrections_value}
use Rattle.pay_json.specs.Journeys.{journeys_value}
use Rattle.pay_json.specs.Days.{day_document, day_of, day_parts, day_value}
use Rattle.pay_json.specs.Posted.{accepted_text, posting_members, posting_text}
use Rattle.pay_json.specs.Weeks.{credits_value, dated_value, days_value, week_document, week_of, week_parts, week_value}

-- what is written is the text of the value
day_text : (account : ℕ) (currency : List ℕ) (day : ℕ) (date : List ℕ) (journeys : Data) (reason : CapReason) (corrections : Data)
    → day_document account currency day date (compact_text journeys) reason (compact_text corrections) ≡ compact_text (day_of account currency day date journeys reason corrections)
unfolding day_document day_parts day_of escape_byte
day_text account currency day date journeys reason corrections = refl

week_text : (account : ℕ) (currency : List ℕ) (from through days : Data) (reason : CapReason) (credits : Data) (due : DueReason) (posted : Members)
    → week_document account currency from through (compact_text days) reason (compact_text credits) due (members_text true posted)
    ≡ compact_text (week_of account currency from through days reason credits due posted)
unfolding week_document week_parts week_of escape_byte
week_text account currency from through days reason credits due posted = refl

-- the document of a day by its facts
pub day_is : (names : Named) (currency : List ℕ) (editions : FareEditions) (accepted : Accepted) (account day : ℕ) (date journeys corrections text : List ℕ) (facts : DayFacts)
    → AreDayFacts editions accepted day facts → date ≡ date_text_of day
    → journeys ≡ compact_text (journeys_value names editions facts.journeys.items facts.boardings.items facts.list.items)
    → corrections ≡ compact_text (corrections_value names accepted.taps accepted.fixes day) → text ≡ day_document account currency day date journeys facts.reason corrections
    → text ≡ compact_text (day_value names currency editions accepted account day)
day_is names currency editions accepted account day date journeys corrections text facts are dated listed about is =
    let boardings : List Touch = filter is_bus (touches accepted) in
    let rail : List Journey = rail_journeys editions (touches accepted) in
    let value = journeys_value names editions rail boardings (listed_journeys editions rail boardings day) in
    let same : journeys ≡ compact_text value =
    listed
    ∙ ap (λ (its : List Journey). compact_text (journeys_value names editions its facts.boardings.items facts.list.items)) are.journeys
    ∙ ap (λ (its : List Touch). compact_text (journeys_value names editions rail its facts.list.items)) are.boardings
    ∙ ap (λ (its : List ListedJourney). compact_text (journeys_value names editions rail boardings its)) are.listed in
    is
    ∙ ap (λ (its : List ℕ). day_document account currency day its journeys facts.reason corrections) dated
    ∙ ap (λ (its : List ℕ). day_document account currency day (date_text_of day) its facts.reason corrections) same
    ∙ ap (λ (its : List ℕ). day_document account currency day (date_text_of day) (compact_text value) facts.reason its) about
    ∙ ap (λ (reason : CapReason). day_document account currency day (date_text_of day) (compact_text value) reason (compact_text (corrections_value names accepted.taps accepted.fixes day))) are.reason
    ∙ day_text account currency day (date_text_of day) value _ (corrections_value names accepted.taps accepted.fixes day)

-- the document of a week by its facts
pub week_is : (posted : Members) (currency : List ℕ) (editions : FareEditions) (accepted : Accepted) (account through : ℕ) (first last days credits end text : List ℕ) (each : List ℕ) (those : List PricedDay)
    (counted : List Fix) (facts : WeekFacts) → AreWeekFacts editions accepted through facts → first ≡ date_text_of (monday through) → last ≡ date_text_of through
    → days ≡ compact_text (days_value each those) → each ≡ days_through through → those ≡ facts.days.items → credits ≡ compact_text (credits_value counted)
    → counted ≡ counted_credits accepted.fixes through → end ≡ members_text true posted
    → text ≡ week_document account currency (dated_value (monday through) first) (dated_value through last) days facts.reason credits (due_reason facts.reason.price accepted.fixes through) end
    → text ≡ compact_text (week_value posted currency editions accepted account through)
week_is posted currency editions accepted account through first last days credits end text each those counted facts are begins ends listed same alike given count told is =
    let list : List Journey = rail_journeys editions (touches accepted) ++ bus_journeys editions (filter is_bus (touches accepted)) in
    let week = map (with_journeys list) (days_through through) in
    let from = dated_value (monday through) (date_text_of (monday through)) in
    let to = dated_value through (date_text_of through) in
    let value = days_value (days_through through) (map (priced editions) week) in
    let taken = credits_value (counted_credits accepted.fixes through) in
    let due : CapReason → DueReason = λ reason. due_reason reason.price accepted.fixes through in
    let days_are : days ≡ compact_text value =
    listed ∙ ap (λ (its : List ℕ). compact_text (days_value its those)) same ∙ ap (λ (its : List PricedDay). compact_text (days_value (days_through through) its)) (alike ∙ are.days) in
    let credits_are : credits ≡ compact_text taken = given ∙ ap (λ (its : List Fix). compact_text (credits_value its)) count in
    is
    ∙ ap (λ (its : List ℕ). week_document account currency (dated_value (monday through) its) (dated_value through last) days facts.reason credits (due facts.reason) end) begins
    ∙ ap (λ (its : List ℕ). week_document account currency from (dated_value through its) days facts.reason credits (due facts.reason) end) ends
    ∙ ap (λ (its : List ℕ). week_document account currency from to its facts.reason credits (due facts.reason) end) days_are
    ∙ ap (λ (its : List ℕ). week_document account currency from to (compact_text value) facts.reason its (due facts.reason) end) credits_are
    ∙ ap (λ (reason : CapReason). week_document account currency from to (compact_text value) reason (compact_text taken) (due reason) end) are.reason
    ∙ ap (λ (its : List ℕ). week_document account currency from to (compact_text value) (week_reason editions (monday through) week) (compact_text taken) (due (week_reason editions (monday through) week)) its) told
    ∙ week_text account currency from to value _ taken _ posted

-- a posting likewise
pub posting_text_is : (now : ℕ) (p : Posting) (date : List ℕ) (shares : Data)
    → posting_text p.amount (p.quote.through, date) p.quote.due (accepted_text p.quote.version now (compact_text shares)) ≡ compact_text (object (posting_members now p date shares))
unfolding posting_text accepted_text posting_members escape_byte
posting_text_is now p date shares = refl
