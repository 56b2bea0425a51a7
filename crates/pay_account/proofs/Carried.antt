-- The fares of journeys, each beside its journey: what they are together, that they fit, and that what is due is no more.
use Rattle.std.proofs.Common.{◌≡◌, ℕ, ◌*◌, ◌≤◌, Bool, not, List, [], ◌∷◌, length, map, filter, sum, sum_by, refl, ap, ◌∙◌, arith}
use Rattle.std.proofs.lemmas.List.Sums.{sum_by-cons}
use Rattle.std.proofs.lemmas.List.Filters.{length-filter_both}
use Rattle.pay_money.specs.declared.limits.TheConstants.{MOST_MONEY}
use Rattle.pay_rules.specs.declared.limits.TheConstants.{MOST_TOUCHES}
use Rattle.pay_tables.specs.Words.{FareEditions, on}
use Rattle.pay_day.specs.Words.{monday}
use Rattle.pay_tables.specs.declared.limits.TheConstants.{MOST_FARE}
use Rattle.pay_rules.specs.declared.journey.Journey.{Journey}
use Rattle.pay_rules.specs.Accepted.{Accepted, touches}
use Rattle.pay_rules.specs.Journeys.{journeys_of}
use Rattle.pay_rules.specs.StandingCredits.{credits}
use Rattle.pay_rules.specs.JourneyFares.{fare_by}
use Rattle.pay_rules.specs.DayPrices.{day_price, fares}
use Rattle.pay_rules.specs.WeekPrices.{DayJourneys, week_price, due}
use Rattle.pay_rules.specs.OperatorWeights.{sum_of_fares, weights}
use Rattle.pay_rules.specs.QuoteParts.{QuoteParts}
use Rattle.pay_rules.specs.Prices.{journeys_on, with_journeys, days_through, journeys_through, price_of_week}
use Rattle.pay_rules.specs.Quotes.{with_fare, weights_through, due_through}
use Rattle.pay_account.proofs.DaySums.{fares_on, week_by_days}

pub fares_beside : (editions : FareEditions) (list : List Journey) → sum_of_fares (map (with_fare editions) list) ≡ sum_by (fare_by editions) list
fares_beside editions [] = refl
fares_beside editions (journey ∷ list) =
    omega (arith, sum_by-cons (λ (one : Journey × ℕ). one.1) (with_fare editions journey) (map (with_fare editions) list), sum_by-cons (fare_by editions) journey list, fares_beside editions list)

pub few_fares : (editions : FareEditions) → ((journey : Journey) → fare_by editions journey ≤ MOST_FARE) → (list : List Journey) → sum_by (fare_by editions) list ≤ length list * MOST_FARE
few_fares editions each [] = omega arith
few_fares editions each (journey ∷ list) = omega (arith, sum_by-cons (fare_by editions) journey list, each journey, few_fares editions each list)

-- the fares of some of an account's journeys are never more than may be
pub fits : (editions : FareEditions) → ((journey : Journey) → fare_by editions journey ≤ MOST_FARE) → (p : Journey → Bool) (all : List Journey) → length all ≤ MOST_TOUCHES
    → sum_of_fares (map (with_fare editions) (filter p all)) ≤ MOST_MONEY
fits editions each p all few =
    omega (arith, fares_beside editions (filter p all), few_fares editions each (filter p all), length-filter_both p (λ journey. not (p journey)) (λ _. refl) all, few)

abbrev parts : ℕ → ℕ → ℕ → ℕ → ℕ → ℕ → List ℕ → QuoteParts
parts account week through version due edition shares = record { account = account; week = week; through = through; version = version; due = due; edition = edition; shares = shares }

pub same_quote : {a b w x v y d e f g : ℕ} {s t : List ℕ} → (through : ℕ) → a ≡ b → w ≡ x → v ≡ y → d ≡ e → f ≡ g → s ≡ t → parts a w through v d f s ≡ parts b x through y e g t
same_quote through p q r u h z = rw (p, q, r, u, h, z) refl

-- what is due, by all journeys, the price of the week and the credits
pub due_as : (editions : FareEditions) (accepted : Accepted) (list : List Journey) (through price credited due_is : ℕ) → list ≡ journeys_of editions (touches accepted)
    → price ≡ price_of_week editions list through → credited ≡ credits accepted.fixes (monday through) through → due_is ≡ due price credited → due_is ≡ due_through editions accepted through
due_as editions accepted list through price credited due_is all priced given is =
    is ∙ ap (λ (n : ℕ). due n credited) (priced ∙ ap (λ (its : List Journey). price_of_week editions its through) all)
    ∙ ap (due (price_of_week editions (journeys_of editions (touches accepted)) through)) given

-- the price of a day by its edition
abbrev pub price_of_one : FareEditions → DayJourneys → ℕ
price_of_one editions one = day_price (on editions one.0) one.1

-- the days one by one cost no more than their fares
no_more_by_days : (editions : FareEditions) → ((day : ℕ) (list : List Journey) → day_price (on editions day) list ≤ fares (on editions day) list) → (list : List Journey) (days : List ℕ)
    → sum_by (price_of_one editions) (map (with_journeys list) days) ≤ sum_by (λ (day : ℕ). sum_by (fare_by editions) (journeys_on list day)) days
no_more_by_days editions each list [] = omega arith
no_more_by_days editions each list (day ∷ days) =
    omega (
      arith,
      sum_by-cons (price_of_one editions) (with_journeys list day) (map (with_journeys list) days),
      sum_by-cons (λ (other : ℕ). sum_by (fare_by editions) (journeys_on list other)) day days,
      each day (journeys_on list day),
      fares_on editions list day,
      no_more_by_days editions each list days,
    )

-- and so what is due is no more than what operators carried together
pub due_is_covered : (editions : FareEditions) → ((day : ℕ) (list : List Journey) → day_price (on editions day) list ≤ fares (on editions day) list)
    → ((monday : ℕ) (days : List DayJourneys) → week_price editions monday days ≤ sum_by (price_of_one editions) days)
    → ((beside : List (Journey × ℕ)) → sum (weights editions.own beside) ≡ sum_of_fares beside)
    → (list : List Journey) (through credits : ℕ) → due (price_of_week editions list through) credits ≤ sum (weights_through editions list through)
due_is_covered editions of_day of_week nothing_lost list through credits =
    omega (
      arith,
      of_week (monday through) (map (with_journeys list) (days_through through)),
      no_more_by_days editions of_day list (days_through through),
      week_by_days (fare_by editions) list through (omega arith),
      fares_beside editions (journeys_through list through),
      nothing_lost (map (with_fare editions) (journeys_through list through)),
    )
