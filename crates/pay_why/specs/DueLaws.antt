-- What is so of all reasons of what is due.
use Rattle.std.specs.Prelude.{◌≡◌, ℕ, ◌≤◌, true, List, slice_get, sum_by, Some}
use Rattle.std.specs.FinMap.{values}
use Rattle.pay_day.specs.Words.{monday}
use Rattle.pay_tables.specs.Words.{FareEditions}
use Rattle.pay_rules.specs.declared.fix.Fix.{Fix}
use Rattle.pay_rules.specs.declared.fix.What.TheVariants.{Credit}
use Rattle.pay_rules.specs.Credits.{CreditOf}
use Rattle.pay_rules.specs.Fixes.{Fixes, stands}
use Rattle.pay_rules.specs.Accepted.{Accepted, touches}
use Rattle.pay_rules.specs.Journeys.{journeys_of}
use Rattle.pay_rules.specs.Prices.{price_of_week}
use Rattle.pay_rules.specs.Quotes.{due_through}
use Rattle.pay_why.specs.Dues.{counted_credits, pence_of, due_reason}

-- by the price of a week through a day the reason gives what is due of it
abbrev pub DueReasonsAreDue : Type 0
DueReasonsAreDue = (editions : FareEditions) (accepted : Accepted) (through : ℕ)
    → (due_reason (price_of_week editions (journeys_of editions (touches accepted)) through) accepted.fixes through).due ≡ due_through editions accepted through

-- the Credits that count are all that is taken off
abbrev pub CountedAreAll : Type 0
CountedAreAll = (price : ℕ) (fixes : Fixes) (through : ℕ) → sum_by (λ (fix : Fix). pence_of fix.what) (counted_credits fixes through) ≡ (due_reason price fixes through).credits

-- each of them is a Credit that stands, of one of the days from Monday through that day
abbrev pub CountedAreOfTheWeek : Type 0
CountedAreOfTheWeek = (fixes : Fixes) (through place : ℕ) (fix : Fix) → slice_get (counted_credits fixes through) place ≡ Some fix
    → (credit : CreditOf) × (fix.what ≡ Credit credit) × (monday through ≤ credit.day) × (credit.day ≤ through) × (stands (values fixes) fix ≡ true)
