-- The numbers of a quote, and their ranges.
use Rattle.std.specs.Prelude.{◌≡◌, ◌≢◌, ℕ, ◌+◌, ◌≤◌, List, length, sum, refl}
use Rattle.std.specs.Coded.{Coded, code_by, coded×, coded_ℕ, coded_list}
use Rattle.pay_day.specs.Words.{IsDay, monday}
use Rattle.pay_rules.specs.declared.limits.TheConstants.{MOST_TAPS, MOST_FIXES}
use Rattle.pay_money.specs.declared.limits.TheConstants.{OPERATORS, MOST_MONEY}

pub record QuoteParts : Type 0 where
  -- whose it is
  pub account : ℕ
  -- the Monday of the week
  pub week : ℕ
  -- its last day
  pub through : ℕ
  -- how many taps and corrections had been accepted
  pub version : ℕ
  -- what is due
  pub due : ℕ
  -- the first day of the fare edition by which the week is priced, and 0 where none is known
  pub edition : ℕ
  -- what of it each operator gets, from operator 1 on
  pub shares : List ℕ

-- they are stored as the tuple of them
abbrev pub quote_code : Coded QuoteParts
quote_code =
    code_by (ℕ × (ℕ × (ℕ × (ℕ × (ℕ × (ℕ × List ℕ)))))) (coded× coded_ℕ (coded× coded_ℕ (coded× coded_ℕ (coded× coded_ℕ (coded× coded_ℕ (coded× coded_ℕ (coded_list coded_ℕ)))))))
    (λ q. (q.account, (q.week, (q.through, (q.version, (q.due, (q.edition, q.shares)))))))
    (λ p. record { account = p.0; week = p.1.0; through = p.1.1.0; version = p.1.1.1.0; due = p.1.1.1.1.0; edition = p.1.1.1.1.1.0; shares = p.1.1.1.1.1.1 })
    (λ _. refl)

-- a week, told by its Monday, and a day of it through which it may be quoted
pub record IsWeekThrough (week through : ℕ) : Type 0 where
  pub through_day : IsDay through
  pub its_monday : week ≡ monday through

-- the first day of an edition is a service day, and 0 stands for one that is not known
abbrev pub IsEditionDay : ℕ → Type 0
IsEditionDay edition = edition ≢ 0 → IsDay edition

-- each number is in its range, and the shares are all that is due
pub record IsQuote (quote : QuoteParts) : Type 0 where
  pub of_account : 1 ≤ quote.account
  pub of_week : IsWeekThrough quote.week quote.through
  pub at_version : quote.version ≤ MOST_TAPS + MOST_FIXES
  pub in_range : quote.due ≤ MOST_MONEY
  pub of_edition : IsEditionDay quote.edition
  pub operators : length quote.shares ≡ OPERATORS
  pub shared : sum quote.shares ≡ quote.due
