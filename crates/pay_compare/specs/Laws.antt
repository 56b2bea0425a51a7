-- What agreement of two fare files means for an account, and what a file without editions is.
use Rattle.std.specs.Prelude.{◌≡◌, ℕ, ◌≤◌, Bool}
use Rattle.std.specs.List.{AllByRecursion}
use Rattle.pay_day.specs.declared.limits.TheConstants.{FIRST_DAY}
use Rattle.pay_day.specs.Words.{monday}
use Rattle.pay_tables.specs.Words.{FareEditions, first_day}
use Rattle.pay_rules.specs.declared.tap.Touch.{Touch}
use Rattle.pay_rules.specs.Accepted.{Accepted, touches}
use Rattle.pay_rules.specs.Journeys.{journeys_of}
use Rattle.pay_rules.specs.Prices.{prices}
use Rattle.pay_rules.specs.Lines.{shown, week_lines}
use Rattle.pay_rules.specs.QuoteParts.{QuoteParts}
use Rattle.pay_rules.specs.Quotes.{quote}
use Rattle.pay_compare.specs.Agreement.{IsKnownPlace}

-- an effective tap of a day up to one, at a place that the old file knows
abbrev pub IsTouchWithin : FareEditions → ℕ → Touch → Type 0
IsTouchWithin old last touch = (FIRST_DAY ≤ touch.stamp.day) × (touch.stamp.day ≤ last) × IsKnownPlace old.own touch.place

-- each effective tap of an account is one
abbrev pub AreTouchesWithin : FareEditions → ℕ → Accepted → Type 0
AreTouchesWithin old last accepted = AllByRecursion (IsTouchWithin old last) (touches accepted)

-- a quote as it would be by an edition that begins on a day
abbrev pub with_edition : ℕ → QuoteParts → QuoteParts
with_edition day q = record { account = q.account; week = q.week; through = q.through; version = q.version; due = q.due; edition = day; shares = q.shares }

-- An account comes to the same by two files: its journeys, the prices of each day and each week, what it shows, its statements, and what it owes.
-- Its quotes are the same but for the edition, which by each file is that of the Monday: an edition may begin where nothing changes.
pub record ComesToTheSame (new old : FareEditions) (accepted : Accepted) : Type 0 where
  pub journeys : journeys_of new (touches accepted) ≡ journeys_of old (touches accepted)
  pub priced : (again : Bool) (day : ℕ) → FIRST_DAY ≤ day → prices new accepted again day ≡ prices old accepted again day
  pub shows : (account day : ℕ) → shown new account accepted day ≡ shown old account accepted day
  pub lines : (week : ℕ) → week_lines new accepted week ≡ week_lines old accepted week
  pub quoted : (account through : ℕ) → FIRST_DAY ≤ through → quote new account accepted through ≡ with_edition (first_day new (monday through)) (quote old account accepted through)
