-- Boardings as they come one after another.
use Rattle.std.specs.Prelude.{ℕ, Option}
use Rattle.pay_day.specs.Words.{Stamp}
use Rattle.pay_rules.specs.declared.tap.Touch.{Touch}
use Rattle.pay_rules.specs.declared.journey.Journey.{Journey}
use Rattle.pay_rules.specs.declared.journey.Journey.TheVariants as journey
use Rattle.pay_hopper.specs.Words.{pays_by_last}

-- a touch as a boarding, where `last` is the moment of the last boarding before it that paid
abbrev pub next_boarding : ℕ → Option Stamp → Touch → Journey
next_boarding hopper last touch = journey.Bus touch (pays_by_last hopper last touch.stamp.utc)
