-- Boardings, one touch after the other.
use Rattle.std.proofs.Common.{ℕ, List, map, filter, Option}
use Rattle.std.specs.List.{zip}
use Rattle.pay_day.specs.Words.{Stamp}
use Rattle.pay_rules.specs.declared.tap.Touch.{Touch}
use Rattle.pay_hopper.specs.Words.{marks_by_last}
use Rattle.pay_rules.specs.declared.journey.Journey.{Journey}
use Rattle.pay_rules.specs.Journeys.{is_bus, boarding}

-- the boardings of touches, where `last` is the moment of the last one before them that paid
abbrev pub boardings_by_last : ℕ → Option Stamp → List Touch → List Journey
boardings_by_last hopper last touches = let buses = filter is_bus touches in map boarding (zip buses (marks_by_last hopper last buses))
