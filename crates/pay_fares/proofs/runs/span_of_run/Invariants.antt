use Rattle.std.proofs.Common.{◌≡◌, drop}
use Rattle.std.specs.List.{fold, flat_map}
use Rattle.pay_tables.specs.Words.{AreSpanBounds, bounds_with, bounds_of}
use Rattle.pay_rules.specs.LinkedLegs.{all_legs}
use Rattle.pay_rules.specs.Runs.{stations_of}
use Rattle.pay_fares.proofs.runs.span_of_run.Given as goal

-- the legs that are left, put to the bounds so far, give what all legs give
abbrev pub invariant-loop-leg : goal.invariant-loop-leg
invariant-loop-leg l =
    (fold bounds_with l.bounds (flat_map (stations_of l.tables) (drop l.leg-index l.leg-items)) ≡ bounds_of (flat_map (stations_of l.tables) (all_legs l.run)))
    × AreSpanBounds l.tables.zones l.bounds
