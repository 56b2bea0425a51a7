-- How many touches and journeys there are.
use Rattle.std.proofs.Common.{◌≡◌, ℕ, suc, ◌≤◌, ◌+◌, Bool, true, false, if◌then◌else◌, not, List, [], ◌∷◌, length, ap, filter, refl, arith}
use Rattle.std.proofs.lemmas.List.Filters.{length-filter_both}
use Rattle.pay_rules.specs.declared.tap.Touch.{Touch}
use Rattle.pay_tables.specs.Words.{FareTables}
use Rattle.pay_rules.specs.declared.parts.Leg.{Leg}
use Rattle.pay_rules.specs.declared.parts.RailPart.{RailPart}
use Rattle.pay_rules.specs.Legs.{taps_of}
use Rattle.pay_rules.specs.LinkedLegs.{LinkedLegs, joined, last_leg}
use Rattle.pay_rules.specs.RailJourneys.{is_same, is_linked, alone, run_before, leg_before, journeys}
use Rattle.pay_rules.specs.declared.parts.RailPart.TheVariants as part
use Rattle.pay_rules.specs.declared.journey.Journey.{Journey}
use Rattle.pay_rules.specs.declared.journey.Journey.TheVariants as journey
use Rattle.pay_rules.specs.Journeys.{is_bus, is_rail}

-- each part has a tap
few_parts : (parts : List RailPart) → length parts ≤ length (taps_of parts)
few_parts [] = omega arith
few_parts (part.Leg leg ∷ parts) = omega (arith, few_parts parts)
few_parts (part.Lone tap ∷ parts) = omega (arith, few_parts parts)

either : (b : Bool) (xs ys : List Journey) (n : ℕ) → length xs ≤ n → length ys ≤ n → length (if b then xs else ys) ≤ n
either true xs ys n h k = h
either false xs ys n h k = k

run_more : (tables : FareTables) (run : LinkedLegs) (list : List Journey) → length (run_before tables run list) ≤ length list + 1
run_more tables run [] = omega arith
run_more tables run (journey.Run next ∷ later) =
    either (is_linked tables (last_leg run) next.first) (journey.Run (joined run next) ∷ later) (journey.Run run ∷ journey.Run next ∷ later) (suc (length later) + 1) (omega arith) (omega arith)
run_more tables run (journey.Same other ∷ later) = omega arith
run_more tables run (journey.Lone tap ∷ later) = omega arith
run_more tables run (journey.Bus tap pays ∷ later) = omega arith

one_more : (tables : FareTables) (leg : Leg) (list : List Journey) → length (leg_before tables leg list) ≤ length list + 1
one_more tables leg list = either (is_same leg) (journey.Same leg ∷ list) (run_before tables (alone leg) list) (length list + 1) (omega arith) (run_more tables (alone leg) list)

-- each journey has a part
pub few_journeys : (tables : FareTables) (parts : List RailPart) → length (journeys tables parts) ≤ length parts
few_journeys tables [] = omega arith
few_journeys tables (part.Lone tap ∷ parts) = omega (arith, few_journeys tables parts)
few_journeys tables (part.Leg leg ∷ parts) = omega (arith, few_journeys tables parts, one_more tables leg (journeys tables parts))

-- and so journeys by rail are no more than the taps
pub few_rail : (tables : FareTables) (taps : List Touch) (parts : List RailPart) → taps_of parts ≡ taps → length (journeys tables parts) ≤ length taps
few_rail tables taps parts all = omega (arith, few_journeys tables parts, few_parts parts, ap length all)

-- a touch is by rail or on a bus
pub both_kinds : (touches : List Touch) → length (filter is_rail touches) + length (filter is_bus touches) ≡ length touches
both_kinds touches = omega (arith, length-filter_both is_bus (λ t. not (is_bus t)) (λ _. refl) touches)
