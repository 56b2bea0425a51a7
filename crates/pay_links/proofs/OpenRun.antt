-- A run that may go on, and the next leg.
use Rattle.std.proofs.Common.{◌≡◌, ◌≤◌, ℕ, length, drop, Bool, true, false, List, [], ◌∷◌, ◌++◌, append_assoc, ◌&&◌, not, Option, Some, None, refl}
use Rattle.std.proofs.lemmas.List.{drop_all}
use Rattle.pay_rules.specs.declared.parts.RailPart.{RailPart}
use Rattle.pay_tables.specs.Words.{FareTables, interchange}
use Rattle.pay_rules.specs.declared.parts.Leg.{Leg}
use Rattle.pay_rules.specs.LinkedLegs.{LinkedLegs, last_after, last_leg, joined}
use Rattle.pay_rules.specs.RailJourneys.{is_same, is_in_time, is_linked, alone, run_before, leg_before, journeys}
use Rattle.pay_links.specs.OpenRun.{closed, open_before}
use Rattle.pay_rules.specs.declared.journey.Journey.{Journey}
use Rattle.pay_rules.specs.declared.journey.Journey.TheVariants as journey

-- the last leg, where a leg goes on from others
pub last_joined : (first : Leg) (others : List Leg) (leg : Leg) → last_after first (others ++ leg ∷ []) ≡ leg
last_joined first [] leg = refl
last_joined first (next ∷ later) leg = last_joined next later leg

neither : (a b c : Bool) → (not a && not b && c) ≡ true → (a ≡ false) × (b ≡ false)
neither true b c h = cc
neither false true c h = cc
neither false false c h = (refl, refl)

-- linked legs are not at one station
pub linked_not_same : (tables : FareTables) (leg next : Leg) → is_linked tables leg next ≡ true → (is_same leg ≡ false) × (is_same next ≡ false)
linked_not_same tables leg next h =
    neither (is_same leg) (is_same next) (is_in_time leg.exit.stamp.utc next.entry.stamp.utc (interchange tables leg.exit.place next.entry.place)) h

-- a leg that goes on from a run, and into the next run or not
goes_on_before : (tables : FareTables) (run : LinkedLegs) (leg : Leg) (next : LinkedLegs) (later : List Journey) (on : Bool) →
    is_linked tables (last_leg run) leg ≡ true → is_linked tables leg next.first ≡ on →
    run_before tables run (run_before tables (alone leg) (journey.Run next ∷ later)) ≡ run_before tables (joined run (alone leg)) (journey.Run next ∷ later)
goes_on_before tables run leg next later true h b = rw (last_joined run.first run.others leg, b) (rw h (rw append_assoc refl))
goes_on_before tables run leg next later false h b = rw (last_joined run.first run.others leg, b) (rw h)

-- a leg that goes on from a run is of the run
pub run_goes_on : (tables : FareTables) (run : LinkedLegs) (leg : Leg) (later : List Journey) → is_linked tables (last_leg run) leg ≡ true →
    run_before tables run (leg_before tables leg later) ≡ run_before tables (joined run (alone leg)) later
run_goes_on tables run leg later h = let e = (linked_not_same tables (last_leg run) leg h).1 in rw e (goes_on_alone later)
  where
    goes_on_alone : (later : List Journey) → run_before tables run (run_before tables (alone leg) later) ≡ run_before tables (joined run (alone leg)) later
    goes_on_alone [] = rw h
    goes_on_alone (journey.Run next ∷ later) = goes_on_before tables run leg next later (is_linked tables leg next.first) h refl
    goes_on_alone (journey.Same other ∷ later) = rw h
    goes_on_alone (journey.Lone tap ∷ later) = rw h
    goes_on_alone (journey.Bus tap pays ∷ later) = rw h

-- any other leg ends the run
ends_before : (tables : FareTables) (run : LinkedLegs) (leg : Leg) (next : LinkedLegs) (later : List Journey) (on : Bool) →
    is_linked tables (last_leg run) leg ≡ false → is_linked tables leg next.first ≡ on →
    run_before tables run (run_before tables (alone leg) (journey.Run next ∷ later)) ≡ journey.Run run ∷ run_before tables (alone leg) (journey.Run next ∷ later)
ends_before tables run leg next later true h b = rw b (rw h)
ends_before tables run leg next later false h b = rw b (rw h)

pub run_ends : (tables : FareTables) (run : LinkedLegs) (leg : Leg) (later : List Journey) → is_same leg ≡ false → is_linked tables (last_leg run) leg ≡ false →
    run_before tables run (leg_before tables leg later) ≡ journey.Run run ∷ run_before tables (alone leg) later
run_ends tables run leg later s h = rw s (ends_alone later)
  where
    ends_alone : (later : List Journey) → run_before tables run (run_before tables (alone leg) later) ≡ journey.Run run ∷ run_before tables (alone leg) later
    ends_alone [] = rw h
    ends_alone (journey.Run next ∷ later) = ends_before tables run leg next later (is_linked tables leg next.first) h refl
    ends_alone (journey.Same other ∷ later) = rw h
    ends_alone (journey.Lone tap ∷ later) = rw h
    ends_alone (journey.Bus tap pays ∷ later) = rw h

-- with no part left, the run is closed
closed_at_end : (tables : FareTables) (current : Option LinkedLegs) → open_before tables current [] ≡ closed current
closed_at_end tables None = refl
closed_at_end tables (Some run) = refl

-- past the last part, the journeys so far and the run that may go on are all of them
pub all_read : (tables : FareTables) (parts : List RailPart) (done list : List Journey) (current : Option LinkedLegs) (count : ℕ) → length parts ≤ count →
    done ++ open_before tables current (journeys tables (drop count parts)) ≡ journeys tables parts → list ≡ done ++ closed current → list ≡ journeys tables parts
all_read tables parts done list current count past h l =
    let none_left = drop_all count parts past in
    let e : done ++ open_before tables current (journeys tables (drop count parts)) ≡ done ++ closed current = rw (none_left, closed_at_end tables current) in
    cc
