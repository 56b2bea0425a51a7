-- The marks that the taps next to each one decide are the marks of the journeys.
use Rattle.std.proofs.Common.{◌≡◌, Bool, true, false, not, List, [], ◌∷◌, ◌++◌, append_assoc, slice_get, if◌then◌else◌, Option, Some, None, flat_map, refl, ap, sym, ◌∙◌}
use Rattle.pay_tables.specs.Words.{FareEditions, FareTables}
use Rattle.pay_rules.specs.declared.tap.Touch.{Touch}
use Rattle.pay_rules.specs.Legs.{is_leg, legs}
use Rattle.pay_rules.specs.declared.parts.Leg.{Leg}
use Rattle.pay_rules.specs.declared.parts.RailPart.{RailPart}
use Rattle.pay_rules.specs.declared.parts.RailPart.TheVariants as part
use Rattle.pay_rules.specs.LinkedLegs.{LinkedLegs, last_leg, joined}
use Rattle.pay_rules.specs.RailJourneys.{is_same, is_linked, alone, run_before, leg_before, journeys}
use Rattle.pay_links.specs.OpenRun.{open_before}
use Rattle.pay_links.specs.Starts.{leg_of, leg_between, are_linked, starts_at, starts_after, taps_of_leg, taps_of_journey, unmarked, marks_of_one, start_marks}
use Rattle.pay_links.specs.Laws.{StartsAreLocal}
use Rattle.pay_rules.specs.declared.journey.Journey.TheVariants as journey
use Rattle.pay_links.proofs.OpenRun.{last_joined, run_goes_on, run_ends}

-- the marks of parts after a leg, or after none
abbrev pub marks_of_parts : FareTables → Option Leg → List RailPart → List Bool
marks_of_parts tables before [] = []
marks_of_parts tables before (part.Lone tap ∷ parts) = true ∷ marks_of_parts tables None parts
marks_of_parts tables before (part.Leg leg ∷ parts) = not (are_linked tables before (Some leg)) ∷ false ∷ marks_of_parts tables (Some leg) parts

-- no tap that ends a leg begins one
abbrev pub OneLegEach : FareEditions → Type 0
OneLegEach editions = (entry exit next : Touch) → is_leg editions entry exit ≡ true → is_leg editions exit next ≡ false

-- ---- of taps and their parts

linked_with_none : (tables : FareTables) (before : Option Leg) → are_linked tables before None ≡ false
linked_with_none tables None = refl
linked_with_none tables (Some leg) = refl

-- a journey starts at a tap that is in no leg
starts_alone : (editions : FareEditions) (farther nearer : Option Touch) (tap : Touch) (next : Option Touch) →
    leg_between editions nearer (Some tap) ≡ None → leg_between editions (Some tap) next ≡ None → starts_at editions farther nearer tap next ≡ true
starts_alone editions farther nearer tap next a b =
    let none = linked_with_none editions.own (leg_between editions farther nearer) in rw (a, b, none) refl

-- after a leg no leg begins with its exit
exit_is_apart : (editions : FareEditions) → OneLegEach editions → (entry exit : Touch) (later : List Touch) → is_leg editions entry exit ≡ true →
    leg_between editions (Some exit) (slice_get later 0) ≡ None
exit_is_apart editions one entry exit [] h = refl
exit_is_apart editions one entry exit (next ∷ later) h = rw (one entry exit next h) refl

-- the marks of two taps more, by whether they are a leg
by_first_two : (editions : FareEditions) (farther nearer : Option Touch) (tap next : Touch) (later : List Touch) (together : Bool) → is_leg editions tap next ≡ together →
    leg_between editions nearer (Some tap) ≡ None →
    (is_leg editions tap next ≡ true → starts_after editions (Some tap) (Some next) later ≡ marks_of_parts editions.own (leg_between editions (Some tap) (Some next)) (legs editions later)) →
    (is_leg editions tap next ≡ false → starts_after editions nearer (Some tap) (next ∷ later) ≡ marks_of_parts editions.own (leg_between editions nearer (Some tap)) (legs editions (next ∷ later))) →
    starts_after editions farther nearer (tap ∷ next ∷ later)
    ≡ marks_of_parts editions.own (leg_between editions farther nearer) (if together then part.Leg (leg_of tap next) ∷ legs editions later else part.Lone tap ∷ legs editions (next ∷ later))
by_first_two editions farther nearer tap next later true h apart both one =
    let first : starts_at editions farther nearer tap (Some next) ≡ not (are_linked editions.own (leg_between editions farther nearer) (Some (leg_of tap next))) = rw (apart, h) refl in
    let second : starts_at editions nearer (Some tap) next (slice_get later 0) ≡ false = rw h refl in
    let rest : starts_after editions (Some tap) (Some next) later ≡ marks_of_parts editions.own (Some (leg_of tap next)) (legs editions later) = rw h at (both h) in
    cc
by_first_two editions farther nearer tap next later false h apart both one =
    let none : leg_between editions (Some tap) (Some next) ≡ None = rw h refl in
    let first : starts_at editions farther nearer tap (Some next) ≡ true = starts_alone editions farther nearer tap (Some next) apart none in
    let rest : starts_after editions nearer (Some tap) (next ∷ later) ≡ marks_of_parts editions.own None (legs editions (next ∷ later)) =
    one h ∙ ap (λ before. marks_of_parts editions.own before (legs editions (next ∷ later))) apart in
    cc

marks_of_taps : (editions : FareEditions) → OneLegEach editions → (farther nearer : Option Touch) (taps : List Touch) → leg_between editions nearer (slice_get taps 0) ≡ None →
    starts_after editions farther nearer taps ≡ marks_of_parts editions.own (leg_between editions farther nearer) (legs editions taps)
marks_of_taps editions each farther nearer [] apart = refl
marks_of_taps editions each farther nearer (tap ∷ []) apart = ap (λ mark. mark ∷ []) (starts_alone editions farther nearer tap None apart refl)
marks_of_taps editions each farther nearer (tap ∷ next ∷ later) apart =
    by_first_two editions farther nearer tap next later (is_leg editions tap next) refl apart
    (λ h. marks_of_taps editions each (Some tap) (Some next) later (exit_is_apart editions each tap next later h))
    (λ h. marks_of_taps editions each nearer (Some tap) (next ∷ later) (rw h refl))

-- ---- of parts and their journeys

-- after such a leg the marks are as after none
after_same : (tables : FareTables) (leg : Leg) (parts : List RailPart) → is_same leg ≡ true → marks_of_parts tables (Some leg) parts ≡ marks_of_parts tables None parts
after_same tables leg [] s = refl
after_same tables leg (part.Lone tap ∷ parts) s = refl
after_same tables leg (part.Leg next ∷ parts) s = rw s refl

-- the marks of a run that may go on, and its last leg
abbrev marks_of_run : Option LinkedLegs → List Bool
marks_of_run None = []
marks_of_run (Some run) = marks_of_one (taps_of_journey (journey.Run run))

abbrev last_of_run : Option LinkedLegs → Option Leg
last_of_run None = None
last_of_run (Some run) = Some (last_leg run)

-- the marks of a run with one leg more
unmarked_more : (others : List Leg) (leg : Leg) → unmarked (flat_map taps_of_leg (others ++ leg ∷ [])) ≡ unmarked (flat_map taps_of_leg others) ++ false ∷ false ∷ []
unmarked_more [] leg = refl
unmarked_more (one ∷ others) leg = ap (λ marks. false ∷ false ∷ marks) (unmarked_more others leg)

one_leg_more : (run : LinkedLegs) (leg : Leg) → marks_of_run (Some (joined run (alone leg))) ≡ marks_of_run (Some run) ++ false ∷ false ∷ []
one_leg_more run leg = ap (λ marks. true ∷ false ∷ marks) (unmarked_more run.others leg)

-- a leg after no run
leg_first : (tables : FareTables) (leg : Leg) (parts : List RailPart) (same : Bool) → is_same leg ≡ same →
    start_marks (journeys tables parts) ≡ marks_of_parts tables None parts →
    start_marks (run_before tables (alone leg) (journeys tables parts)) ≡ true ∷ false ∷ marks_of_parts tables (Some leg) parts →
    start_marks (leg_before tables leg (journeys tables parts)) ≡ true ∷ false ∷ marks_of_parts tables (Some leg) parts
leg_first tables leg parts true s none run =
    let stands : leg_before tables leg (journeys tables parts) ≡ journey.Same leg ∷ journeys tables parts = rw s refl in
    ap start_marks stands ∙ ap (λ marks. true ∷ false ∷ marks) (none ∙ sym (after_same tables leg parts s))
leg_first tables leg parts false s none run =
    let stands : leg_before tables leg (journeys tables parts) ≡ run_before tables (alone leg) (journeys tables parts) = rw s refl in
    ap start_marks stands ∙ run

-- a leg after a run, into which that goes on or not
leg_after : (tables : FareTables) (run : LinkedLegs) (leg : Leg) (parts : List RailPart) (same on : Bool) → is_same leg ≡ same → is_linked tables (last_leg run) leg ≡ on →
    start_marks (journeys tables parts) ≡ marks_of_parts tables None parts →
    start_marks (run_before tables (alone leg) (journeys tables parts)) ≡ true ∷ false ∷ marks_of_parts tables (Some leg) parts →
    start_marks (run_before tables (joined run (alone leg)) (journeys tables parts))
    ≡ marks_of_run (Some (joined run (alone leg))) ++ marks_of_parts tables (Some (last_leg (joined run (alone leg)))) parts →
    start_marks (run_before tables run (leg_before tables leg (journeys tables parts)))
    ≡ marks_of_run (Some run) ++ not (is_linked tables (last_leg run) leg) ∷ false ∷ marks_of_parts tables (Some leg) parts
leg_after tables run leg parts same true s l none one more =
    let last : last_leg (joined run (alone leg)) ≡ leg = last_joined run.first run.others leg in
    ap start_marks (run_goes_on tables run leg (journeys tables parts) l) ∙ more
    ∙ ap (λ marks. marks ++ marks_of_parts tables (Some (last_leg (joined run (alone leg)))) parts) (one_leg_more run leg)
    ∙ ap (λ before. (marks_of_run (Some run) ++ false ∷ false ∷ []) ++ marks_of_parts tables (Some before) parts) last
    ∙ append_assoc (marks_of_run (Some run)) (false ∷ false ∷ []) (marks_of_parts tables (Some leg) parts)
    ∙ ap (λ on. marks_of_run (Some run) ++ not on ∷ false ∷ marks_of_parts tables (Some leg) parts) (sym l)
leg_after tables run leg parts true false s l none one more =
    let stands : leg_before tables leg (journeys tables parts) ≡ journey.Same leg ∷ journeys tables parts = rw s refl in
    ap (λ later. start_marks (run_before tables run later)) stands
    ∙ ap (λ marks. marks_of_run (Some run) ++ true ∷ false ∷ marks) (none ∙ sym (after_same tables leg parts s))
    ∙ ap (λ on. marks_of_run (Some run) ++ not on ∷ false ∷ marks_of_parts tables (Some leg) parts) (sym l)
leg_after tables run leg parts false false s l none one more =
    ap start_marks (run_ends tables run leg (journeys tables parts) s l) ∙ ap (λ marks. marks_of_run (Some run) ++ marks) one
    ∙ ap (λ on. marks_of_run (Some run) ++ not on ∷ false ∷ marks_of_parts tables (Some leg) parts) (sym l)

-- the marks of the journeys of parts after a run that may go on
marks_with : (tables : FareTables) (current : Option LinkedLegs) (parts : List RailPart) →
    start_marks (open_before tables current (journeys tables parts)) ≡ marks_of_run current ++ marks_of_parts tables (last_of_run current) parts
marks_with tables None [] = refl
marks_with tables (Some run) [] = refl
marks_with tables None (part.Lone tap ∷ parts) = ap (λ marks. true ∷ marks) (marks_with tables None parts)
marks_with tables (Some run) (part.Lone tap ∷ parts) = ap (λ marks. marks_of_run (Some run) ++ true ∷ marks) (marks_with tables None parts)
marks_with tables None (part.Leg leg ∷ parts) =
    leg_first tables leg parts (is_same leg) refl (marks_with tables None parts) (marks_with tables (Some (alone leg)) parts)
marks_with tables (Some run) (part.Leg leg ∷ parts) =
    leg_after tables run leg parts (is_same leg) (is_linked tables (last_leg run) leg) refl refl
    (marks_with tables None parts) (marks_with tables (Some (alone leg)) parts) (marks_with tables (Some (joined run (alone leg))) parts)

pub starts_are_local : ((editions : FareEditions) → OneLegEach editions) → StartsAreLocal
starts_are_local each editions taps =
    marks_of_taps editions (each editions) None None taps refl ∙ sym (marks_with editions.own None (legs editions taps))
