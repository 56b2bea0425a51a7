-- Taps may be cut where a journey starts.
use Rattle.std.proofs.Common.{◌≡◌, suc, Bool, true, false, not, ◌&&◌, List, [], ◌∷◌, ◌++◌, length, get_or, slice_get, Option, Some, None, refl, ap, sym, ◌∙◌, arith}
use Rattle.std.specs.Option.{is_none}
use Rattle.std.proofs.lemmas.Bool.{and_parts}
use Rattle.pay_tables.specs.Words.{FareEditions}
use Rattle.pay_rules.specs.declared.tap.Touch.{Touch}
use Rattle.pay_rules.specs.Legs.{legs}
use Rattle.pay_rules.specs.declared.parts.Leg.{Leg}
use Rattle.pay_rules.specs.RailJourneys.{journeys}
use Rattle.pay_links.specs.Starts.{leg_between, are_linked, starts_at, starts_after, starts, until_start, journey_of_taps, journeys_by_marks}
use Rattle.pay_links.specs.Laws.{AsManyMarksAsTaps, JourneysAreKeptAsMarks, MarksAreCut, JourneysAreCut}

-- ---- marks

none_found : (found : Option Leg) → is_none found ≡ true → found ≡ None
none_found None h = refl
none_found (Some leg) h = cc

-- where a journey starts, the tap before and this one are no leg
no_leg_ends : (editions : FareEditions) (farther nearer : Option Touch) (tap : Touch) (next : Option Touch) → starts_at editions farther nearer tap next ≡ true →
    leg_between editions nearer (Some tap) ≡ None
no_leg_ends editions farther nearer tap next h = none_found (leg_between editions nearer (Some tap)) (and_parts _ _ h).0

-- from there on the taps before do not count
later_alone : (editions : FareEditions) (farther nearer : Option Touch) (later : List Touch) → get_or (starts_after editions farther nearer later) 0 true ≡ true →
    starts_after editions farther nearer later ≡ starts editions later
later_alone editions farther nearer [] h = refl
later_alone editions farther nearer (tap ∷ []) h = ap (λ mark. mark ∷ []) h
later_alone editions farther nearer (tap ∷ next ∷ later) h =
    let here = leg_between editions (Some tap) (Some next) in
    let beyond = leg_between editions (Some next) (slice_get later 0) in
    let rest = starts_after editions (Some tap) (Some next) later in
    ap (λ mark. mark ∷ starts_after editions nearer (Some tap) (next ∷ later)) h
    ∙ ap (λ before. true ∷ (is_none here && not (are_linked editions.own before beyond)) ∷ rest) (no_leg_ends editions farther nearer tap (Some next) h)

-- and to the tap before the one there does not count
last_alone : (editions : FareEditions) (farther nearer : Option Touch) (tap : Touch) (later : List Touch) →
    get_or (starts_after editions nearer (Some tap) later) 0 true ≡ true → starts_at editions farther nearer tap (slice_get later 0) ≡ starts_at editions farther nearer tap None
last_alone editions farther nearer tap [] h = refl
last_alone editions farther nearer tap (next ∷ later) h =
    ap (λ leg. is_none (leg_between editions nearer (Some tap)) && not (are_linked editions.own (leg_between editions farther nearer) leg))
    (no_leg_ends editions nearer (Some tap) next (slice_get later 0) h)

marks_cut_after : (editions : FareEditions) (farther nearer : Option Touch) (earlier later : List Touch) →
    get_or (starts_after editions farther nearer (earlier ++ later)) (length earlier) true ≡ true →
    starts_after editions farther nearer (earlier ++ later) ≡ starts_after editions farther nearer earlier ++ starts editions later
marks_cut_after editions farther nearer [] later h = later_alone editions farther nearer later h
marks_cut_after editions farther nearer (tap ∷ []) later h =
    ap (λ mark. mark ∷ starts_after editions nearer (Some tap) later) (last_alone editions farther nearer tap later h)
    ∙ ap (λ marks. starts_at editions farther nearer tap None ∷ marks) (later_alone editions nearer (Some tap) later h)
marks_cut_after editions farther nearer (tap ∷ next ∷ earlier) later h =
    ap (λ marks. starts_at editions farther nearer tap (Some next) ∷ marks) (marks_cut_after editions nearer (Some tap) (next ∷ earlier) later h)

pub marks_cut : MarksAreCut
marks_cut editions earlier later apart = marks_cut_after editions None None earlier later apart

-- ---- journeys

as_many : (editions : FareEditions) (farther nearer : Option Touch) (taps : List Touch) → length (starts_after editions farther nearer taps) ≡ length taps
as_many editions farther nearer [] = refl
as_many editions farther nearer (tap ∷ later) = ap suc (as_many editions nearer (Some tap) later)

pub as_many_marks : AsManyMarksAsTaps
as_many_marks editions taps = as_many editions None None taps

-- the first of all taps starts a journey
none_before : (editions : FareEditions) (taps : List Touch) → until_start (starts editions taps) taps ≡ []
none_before editions [] = refl
none_before editions (tap ∷ later) = refl

until_cut : (marks others : List Bool) (taps more : List Touch) → length marks ≡ length taps → until_start others more ≡ [] →
    until_start (marks ++ others) (taps ++ more) ≡ until_start marks taps
until_cut [] others [] more l none = none
until_cut [] others (tap ∷ taps) more l none = absurd (omega arith)
until_cut (mark ∷ marks) others [] more l none = absurd (omega arith)
until_cut (true ∷ marks) others (tap ∷ taps) more l none = refl
until_cut (false ∷ marks) others (tap ∷ taps) more l none = ap (λ later. tap ∷ later) (until_cut marks others taps more (omega arith) none)

by_marks_cut : (marks others : List Bool) (taps more : List Touch) → length marks ≡ length taps → until_start others more ≡ [] →
    journeys_by_marks (marks ++ others) (taps ++ more) ≡ journeys_by_marks marks taps ++ journeys_by_marks others more
by_marks_cut [] others [] more l none = refl
by_marks_cut [] others (tap ∷ taps) more l none = absurd (omega arith)
by_marks_cut (mark ∷ marks) others [] more l none = absurd (omega arith)
by_marks_cut (true ∷ marks) others (tap ∷ taps) more l none =
    let fewer : length marks ≡ length taps = omega arith in
    ap (λ own. journey_of_taps tap own ∷ journeys_by_marks (marks ++ others) (taps ++ more)) (until_cut marks others taps more fewer none)
    ∙ ap (λ list. journey_of_taps tap (until_start marks taps) ∷ list) (by_marks_cut marks others taps more fewer none)
by_marks_cut (false ∷ marks) others (tap ∷ taps) more l none = by_marks_cut marks others taps more (omega arith) none

pub journeys_cut : JourneysAreKeptAsMarks → JourneysAreCut
journeys_cut kept editions earlier later apart =
    sym (kept editions (earlier ++ later)) ∙ ap (λ marks. journeys_by_marks marks (earlier ++ later)) (marks_cut editions earlier later apart)
    ∙ by_marks_cut (starts editions earlier) (starts editions later) earlier later (as_many editions None None earlier) (none_before editions later)
    ∙ ap (λ list. list ++ journeys_by_marks (starts editions later) later) (kept editions earlier)
    ∙ ap (λ list. journeys editions.own (legs editions earlier) ++ list) (kept editions later)
