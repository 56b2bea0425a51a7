-- When what a book keeps is right.
use Rattle.std.specs.Prelude.{◌≡◌, ◌≤◌, Ok, List, length, filter, None}
use Rattle.pay_tables.specs.Words.{FareEditions}
use Rattle.pay_rules.specs.declared.addition.Addition.TheVariants.{Added}
use Rattle.pay_rules.specs.Numbers.{IsNumbered}
use Rattle.pay_rules.specs.declared.limits.TheConstants.{MOST_TAPS, MOST_FIXES, MOST_TOUCHES}
use Rattle.pay_rules.specs.declared.tap.Tap.{Tap}
use Rattle.pay_rules.specs.declared.tap.Touch.{Touch}
use Rattle.pay_taps.specs.Words.{AreTimed}
use Rattle.pay_rules.specs.Taps.{number as tap_number, judged}
use Rattle.pay_fix.specs.declared.change.Change.{Change}
use Rattle.pay_rules.specs.declared.fix.Fix.{Fix}
use Rattle.pay_fix.specs.Words.{IsChanged, change_by_tap, change_by_fix}
use Rattle.pay_rules.specs.Fixes.{number as fix_number, judged as judged_fix}
use Rattle.pay_rules.specs.Accepted.{Accepted, touches, with_tap, with_fix}
use Rattle.pay_rules.specs.Journeys.{is_bus, is_rail, rail_journeys, journeys_of}
use Rattle.pay_rules.specs.Hopper.{instants_of, paying_marks}
use Rattle.pay_hopper.specs.Words.{marks_by_last}
use Rattle.pay_links.specs.Words.{starts, journeys_by_marks}
use Rattle.pay_rules.specs.declared.journey.Journey.{Journey}
use Rattle.pay_book.specs.Books.{BookParts}
use Rattle.pay_book.specs.Days.{AreSums}
use Rattle.pay_book.specs.Disturbed.{disturbed}
use Rattle.pay_book.specs.MarkedTaps.{all_journeys, IsPossible, taps_after, disturbed_by_change}
use Rattle.pay_book.specs.declared.marked_taps.MarkedTaps.{MarkedTaps}

-- what a book keeps is that of the effective taps of what it has accepted, by these editions
pub record IsConsistent (editions : FareEditions) (book : BookParts) : Type 0 where
  pub rail : book.rail ≡ filter is_rail (touches book.accepted)
  pub starts : book.starts ≡ starts editions book.rail
  pub buses : book.buses ≡ filter is_bus (touches book.accepted)
  pub pays : book.pays ≡ marks_by_last editions.own.rules.hopper None book.buses
  pub sums : AreSums editions book.days (all_journeys editions book.rail book.buses)

-- the stored journeys by rail: from each tap that is marked as a start up to before the next
abbrev pub stored_journeys : BookParts → List Journey
stored_journeys book = journeys_by_marks book.starts book.rail

-- what is stored, by the definitions over all that is accepted: the journeys by rail, the marks of the boardings that pay, and of each
-- day the sums of the fares of its journeys
pub record IsStored (editions : FareEditions) (book : BookParts) : Type 0 where
  pub journeys : stored_journeys book ≡ rail_journeys editions (touches book.accepted)
  pub pays : book.pays ≡ paying_marks editions.own.rules.hopper (instants_of (filter is_bus (touches book.accepted)))
  pub sums : AreSums editions book.days (journeys_of editions (touches book.accepted))

-- ---- a change of effective taps

-- a change from these to those
pub record IsChange (change : Change) (before after : List Touch) : Type 0 where
  pub timed : AreTimed before
  pub timed_then : AreTimed after
  pub few : length before ≤ MOST_TOUCHES
  pub few_then : length after ≤ MOST_TOUCHES
  pub changed : IsChanged change before after

-- numbers of what is accepted
pub record AreNumbered (accepted : Accepted) : Type 0 where
  pub taps : IsNumbered tap_number MOST_TAPS accepted.taps
  pub fixes : IsNumbered fix_number MOST_FIXES accepted.fixes

-- a tap that is accepted is a change
abbrev pub TapIsChange : Type 0
TapIsChange = (accepted : Accepted) (tap : Tap) → AreNumbered accepted → judged accepted.taps tap ≡ Ok Added
    → IsChange (change_by_tap accepted.fixes tap) (touches accepted) (touches (with_tap accepted tap))

-- and a correction
abbrev pub FixIsChange : Type 0
FixIsChange = (accepted : Accepted) (fix : Fix) → AreNumbered accepted → judged_fix accepted.fixes fix ≡ Ok Added
    → IsChange (change_by_fix accepted.taps accepted.fixes fix) (touches accepted) (touches (with_fix accepted fix))

-- where the kept taps are those of before
pub record AreStoredTaps (held : MarkedTaps) (touches : List Touch) : Type 0 where
  pub rail : held.rail.touches ≡ filter is_rail touches
  pub buses : held.buses.touches ≡ filter is_bus touches

abbrev pub ChangeIsPossible : Type 0
ChangeIsPossible = (change : Change) (before after : List Touch) (held : MarkedTaps) → IsChange change before after → AreStoredTaps held before → IsPossible held change

-- and the taps that it makes of them are those of after
abbrev pub ChangeIsMade : Type 0
ChangeIsMade = (change : Change) (before after : List Touch) (held : MarkedTaps) → IsChange change before after → AreStoredTaps held before
    → (taps_after is_rail change held.rail.touches ≡ filter is_rail after) × (taps_after is_bus change held.buses.touches ≡ filter is_bus after)

-- and it disturbs as many of the kept taps as its command does of the effective ones
abbrev pub ChangeDisturbs : Type 0
ChangeDisturbs = (editions : FareEditions) (change : Change) (before after : List Touch) (held : MarkedTaps) → IsChange change before after → AreStoredTaps held before
    → disturbed_by_change editions held change ≡ disturbed editions before after
