-- What is kept of an account beside what it has accepted, and when that is right.
use Rattle.std.specs.Prelude.{◌≡◌, ℕ, ◌+◌, ◌≤◌, ◌<◌, ⊤, Bool, true, false, if◌then◌else◌, List, ◌∷◌, ◌++◌, length, filter, slice_get, Some, None}
use Rattle.std.specs.List.{remove}
use Rattle.smallvec.specs.SmallVec.{HasRoomFor}
use Rattle.pay_tables.specs.Words.{FareEditions}
use Rattle.pay_rules.specs.declared.tap.Touch.{Touch}
use Rattle.pay_taps.specs.Words.{place_of, AreTimed}
use Rattle.pay_rules.specs.Order.{put_in, HaveOwnNumbers}
use Rattle.pay_fix.specs.Words.{IsChanged}
use Rattle.pay_fix.specs.declared.change.Change.{Change}
use Rattle.pay_fix.specs.declared.change.Change.TheVariants.{Nothing, Enters, Leaves}
use Rattle.pay_rules.specs.declared.limits.TheConstants.{MOST_TOUCHES}
use Rattle.pay_hopper.specs.Words.{marks_by_last}
use Rattle.pay_rules.specs.Legs.{legs}
use Rattle.pay_rules.specs.RailJourneys.{journeys}
use Rattle.pay_links.specs.Words.{starts}
use Rattle.pay_rules.specs.declared.journey.Journey.{Journey}
use Rattle.pay_rules.specs.Journeys.{is_bus, is_rail}
use Rattle.pay_book.specs.Boardings.{boarded}
use Rattle.pay_book.specs.Disturbed.{disturbed_by_rail, disturbed_by_bus}
use Rattle.pay_book.specs.Fewer.{fewer_of, more_of}
use Rattle.pay_book.specs.Boardings.{IsDisturbed as AreDisturbed}
use Rattle.pay_book.specs.Days.{AreSummed, AreSums}
use Rattle.pay_book.specs.Rail.{IsDisturbedBy}
use Rattle.pay_book.specs.declared.boardings.Boardings.{Boardings}
use Rattle.pay_book.specs.declared.marked_taps.MarkedTaps.{MarkedTaps}
use Rattle.pay_book.specs.declared.marked_taps.Repair.{Repair}
use Rattle.pay_book.specs.declared.marked_taps.Repair.TheVariants as repair
use Rattle.pay_book.specs.declared.rail.Disturbed.{Disturbed}

-- the journeys of rail taps and of bus taps, each in order
abbrev pub all_journeys : FareEditions → List Touch → List Touch → List Journey
all_journeys editions rail buses = journeys editions.own (legs editions rail) ++ boarded editions.own.rules.hopper buses

-- marks and sums are those of the taps that are kept
pub record IsRight (editions : FareEditions) (held : MarkedTaps) : Type 0 where
  pub starts : held.starts.items ≡ starts editions held.rail.touches
  pub pays : held.pays.items ≡ marks_by_last editions.own.rules.hopper None held.buses.touches
  pub sums : AreSums editions held.days (all_journeys editions held.rail.touches held.buses.touches)

-- there is room for a tap more by rail, with its mark
pub record HasRoomByRail (held : MarkedTaps) : Type 0 where
  pub rail : 1 ≤ held.rail.room
  pub starts : HasRoomFor held.starts 1

-- and for one on a bus
pub record HasRoomOnBuses (held : MarkedTaps) : Type 0 where
  pub buses : 1 ≤ held.buses.room
  pub pays : HasRoomFor held.pays 1

-- taps and their marks are as before
pub record AreAsBefore (before after : MarkedTaps) : Type 0 where
  pub rail : after.rail.touches ≡ before.rail.touches
  pub starts : after.starts.items ≡ before.starts.items
  pub buses : after.buses.touches ≡ before.buses.touches
  pub pays : after.pays.items ≡ before.pays.items

-- ---- what a command changes

-- taps of one kind, by rail or on buses, after a change: one of that kind more or less
abbrev pub taps_after : (Touch → Bool) → Change → List Touch → List Touch
taps_after is_kind Nothing taps = taps
taps_after is_kind (Enters touch) taps = if is_kind touch then put_in touch taps else taps
taps_after is_kind (Leaves touch) taps = if is_kind touch then remove taps (place_of touch taps) else taps

-- a change of taps of one kind that can be: one enters whose number none has, or one leaves that is there
abbrev pub IsPossibleFor : (Touch → Bool) → Change → List Touch → Type 0
IsPossibleFor is_kind Nothing taps = ⊤
IsPossibleFor is_kind (Enters touch) taps = is_kind touch ≡ true → HaveOwnNumbers (touch ∷ taps)
IsPossibleFor is_kind (Leaves touch) taps = is_kind touch ≡ true → slice_get taps (place_of touch taps) ≡ Some touch

-- and of all taps, of which there are never too many
pub record IsPossible (held : MarkedTaps) (change : Change) : Type 0 where
  pub rail : IsPossibleFor is_rail change held.rail.touches
  pub buses : IsPossibleFor is_bus change held.buses.touches
  pub few : length held.rail.touches + length held.buses.touches ≤ MOST_TOUCHES
  pub few_then : length (taps_after is_rail change held.rail.touches) + length (taps_after is_bus change held.buses.touches) ≤ MOST_TOUCHES

-- how many of the taps that are kept one disturbs that enters, or leaves where it is there
abbrev pub disturbed_by : FareEditions → MarkedTaps → Touch → Bool → ℕ
disturbed_by editions held touch is_there =
    if is_bus touch then disturbed_by_bus editions.own.rules.hopper (more_of is_there touch held.buses.touches) (place_of touch held.buses.touches)
    else disturbed_by_rail editions (more_of is_there touch held.rail.touches) (place_of touch held.rail.touches)

-- and how many a change does
abbrev pub disturbed_by_change : FareEditions → MarkedTaps → Change → ℕ
disturbed_by_change editions held Nothing = 0
disturbed_by_change editions held (Enters touch) = disturbed_by editions held touch false
disturbed_by_change editions held (Leaves touch) = disturbed_by editions held touch true

-- what a tap by rail disturbs as it enters or leaves, with room for it; sums are kept of the days of the journeys that there are then
pub record IsPreparedByRail (editions : FareEditions) (held : MarkedTaps) (touch : Touch) (is_there : Bool) (found : Disturbed) : Type 0 where
  pub kind : is_bus touch ≡ false
  pub room : HasRoomByRail held
  pub disturbed : IsDisturbedBy editions held.rail.touches touch is_there found.fewer.items found.more.items
  pub opened : AreSummed held.days (if is_there then found.fewer.items else found.more.items)

-- and one on a bus
pub record IsPreparedOnBus (editions : FareEditions) (held : MarkedTaps) (touch : Touch) (is_there : Bool) (found : Boardings) : Type 0 where
  pub kind : is_bus touch ≡ true
  pub room : HasRoomOnBuses held
  pub disturbed : AreDisturbed editions.own.rules.hopper (fewer_of is_there (place_of touch held.buses.touches) held.buses.touches) touch found.fewer.items found.more.items
  pub opened : AreSummed held.days (if is_there then found.fewer.items else found.more.items)
  pub within : place_of touch held.buses.touches ≤ length held.pays.items
  pub inside : is_there ≡ true → place_of touch held.buses.touches < length held.pays.items

abbrev pub IsPreparedFor : FareEditions → MarkedTaps → Touch → Bool → Repair → Type 0
IsPreparedFor editions held touch is_there repair.Nothing = ⊥
IsPreparedFor editions held touch is_there (repair.Rail found) = IsPreparedByRail editions held touch is_there found
IsPreparedFor editions held touch is_there (repair.Bus found) = IsPreparedOnBus editions held touch is_there found

-- what a change disturbs
abbrev pub IsPrepared : FareEditions → MarkedTaps → Change → Repair → Type 0
IsPrepared editions held Nothing repair = ⊤
IsPrepared editions held (Enters touch) repair = IsPreparedFor editions held touch false repair
IsPrepared editions held (Leaves touch) repair = IsPreparedFor editions held touch true repair

-- what is kept is that of these effective taps
pub record IsMarkedBy (editions : FareEditions) (touches : List Touch) (held : MarkedTaps) : Type 0 where
  pub right : IsRight editions held
  pub rail : held.rail.touches ≡ filter is_rail touches
  pub buses : held.buses.touches ≡ filter is_bus touches

-- ---- laws

-- effective taps of one kind after a change are what that change makes of those before it
abbrev pub ChangesEachKind : Type 0
ChangesEachKind = (is_kind : Touch → Bool) (change : Change) (before after : List Touch) → AreTimed before → AreTimed after → IsChanged change before after
    → filter is_kind after ≡ taps_after is_kind change (filter is_kind before)

-- and the change can be
abbrev pub ChangesArePossible : Type 0
ChangesArePossible = (is_kind : Touch → Bool) (change : Change) (before after : List Touch) → AreTimed before → AreTimed after → IsChanged change before after
    → IsPossibleFor is_kind change (filter is_kind before)
