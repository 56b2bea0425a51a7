-- What a request comes to at a port, and what a desk is asked for there.
use Rattle.std.specs.Prelude.{◌≡◌, ℕ, Bool, true, false, nat_lt, List, ◌++◌, Option, Some, None, ⊤, if◌then◌else◌, refl}
use Rattle.std.specs.List.{AllByRecursion}
use Rattle.jiff.specs.declared.tz.timezone.TimeZone.{TimeZone}
use Rattle.pay_rules.specs.declared.tap.Kind.TheVariants as kind
use Rattle.pay_shard.specs.declared.asked.Asked.{Asked}
use Rattle.pay_shard.specs.declared.asked.Asked.TheVariants as asked
use Rattle.pay_wire.specs.declared.command.SpelledCommand.{SpelledCommand}
use Rattle.pay_wire.specs.declared.command.SpelledCommand.TheVariants as command
use Rattle.pay_wire.specs.declared.command.SpelledFix.{SpelledFix}
use Rattle.pay_wire.specs.declared.refusal.Refusal.TheVariants as refusal
use Rattle.pay_session.specs.Asks.{asks_of}
use Rattle.pay_session.specs.AskedFor.{AreAllAskedIn}
use Rattle.pay_session.specs.declared.asks.Asks.{Asks}
use Rattle.pay_session.specs.declared.asks.Asks.TheVariants as asks
use Rattle.pay_session.specs.declared.port.Port.{Port}
use Rattle.pay_session.specs.declared.port.Role.{Role}
use Rattle.pay_session.specs.declared.port.Role.TheVariants.{Taps, All}
use Rattle.pay_session.specs.declared.request.Request.{Request}
use Rattle.pay_session.specs.declared.request.Request.TheVariants as request

-- whether who may ask there may ask for this: readers and customers ask for no correction and no close
abbrev pub is_allowed : Role → SpelledCommand → Bool
is_allowed All c = true
is_allowed Taps (command.Tap line) = true
is_allowed Taps (command.Fix line) = false
is_allowed Taps (command.Due account day) = true
is_allowed Taps (command.Show account day) = true
is_allowed Taps (command.Close day) = false
is_allowed Taps command.Quit = true

-- whether a command is a tap of a later instant than the last that is taken
abbrev pub is_ahead : Option ℕ → SpelledCommand → Bool
is_ahead (Some latest) (command.Tap line) = nat_lt latest line.utc
is_ahead _ _ = false

-- what a request comes to at a port
unfoldable pub asks_at : Port → Request → Asks
asks_at port (request.Command c) =
    if is_allowed port.role c then (if is_ahead port.latest c then asks.No refusal.OutOfTime else asks_of port.zone.now (request.Command c)) else asks.No refusal.NotHere
asks_at port request.BadLine = asks_of port.zone.now request.BadLine
asks_at port request.LongLine = asks_of port.zone.now request.LongLine

-- a port of a zone where all may be asked for
abbrev pub IsOpen : TimeZone → Port → Type 0
IsOpen zone port = (port.zone.now ≡ zone) × (port.role ≡ All) × (port.latest ≡ None)

-- whether a desk may be asked for this where that role asks: readers and customers have it take no correction, and no quotes
abbrev pub IsAllowed : Role → Asked → Type 0
IsAllowed All a = ⊤
IsAllowed Taps (asked.Tap tap) = ⊤
IsAllowed Taps (asked.Fix fix) = ⊥
IsAllowed Taps (asked.Due account day) = ⊤
IsAllowed Taps (asked.Show account day) = ⊤
IsAllowed Taps (asked.Quotes day shard of) = ⊥

-- and each of some commands, which stand beside their tickets
abbrev pub AreAllAllowed : Role → List (ℕ × Asked) → Type 0
AreAllAllowed role = AllByRecursion (λ (t : ℕ × Asked). IsAllowed role t.1)

-- what a desk took more, after what it took before, is asked for by lines in a zone, or by a close, and is allowed
unfoldable pub AreAskedAt : TimeZone → Role → List (ℕ × Asked) → List (ℕ × Asked) → Type 0
AreAskedAt zone role before after = (more : List (ℕ × Asked)) × (after ≡ before ++ more) × AreAllAskedIn zone more × AreAllAllowed role more

-- ---- worked rows

-- a reader's tap is read as it is, until it is ahead
in_time : is_ahead (Some 1_704_696_200) (command.Tap (record { reader = 1; seq = 4; account = 7; utc = 1_704_696_200; place = 50; kind = kind.Bus })) ≡ false
in_time = refl

too_early : is_ahead (Some 1_704_696_199) (command.Tap (record { reader = 1; seq = 4; account = 7; utc = 1_704_696_200; place = 50; kind = kind.Bus })) ≡ true
too_early = refl

-- a close at a port of readers comes to nothing, and at one of staff to a close
close_of_a_reader : (port : Port) → port.role ≡ Taps → asks_at port (request.Command (command.Close 19_730)) ≡ asks.No refusal.NotHere
unfolding asks_at
close_of_a_reader port taps = rw taps refl

close_of_staff : (port : Port) → port.role ≡ All → asks_at port (request.Command (command.Close 19_730)) ≡ asks.Close 19_730
unfolding asks_at asks_of
close_of_staff port all = elim port.latest as (λ latest. (if is_allowed port.role (command.Close 19_730) then (if is_ahead latest (command.Close 19_730) then asks.No refusal.OutOfTime else asks.Close 19_730) else asks.No refusal.NotHere) ≡ asks.Close 19_730) [ None ↦ rw all refl | Some latest ↦ rw all refl ]

-- so does a correction
fix_of_a_reader : (port : Port) (line : SpelledFix) → port.role ≡ Taps → asks_at port (request.Command (command.Fix line)) ≡ asks.No refusal.NotHere
unfolding asks_at
fix_of_a_reader port line taps = rw taps refl

-- a reader may end its session
quit_of_a_reader : (zone : TimeZone) → asks_at (record { zone = record { ref_ptr = (0, 0); now = zone }; role = Taps; latest = Some 0 }) (request.Command command.Quit) ≡ asks.Quit
unfolding asks_at asks_of
quit_of_a_reader zone = refl

-- a tap that is ahead comes to nothing
ahead_of_a_reader : (port : Port) → port.role ≡ Taps → port.latest ≡ Some 1_704_696_199
    → asks_at port (request.Command (command.Tap (record { reader = 1; seq = 4; account = 7; utc = 1_704_696_200; place = 50; kind = kind.Bus }))) ≡ asks.No refusal.OutOfTime
unfolding asks_at
ahead_of_a_reader port taps latest = rw taps rw latest refl
