-- Where the line of a client goes.
use Rattle.std.specs.Prelude.{◌≡◌, ℕ, Bool, false, ◌&&◌, nat_lt, ◌==◌, Option, Some, None, if◌then◌else◌, refl}
use Rattle.jiff.specs.declared.tz.timezone.TimeZone.{TimeZone}
use Rattle.pay_day.specs.Words.{is_instant, stamp_of}
use Rattle.pay_wire.specs.declared.refusal.Refusal.TheVariants as refusal
use Rattle.pay_session.specs.Asks.{asks_of}
use Rattle.pay_session.specs.Ports.{asks_at}
use Rattle.pay_session.specs.declared.asks.Asks.{Asks}
use Rattle.pay_session.specs.declared.asks.Asks.TheVariants as asks
use Rattle.pay_session.specs.declared.port.Port.{Port}
use Rattle.pay_session.specs.declared.request.Request.{Request}
use Rattle.pay_session.specs.declared.request.Request.TheVariants as request
use Rattle.pay_run.specs.Words.{account_named}
use Rattle.pay_front.specs.Partition.{partition_of}
use Rattle.pay_front.specs.declared.route.Route.{Route}
use Rattle.pay_front.specs.declared.route.Route.TheVariants.{Quits, Refused, To, ToAll}

-- a service day is over once a later one has begun
abbrev pub is_over : TimeZone → ℕ → Option ℕ → Bool
is_over zone day (Some now) = is_instant now && nat_lt day (stamp_of zone now).day
is_over zone day None = false

-- the account that a request is about
abbrev pub named_in : Request → Option ℕ
named_in (request.Command c) = account_named c
named_in _ = None

-- to the partition of the account, of a number of them
abbrev pub route_to : ℕ → Option ℕ → Route
route_to of (Some account) = if of == 0 then Refused refusal.NotHere else To (partition_of of account)
route_to of None = Refused refusal.NotHere

-- what a port refuses is refused, and so is the close of a day that is not over
abbrev pub route_by : TimeZone → ℕ → Option ℕ → Option ℕ → Asks → Route
route_by zone of now named asks.Quit = Quits
route_by zone of now named (asks.No why) = Refused why
route_by zone of now named (asks.Close day) = if is_over zone day now then ToAll day else Refused refusal.NotOver
route_by zone of now named (asks.Put c) = route_to of named

unfoldable pub route_of : Port → ℕ → Option ℕ → Request → Route
route_of port of now r = route_by port.zone.now of now (named_in r) (asks_at port r)

-- ---- worked rows

-- of four partitions account 7 is in the last
to_the_last : route_to 4 (Some 7) ≡ To 3
to_the_last = refl

without_a_clock : (zone : TimeZone) → route_by zone 4 None None (asks.Close 19_730) ≡ Refused refusal.NotOver
without_a_clock zone = refl

bad_line : (port : Port) → route_of port 4 None request.BadLine ≡ Refused refusal.BadLine
unfolding route_of asks_at asks_of
bad_line port = refl
