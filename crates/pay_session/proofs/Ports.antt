-- What a request comes to at a port, beside what it comes to in the zone.
use Rattle.std.proofs.Common.{◌≡◌, ◌⊎◌, inl, inr, ℕ, Bool, true, false, List, [], ◌∷◌, ◌++◌, Option, None, Result, if◌then◌else◌, refl, sym, ap, subst}
use Rattle.jiff.specs.declared.tz.timezone.TimeZone.{TimeZone}
use Rattle.pay_day.specs.Words.{is_instant}
use Rattle.pay_rules.specs.declared.posting.Posting.{Posting}
use Rattle.pay_rules.specs.declared.tap.Tap.{Tap}
use Rattle.pay_shard.specs.declared.asked.Asked.{Asked}
use Rattle.pay_shard.specs.declared.asked.Asked.TheVariants as asked
use Rattle.pay_shard.specs.declared.desk.DeskFault.{DeskFault}
use Rattle.pay_wire.specs.declared.command.SpelledCommand.{SpelledCommand}
use Rattle.pay_wire.specs.declared.command.SpelledCommand.TheVariants as command
use Rattle.pay_wire.specs.declared.refusal.Refusal.{Refusal}
use Rattle.pay_wire.specs.declared.refusal.Refusal.TheVariants as refusal
use Rattle.pay_session.specs.Asks.{asks_of, asks_command}
use Rattle.pay_session.specs.Events.{Event}
use Rattle.pay_session.specs.Ports.{is_allowed, is_ahead, asks_at, IsOpen, IsAllowed, AreAllAllowed}
use Rattle.pay_session.specs.Served.{IsTaken, IsRefused, IsServedAs}
use Rattle.pay_session.specs.declared.asks.Asks.{Asks}
use Rattle.pay_session.specs.declared.asks.Asks.TheVariants as asks
use Rattle.pay_session.specs.declared.port.Port.{Port}
use Rattle.pay_session.specs.declared.port.Role.{Role}
use Rattle.pay_session.specs.declared.port.Role.TheVariants.{Taps, All}
use Rattle.pay_session.specs.declared.request.Request.{Request}
use Rattle.pay_session.specs.declared.request.Request.TheVariants as requests
use Rattle.pay_till.specs.Words.{Taken, commands_of}

-- what a command comes to for a role, up to an instant
abbrev allowed_asks : Role → Option ℕ → SpelledCommand → Asks → Asks
allowed_asks role latest c it = if is_allowed role c then (if is_ahead latest c then asks.No refusal.OutOfTime else it) else asks.No refusal.NotHere

open_one : (port : Port) → port.role ≡ All → port.latest ≡ None → (r : Request) → asks_at port r ≡ asks_of port.zone.now r
unfolding asks_at
open_one port all none (requests.Command c) =
    subst (λ role. allowed_asks role port.latest c (asks_of port.zone.now (requests.Command c)) ≡ asks_of port.zone.now (requests.Command c)) (sym all)
    (subst (λ latest. allowed_asks All latest c (asks_of port.zone.now (requests.Command c)) ≡ asks_of port.zone.now (requests.Command c)) (sym none) refl)
open_one port all none requests.BadLine = refl
open_one port all none requests.LongLine = refl

-- where all may be asked for, each request comes to what it comes to in the zone
pub open_asks : (zone : TimeZone) (port : Port) → IsOpen zone port → asks_at port ≡ asks_of zone
open_asks zone port is = subst (λ z. asks_at port ≡ asks_of z) is.0 (λ i r. open_one port is.1 is.2 r i)

-- ---- what a desk is asked for

past : (late : Bool) (a : Asked) (it : Asks) → (if late then asks.No refusal.OutOfTime else it) ≡ asks.Put a → it ≡ asks.Put a
past true a it is = absurd (cc)
past false a it is = is

tap_is : (is : Bool) (tap : Tap) (why : Refusal) (a : Asked) → (if is then asks.Put (asked.Tap tap) else asks.No why) ≡ asks.Put a → IsAllowed Taps a
tap_is true tap why a is = let same : asked.Tap tap ≡ a = cc in subst (IsAllowed Taps) same tt
tap_is false tap why a is = absurd (cc)

by_command : (zone : TimeZone) (role : Role) (latest : Option ℕ) (c : SpelledCommand) (a : Asked) → allowed_asks role latest c (asks_command zone c) ≡ asks.Put a
    → (asks_command zone c ≡ asks.Put a) × IsAllowed role a
by_command zone All latest c a is = (past (is_ahead latest c) a (asks_command zone c) is, tt)
by_command zone Taps latest (command.Tap line) a is =
    let it = past (is_ahead latest (command.Tap line)) a (asks_command zone (command.Tap line)) is in
    (it, tap_is (is_instant line.utc) _ _ a it)
by_command zone Taps latest (command.Fix line) a is = absurd (cc)
by_command zone Taps latest (command.Due account day) a is =
    let it = past (is_ahead latest (command.Due account day)) a (asks_command zone (command.Due account day)) is in
    let same : asked.Due account day ≡ a = cc in (it, subst (IsAllowed Taps) same tt)
by_command zone Taps latest (command.Show account day) a is =
    let it = past (is_ahead latest (command.Show account day)) a (asks_command zone (command.Show account day)) is in
    let same : asked.Show account day ≡ a = cc in (it, subst (IsAllowed Taps) same tt)
by_command zone Taps latest (command.Close day) a is = absurd (cc)
by_command zone Taps latest command.Quit a is =
    let it : asks.Quit ≡ asks.Put a = past (is_ahead latest command.Quit) a (asks_command zone command.Quit) is in absurd (cc)

-- what a request asks a desk for at a port it asks for in the zone, and it is allowed there
pub put_at : (port : Port) (r : Request) (a : Asked) → asks_at port r ≡ asks.Put a → (asks_of port.zone.now r ≡ asks.Put a) × IsAllowed port.role a
unfolding asks_at asks_of
put_at port (requests.Command c) a is = by_command port.zone.now port.role port.latest c a is
put_at port requests.BadLine a is = absurd (cc)
put_at port requests.LongLine a is = absurd (cc)

-- ---- closes

not_late : (late : Bool) (day : ℕ) (it : Asks) → (if late then asks.No refusal.OutOfTime else it) ≡ asks.Close day → it ≡ asks.Close day
not_late true day it is = absurd (cc)
not_late false day it is = is

tap_is_none : (is : Bool) (tap : Tap) (why : Refusal) (day : ℕ) → (if is then asks.Put (asked.Tap tap) else asks.No why) ≡ asks.Close day → ⊥
tap_is_none true tap why day is = cc
tap_is_none false tap why day is = cc

close_by : (zone : TimeZone) (role : Role) (latest : Option ℕ) (c : SpelledCommand) (day : ℕ) (a : Asked) → allowed_asks role latest c (asks_command zone c) ≡ asks.Close day → IsAllowed role a
close_by zone All latest c day a is = tt
close_by zone Taps latest (command.Tap line) day a is = absurd (tap_is_none (is_instant line.utc) _ _ day (not_late (is_ahead latest (command.Tap line)) day (asks_command zone (command.Tap line)) is))
close_by zone Taps latest (command.Fix line) day a is = absurd (cc)
close_by zone Taps latest (command.Due account d) day a is =
    let it : asks.Put (asked.Due account d) ≡ asks.Close day = not_late (is_ahead latest (command.Due account d)) day (asks_command zone (command.Due account d)) is in absurd (cc)
close_by zone Taps latest (command.Show account d) day a is =
    let it : asks.Put (asked.Show account d) ≡ asks.Close day = not_late (is_ahead latest (command.Show account d)) day (asks_command zone (command.Show account d)) is in absurd (cc)
close_by zone Taps latest (command.Close d) day a is = absurd (cc)
close_by zone Taps latest command.Quit day a is =
    let it : asks.Quit ≡ asks.Close day = not_late (is_ahead latest command.Quit) day (asks_command zone command.Quit) is in absurd (cc)

-- where a request comes to a close, all may be asked for
close_at : (port : Port) (r : Request) (day : ℕ) (a : Asked) → asks_at port r ≡ asks.Close day → IsAllowed port.role a
unfolding asks_at asks_of
close_at port (requests.Command c) day a is = close_by port.zone.now port.role port.latest c day a is
close_at port requests.BadLine day a is = absurd (cc)
close_at port requests.LongLine day a is = absurd (cc)

-- ---- what a desk took for a request

pub allowed_both : (role : Role) (ts us : List (ℕ × Asked)) → AreAllAllowed role ts → AreAllAllowed role us → AreAllAllowed role (ts ++ us)
allowed_both role [] us first rest = rest
allowed_both role (t ∷ ts) us first rest = (first.0, allowed_both role ts us first.1 rest)

pub allowed_all : (role : Role) → ((a : Asked) → IsAllowed role a) → (put : List Taken) → AreAllAllowed role (commands_of put)
allowed_all role all [] = tt
allowed_all role all (t ∷ ts) = (all t.asked, allowed_all role all ts)

allowed_none : (role : Role) (event : Event) → event.put ≡ [] → AreAllAllowed role (commands_of event.put)
allowed_none role event none = subst (λ put. AreAllAllowed role (commands_of put)) (sym none) tt

module _ (Refuses : DeskFault → Type 0) (Late : Type 0) (port : Port) where
  allowed_put : (a : Asked) (event : Event) → IsAllowed port.role a → IsTaken Refuses Late a event ⊎ IsRefused Refuses Late event → AreAllAllowed port.role (commands_of event.put)
  allowed_put a event is (inl taken) = subst (λ put. AreAllAllowed port.role (commands_of put)) (sym taken.once) (subst (IsAllowed port.role) (sym taken.same) is, tt)
  allowed_put a event is (inr refused) = allowed_none port.role event (ap (λ (e : Event). e.put) refused.told)

  module _ {T : Type 0} (of : ℕ) (Closes : T → ℕ → ℕ → List Taken → Result (List Posting) Refusal → T → Type 0) where
    allowed_by : (r : Request) (what : Asks) (event : Event) (before after : T) → asks_at port r ≡ what → IsServedAs of Refuses Late Closes what event before after → AreAllAllowed port.role (commands_of event.put)
    allowed_by r (asks.Put a) event before after is served = allowed_put a event (put_at port r a is).1 served.0
    allowed_by r (asks.Close day) event before after is served = allowed_all port.role (λ a. close_at port r day a is) event.put
    allowed_by r asks.Quit event before after is served = allowed_none port.role event (ap (λ (e : Event). e.put) served.0)
    allowed_by r (asks.No why) event before after is served = allowed_none port.role event (ap (λ (e : Event). e.put) served.0)

    pub allowed_for : (r : Request) (event : Event) (before after : T) → IsServedAs of Refuses Late Closes (asks_at port r) event before after → AreAllAllowed port.role (commands_of event.put)
    allowed_for r event before after served = allowed_by r (asks_at port r) event before after refl served
