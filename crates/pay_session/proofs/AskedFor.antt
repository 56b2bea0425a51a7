-- What a desk took for requests is asked for by their lines, or by a close.
use Rattle.std.proofs.Common.{◌≡◌, ◌⊎◌, inl, inr, ℕ, suc, List, [], ◌∷◌, ◌++◌, Result, refl, sym, ap, subst}
use Rattle.jiff.specs.declared.tz.timezone.TimeZone.{TimeZone}
use Rattle.pay_rules.specs.declared.posting.Posting.{Posting}
use Rattle.pay_shard.specs.declared.asked.Asked.{Asked}
use Rattle.pay_shard.specs.declared.asked.Asked.TheVariants as asked
use Rattle.pay_shard.specs.declared.desk.DeskFault.{DeskFault}
use Rattle.pay_wire.specs.Words.{IsSpelled}
use Rattle.pay_wire.specs.declared.command.SpelledCommand.{SpelledCommand}
use Rattle.pay_wire.specs.declared.refusal.Refusal.{Refusal}
use Rattle.pay_session.specs.Asks.{asks_of}
use Rattle.pay_session.specs.AskedFor.{IsAskedIn, AreAllAskedIn}
use Rattle.pay_session.specs.Events.{Event}
use Rattle.pay_till.specs.Words.{Taken, commands_of, AreQuotes}
use Rattle.pay_session.specs.Requests.{IsAsked}
use Rattle.pay_session.specs.Served.{IsTaken, IsRefused, IsServedAs}
use Rattle.pay_session.specs.declared.asks.Asks.{Asks}
use Rattle.pay_session.specs.declared.asks.Asks.TheVariants as asks
use Rattle.pay_session.specs.declared.request.Request.{Request}
use Rattle.pay_session.specs.declared.request.Request.TheVariants as requests

module _ (zone : TimeZone) where
  pub all_both : (ts us : List (ℕ × Asked)) → AreAllAskedIn zone ts → AreAllAskedIn zone us → AreAllAskedIn zone (ts ++ us)
  all_both [] us first rest = rest
  all_both (t ∷ ts) us first rest = (first.0, all_both ts us first.1 rest)

  by_line : (a : Asked) (c : SpelledCommand) → IsSpelled c → asks_of zone (requests.Command c) ≡ asks.Put a → IsAskedIn zone a
  by_line (asked.Tap tap) c spelled is = (c, spelled, is)
  by_line (asked.Fix fix) c spelled is = (c, spelled, is)
  by_line (asked.Due account day) c spelled is = (c, spelled, is)
  by_line (asked.Show account day) c spelled is = (c, spelled, is)
  by_line (asked.Quotes day shard of) c spelled is = tt

  -- what a request asks a desk for is asked for by its line
  by_request : (r : Request) (a : Asked) → IsAsked r → asks_of zone r ≡ asks.Put a → IsAskedIn zone a
  unfolding asks_of
  by_request (requests.Command c) a spelled is = by_line a c spelled is
  by_request requests.BadLine a spelled is = absurd (cc)
  by_request requests.LongLine a spelled is = absurd (cc)

  pub by_close : (day of from : ℕ) (put : List Taken) → AreQuotes day of from put → AreAllAskedIn zone (commands_of put)
  by_close day of from [] quotes = tt
  by_close day of from (t ∷ ts) quotes = (subst (IsAskedIn zone) (sym quotes.1) tt, by_close day of (suc from) ts quotes.2)

  for_none : (event : Event) → event.put ≡ [] → AreAllAskedIn zone (commands_of event.put)
  for_none event none = subst (λ put. AreAllAskedIn zone (commands_of put)) (sym none) tt

  -- what was taken for a request
  module _ (Refuses : DeskFault → Type 0) (Late : Type 0) where
    by_put : (r : Request) (a : Asked) (event : Event) → IsAsked r → asks_of zone r ≡ asks.Put a → IsTaken Refuses Late a event ⊎ IsRefused Refuses Late event → AreAllAskedIn zone (commands_of event.put)
    by_put r a event spelled is (inl taken) =
        subst (λ put. AreAllAskedIn zone (commands_of put)) (sym taken.once) (subst (IsAskedIn zone) (sym taken.same) (by_request r a spelled is), tt)
    by_put r a event spelled is (inr refused) = for_none event (ap (λ (e : Event). e.put) refused.told)

    module _ {T : Type 0} (of : ℕ) (Closes : T → ℕ → ℕ → List Taken → Result (List Posting) Refusal → T → Type 0) where
      -- also where it comes to less than in the zone
      pub taken_for : (r : Request) (what : Asks) (event : Event) (before after : T) → IsAsked r → ((a : Asked) → what ≡ asks.Put a → asks_of zone r ≡ asks.Put a) → IsServedAs of Refuses Late Closes what event before after
          → AreAllAskedIn zone (commands_of event.put)
      taken_for r (asks.Put a) event before after spelled is served = by_put r a event spelled (is a refl) served.0
      taken_for r (asks.Close day) event before after spelled is served = by_close day of 0 event.put served.close.quotes
      taken_for r asks.Quit event before after spelled is served = for_none event (ap (λ (e : Event). e.put) served.0)
      taken_for r (asks.No why) event before after spelled is served = for_none event (ap (λ (e : Event). e.put) served.0)
