-- How requests are answered over a desk and a till.
use Rattle.std.specs.Prelude.{◌≡◌, ◌⊎◌, ℕ, List, [], ◌∷◌, Option, Some, None, Result}
use Rattle.jiff.specs.declared.tz.timezone.TimeZone.{TimeZone}
use Rattle.pay_rules.specs.declared.posting.Posting.{Posting}
use Rattle.pay_shard.specs.declared.asked.Asked.{Asked}
use Rattle.pay_shard.specs.declared.desk.DeskFault.{DeskFault}
use Rattle.pay_shard.specs.declared.reply.Answer.{Answer}
use Rattle.pay_till.specs.Words.{Taken, IsClose}
use Rattle.pay_wire.specs.declared.refusal.Refusal.TheVariants as refusal
use Rattle.pay_wire.specs.declared.reply.SpelledReply.{SpelledReply}
use Rattle.pay_wire.specs.declared.reply.SpelledReply.TheVariants as replies
use Rattle.pay_session.specs.declared.asks.Asks.{Asks}
use Rattle.pay_session.specs.declared.asks.Asks.TheVariants as asks
use Rattle.pay_session.specs.declared.request.Request.{Request}
use Rattle.pay_wire.specs.declared.refusal.Refusal.{Refusal}
use Rattle.pay_session.specs.Asks.{asks_of}
use Rattle.pay_session.specs.Events.{Event, said, refusal_of_desk, said_of_close}

-- With `Refuses` for how a desk may refuse a command, and `Late` for whether a reply of it may be late.
module _ (Refuses : DeskFault → Type 0) (Late : Type 0) where
  -- the reply that came, or that it did not come in time
  abbrev pub IsReplied : Option Answer → SpelledReply → Type 0
  IsReplied (Some answer) line = line ≡ said answer.reply
  IsReplied None line = (line ≡ replies.No refusal.Late) × Late

  -- the desk took the command, once
  pub record IsTaken (a : Asked) (event : Event) : Type 0 where
    pub taken : Taken
    pub once : event.put ≡ taken ∷ []
    pub same : taken.asked ≡ a
    pub replied : IsReplied taken.answer event.reply

  -- or refused it
  pub record IsRefused (event : Event) : Type 0 where
    pub fault : DeskFault
    pub refuses : Refuses fault
    pub told : event ≡ record { reply = replies.No (refusal_of_desk fault); put = [] }

-- With `Closes` for what the till says of a close: the till before, the day, how many shards answer, what was put, the answer,
-- the till after.
module _ {T : Type 0} (of : ℕ) (Refuses : DeskFault → Type 0) (Late : Type 0) (Closes : T → ℕ → ℕ → List Taken → Result (List Posting) Refusal → T → Type 0) where
  -- a close, by the till
  pub record IsTillClosed (day : ℕ) (event : Event) (before after : T) : Type 0 where
    pub result : Result (List Posting) Refusal
    pub close : IsClose Refuses Late (λ put answer. Closes before day of put answer after) day of event.put result
    pub told : event.reply ≡ said_of_close day result

  -- by what a request comes to; the till changes at a close alone
  abbrev pub IsServedAs : Asks → Event → T → T → Type 0
  IsServedAs (asks.Put a) event before after = (IsTaken Refuses Late a event ⊎ IsRefused Refuses Late event) × (after ≡ before)
  IsServedAs (asks.Close day) event before after = IsTillClosed day event before after
  IsServedAs asks.Quit event before after = (event ≡ record { reply = replies.Bye; put = [] }) × (after ≡ before)
  IsServedAs (asks.No why) event before after = (event ≡ record { reply = replies.No why; put = [] }) × (after ≡ before)

  -- each of a list of requests, in order, by what it comes to
  abbrev pub AreServedBy : (Request → Asks) → T → List Request → List Event → T → Type 0
  AreServedBy asks before [] [] after = after ≡ before
  AreServedBy asks before (r ∷ rs) (e ∷ es) after = (between : T) × IsServedAs (asks r) e before between × AreServedBy asks between rs es after
  AreServedBy asks before _ _ after = ⊥

  -- the same by what it comes to in a zone
  abbrev pub AreServed : TimeZone → T → List Request → List Event → T → Type 0
  AreServed zone = AreServedBy (asks_of zone)
