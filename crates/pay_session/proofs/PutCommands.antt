-- What a command that is put, and what each thing that a request comes to, make of an event.
use Rattle.std.proofs.Common.{◌≡◌, ℕ, List, [], ◌∷◌, ◌++◌, Option, Some, None, Result, sym, ap, ◌∙◌, subst, refl, append-nil, inl, inr}
use Rattle.pay_rules.specs.declared.posting.Posting.{Posting}
use Rattle.pay_shard.specs.declared.asked.Asked.{Asked}
use Rattle.pay_shard.specs.declared.desk.DeskFault.{DeskFault}
use Rattle.pay_shard.specs.declared.desk.DeskFault.TheVariants.{Late}
use Rattle.pay_shard.specs.declared.reply.Answer.{Answer}
use Rattle.pay_shard.specs.declared.reply.Reply.{Reply}
use Rattle.pay_shard.specs.Words.{NothingIsLost, Standing, DeskParts, IsAfterAll, IsReplyTo, LastCommandIsUnderTicket}
use Rattle.pay_wire.specs.declared.refusal.Refusal.{Refusal}
use Rattle.pay_wire.specs.declared.reply.SpelledReply.{SpelledReply}
use Rattle.pay_wire.specs.declared.reply.SpelledReply.TheVariants as replies
use Rattle.pay_session.specs.Events.{Event, refusal_of_desk, said, said_of_close}
use Rattle.pay_till.specs.Words.{Taken, IsWithin, MaySometimeRefuse, MaySometimeBeLate}
use Rattle.pay_session.specs.Served.{IsServedAs}
use Rattle.pay_session.specs.Serving.{IsPut, IsCloseSaidAt, IsStep}
use Rattle.pay_session.specs.declared.asks.Asks.{Asks}
use Rattle.pay_session.specs.declared.asks.Asks.TheVariants as asks

-- ---- a command that was put

module _ (Refuses : DeskFault → Type 0) (MayBeLate : Type 0) (a : Asked) (before : List (ℕ × Asked)) where
  pub put_refused : (after : List (ℕ × Asked)) (transcript : ℕ → Option Answer) (fault : DeskFault) (why : Refusal) → Refuses fault → why ≡ refusal_of_desk fault → after ≡ before
      → IsPut Refuses MayBeLate a before after transcript (replies.No why)
  put_refused after transcript fault why refuses is same = record {
    event = record { reply = replies.No (refusal_of_desk fault); put = [] };
    told = ap replies.No (sym is);
    answered = inr (record { fault = fault; refuses = refuses; told = refl });
    added = same ∙ sym (append-nil before);
    said = tt;
  }

  pub put_replied : (between after : List (ℕ × Asked)) (transcript : ℕ → Option Answer) (ticket : ℕ) (reply : Reply) (line : SpelledReply) → between ≡ before ++ (ticket, a) ∷ [] → IsAfterAll ticket before → after ≡ between
      → IsReplyTo ticket after transcript reply → line ≡ said reply → LastCommandIsUnderTicket → IsPut Refuses MayBeLate a before after transcript line
  put_replied between after transcript ticket reply line put later got r is last =
      let taken : Taken = record { ticket = ticket; asked = a; answer = Some r.answer } in
      record {
        event = record { reply = line; put = taken ∷ [] };
        told = refl;
        answered = inl (record { taken = taken; once = refl; same = refl; replied = is ∙ ap said (sym r.told) });
        added = got ∙ put;
        said = ((r.stands, r.of_ticket, last ticket a r.answer.command before after later (got ∙ put) r.of_command), tt);
      }

  pub put_late : (between after : List (ℕ × Asked)) (transcript : ℕ → Option Answer) (ticket : ℕ) (fault : DeskFault) (why : Refusal) → between ≡ before ++ (ticket, a) ∷ [] → after ≡ between → fault ≡ Late → MayBeLate → why ≡ refusal_of_desk fault
      → IsPut Refuses MayBeLate a before after transcript (replies.No why)
  put_late between after transcript ticket fault why put got late may is =
      let taken : Taken = record { ticket = ticket; asked = a; answer = None } in
      record {
        event = record { reply = replies.No why; put = taken ∷ [] };
        told = refl;
        answered = inl (record { taken = taken; once = refl; same = refl; replied = (ap replies.No (is ∙ ap refusal_of_desk late), may) });
        added = got ∙ put;
        said = (tt, tt);
      }

-- a desk that stands as before a line is within it
pub at_once : {O : Type 0} (before : Standing O) → IsWithin before before
at_once before = record { same_origin = refl; same_shards = refl; more = []; waits = sym (append-nil before.waiting); few = inl refl }

-- ---- steps

module _ {D O T : Type 0} (parts : D → DeskParts O) (Closes : T → ℕ → ℕ → List Taken → Result (List Posting) Refusal → T → Type 0) where
  abbrev Served : D → Asks → Event → T → T → Type 0
  Served desk = IsServedAs (parts desk).standing.shards (MaySometimeRefuse parts (parts desk).standing) (MaySometimeBeLate parts (parts desk).standing) Closes

  -- a close
  pub close_step : (a : Asks) (day : ℕ) (before : D) (till_before : T) (after : D) (till_after : T) (line : SpelledReply) → a ≡ asks.Close day
      → IsCloseSaidAt parts before after day (λ of put answer. Closes till_before day of put answer till_after) line
      → NothingIsLost (parts before).transcript (parts after).transcript → (parts after).standing ≡ (parts before).standing
      → (event : Event) × IsStep parts Closes a event (before, till_before) (after, till_after) × (event.reply ≡ line)
  close_step a day before till_before after till_after line asked f kept same =
      let k = f.closed in
      let event : Event = record { reply = said_of_close day f.result; put = k.put } in
      let closed : Served before (asks.Close day) event till_before till_after = record { result = f.result; close = k.close; told = refl } in (
        event,
        record { served = subst (λ a. Served before a event till_before till_after) (sym asked) closed; added = k.added; said = k.answered; kept = kept; same = same },
        sym f.told,
      )

  -- what is answered at once
  pub still_step : (a b : Asks) (line : SpelledReply) (desk : D) (till : T) → a ≡ b → Served desk b (record { reply = line; put = [] }) till till
      → IsStep parts Closes a (record { reply = line; put = [] }) (desk, till) (desk, till)
  still_step a b line desk till asked served = record {
    served = subst (λ a. Served desk a (record { reply = line; put = [] }) till till) (sym asked) served;
    added = sym (append-nil (parts desk).taken);
    said = tt;
    kept = λ ticket answer h. h;
    same = refl;
  }
