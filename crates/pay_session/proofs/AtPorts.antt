-- What was answered at a port, for one peer after another, as one answering.
use Rattle.std.proofs.Common.{◌≡◌, ℕ, List, [], ◌∷◌, ◌++◌, Result, refl, sym, ap, ◌∙◌, subst, append_assoc, append-nil, None}
use Rattle.jiff.specs.declared.tz.timezone.TimeZone.{TimeZone}
use Rattle.pay_rules.specs.declared.posting.Posting.{Posting}
use Rattle.pay_shard.specs.Words.{DeskParts, Standing}
use Rattle.pay_till.specs.Words.{Taken, commands_of, AreAnswered, AreQuotes, MaySometimeRefuse, MaySometimeBeLate}
use Rattle.pay_wire.specs.declared.refusal.Refusal.{Refusal}
use Rattle.pay_session.specs.AtPorts.{IsServedAt, AreServedAt, HasAnsweredAt, AnswersNobody, AnswersOn, AnswersClose}
use Rattle.pay_session.specs.Asks.{asks_of}
use Rattle.pay_session.specs.Events.{Event, all_put, said_of_close}
use Rattle.pay_session.specs.Ports.{asks_at, AreAskedAt}
use Rattle.pay_session.specs.Served.{AreServedBy, IsServedAs}
use Rattle.pay_session.specs.SessionSteps.{Ran}
use Rattle.pay_session.specs.declared.port.Port.{Port}
use Rattle.pay_session.specs.declared.asks.Asks.{Asks}
use Rattle.pay_session.specs.declared.asks.Asks.TheVariants as asks
use Rattle.pay_session.specs.declared.port.Role.{Role}
use Rattle.pay_session.specs.declared.port.Role.TheVariants.{All}
use Rattle.pay_session.specs.declared.request.Request.{Request}
use Rattle.pay_session.specs.declared.request.Request.TheVariants as requests
use Rattle.pay_session.specs.declared.service.Service.{Service}
use Rattle.pay_shard.specs.declared.asked.Asked.{Asked}
use Rattle.pay_wire.specs.declared.command.SpelledCommand.TheVariants as command
use Rattle.pay_session.proofs.AskedAt.{at_none, at_then, at_close}
use Rattle.pay_session.proofs.OverDesk.{Serves, ran, asked_at, commands_both, answered_both, answered_kept}

-- a port of staff in a zone
abbrev staff : TimeZone → Port
staff zone = record { zone = record { ref_ptr = (0, 0); now = zone }; role = All; latest = None }

-- a CLOSE comes to a close there
closes_there : (zone : TimeZone) (day : ℕ) → asks_at (staff zone) (requests.Command (command.Close day)) ≡ asks.Close day
unfolding asks_at asks_of
closes_there zone day = refl

put_both : (es fs : List Event) → all_put (es ++ fs) ≡ all_put es ++ all_put fs
put_both [] fs = refl
put_both (e ∷ es) fs = ap (λ l. e.put ++ l) (put_both es fs) ∙ sym (append_assoc e.put (all_put es) (all_put fs))

module _ {D O T : Type 0} (parts : D → DeskParts O) (Closes : T → ℕ → ℕ → List Taken → Result (List Posting) Refusal → T → Type 0) where
  all_at : (port : Port) (stands : Standing O) (before after : T) (rs : List Request) (es : List Event)
      → AreServedBy stands.shards (MaySometimeRefuse parts stands) (MaySometimeBeLate parts stands) Closes (asks_at port) before rs es after
      → AreServedAt parts Closes (port.zone.now, port.role) stands before rs es after
  all_at port stands before after [] [] f = f
  all_at port stands before after [] (e ∷ es) f = absurd f
  all_at port stands before after (r ∷ rs) [] f = absurd f
  all_at port stands before after (r ∷ rs) (e ∷ es) f = (f.0, record { at = port; is = (refl, refl); served = f.1 }, all_at port stands f.0 after rs es f.2)

  module _ {K : Type 0} (till_origin : T → K) where
    pub answered : (a b : Service D T) → Ran (Serves parts Closes till_origin) a b → HasAnsweredAt parts Closes (a.port.zone.now, a.port.role) (a.desk.now, a.till.now) (b.desk.now, b.till.now)
    answered a b f = let led = ran parts Closes till_origin a b f in record {
      requests = f.requests;
      events = f.events;
      served = all_at a.port (parts a.desk.now).standing a.till.now b.till.now f.requests f.events led.served;
      taken = led.added;
      said = led.said;
      asked = asked_at parts Closes till_origin a b f;
      kept = led.kept;
      same = led.same;
    }

  module _ (port : TimeZone × Role) (stands : Standing O) where
    both_served : (before between after : T) (rs ss : List Request) (es fs : List Event) → AreServedAt parts Closes port stands before rs es between → AreServedAt parts Closes port stands between ss fs after
        → AreServedAt parts Closes port stands before (rs ++ ss) (es ++ fs) after
    both_served before between after [] ss [] fs f g = subst (λ t. AreServedAt parts Closes port stands t ss fs after) f g
    both_served before between after [] ss (e ∷ es) fs f g = absurd f
    both_served before between after (r ∷ rs) ss [] fs f g = absurd f
    both_served before between after (r ∷ rs) ss (e ∷ es) fs f g = (f.0, f.1, both_served f.0 between after rs ss es fs f.2 g)

  pub nobody : AnswersNobody parts Closes
  nobody port desk till = record {
    requests = [];
    events = [];
    served = refl;
    taken = sym (append-nil (parts desk).taken);
    said = tt;
    asked = at_none port.0 port.1 (parts desk).taken;
    kept = λ ticket answer h. h;
    same = refl;
  }

  pub answers_on : AnswersOn parts Closes
  answers_on port desk desk' desk'' till till' till'' first second = record {
    requests = first.requests ++ second.requests;
    events = first.events ++ second.events;
    served = both_served port (parts desk).standing till till' till'' first.requests second.requests first.events second.events first.served
        (subst (λ stands. AreServedAt parts Closes port stands till' second.requests second.events till'') first.same second.served);
    taken = second.taken ∙ ap (λ l. l ++ commands_of (all_put second.events)) first.taken
        ∙ append_assoc (parts desk).taken (commands_of (all_put first.events)) (commands_of (all_put second.events))
        ∙ ap (λ l. (parts desk).taken ++ l) (sym (commands_both (all_put first.events) (all_put second.events)) ∙ ap commands_of (sym (put_both first.events second.events)));
    said = subst (AreAnswered (parts desk'').transcript) (sym (put_both first.events second.events))
        (answered_both (parts desk'').transcript (all_put first.events) (all_put second.events)
        (answered_kept (parts desk').transcript (parts desk'').transcript (all_put first.events) second.kept first.said) second.said);
    asked = at_then port.0 port.1 (parts desk).taken (parts desk').taken (parts desk'').taken first.asked second.asked;
    kept = λ ticket answer h. second.kept ticket answer (first.kept ticket answer h);
    same = second.same ∙ first.same;
  }

  pub answers_close : AnswersClose parts Closes
  answers_close zone day result desk desk' till till' closed kept same =
      let event : Event = record { reply = said_of_close day result; put = closed.put } in
      let one : all_put (event ∷ []) ≡ closed.put = append-nil closed.put in
      record {
        requests = requests.Command (command.Close day) ∷ [];
        events = event ∷ [];
        served = (
          till',
          record {
            at = staff zone;
            is = (refl, refl);
            served = subst (λ what. IsServedAs (parts desk).standing.shards (MaySometimeRefuse parts (parts desk).standing) (MaySometimeBeLate parts (parts desk).standing) Closes what event till till') (sym (closes_there zone day))
                (record { result = result; close = closed.close; told = refl });
          },
          refl,
        );
        taken = closed.added ∙ ap (λ l. (parts desk).taken ++ commands_of l) (sym one);
        said = subst (AreAnswered (parts desk').transcript) (sym one) closed.answered;
        asked = at_close zone day (parts desk).standing.shards closed.put (parts desk).taken (parts desk').taken closed.close.quotes closed.added;
        kept = kept;
        same = same;
      }
