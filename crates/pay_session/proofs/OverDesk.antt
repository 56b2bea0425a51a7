-- What the runs of a port, a desk and a till come to.
use Rattle.std.proofs.Common.{◌≡◌, ℕ, Bool, List, [], ◌∷◌, ◌++◌, Option, Some, None, IfSome, Result, sym, ap, ◌∙◌, subst, refl, append_assoc, append-nil}
use Rattle.pay_rules.specs.declared.posting.Posting.{Posting}
use Rattle.pay_shard.specs.declared.reply.Answer.{Answer}
use Rattle.pay_shard.specs.Words.{NothingIsLost, Standing, DeskParts}
use Rattle.pay_session.specs.AskedFor.{AreAllAskedIn, AreAskedIn}
use Rattle.pay_session.specs.Events.{Event, all_put}
use Rattle.pay_till.specs.Words.{Taken, commands_of, IsAnswerTo, AreAnswered, MaySometimeRefuse, MaySometimeBeLate}
use Rattle.pay_session.specs.Ports.{asks_at, IsOpen, AreAllAllowed, AreAskedAt}
use Rattle.pay_session.specs.Requests.{IsAsked}
use Rattle.pay_session.specs.Served.{AreServedBy}
use Rattle.pay_session.specs.Serving.{IsStep}
use Rattle.pay_session.specs.Session.{Sides, IsSession, EndsSo, FailsSo, sides}
use Rattle.pay_session.specs.SessionSteps.{Runs, Ran, RunsToEnd, RunsSo}
use Rattle.pay_session.proofs.AskedFor.{all_both, taken_for}
use Rattle.pay_session.proofs.Ports.{open_asks, put_at, allowed_both, allowed_for}
use Rattle.pay_session.specs.declared.asks.Asks.{Asks}
use Rattle.pay_session.specs.declared.request.Request.{Request}
use Rattle.pay_session.specs.declared.service.Service.{Service}
use Rattle.pay_session.specs.declared.stop.SessionFault.{SessionFault}
use Rattle.pay_session.specs.declared.stop.SessionFault.TheVariants.{Read, Write}
use Rattle.pay_wire.specs.declared.refusal.Refusal.{Refusal}

-- ---- lists of what was taken

pub commands_both : (ts us : List Taken) → commands_of (ts ++ us) ≡ commands_of ts ++ commands_of us
commands_both [] us = refl
commands_both (t ∷ ts) us = ap (λ l. (t.ticket, t.asked) ∷ l) (commands_both ts us)

pub answered_both : (transcript : ℕ → Option Answer) (ts us : List Taken) → AreAnswered transcript ts → AreAnswered transcript us → AreAnswered transcript (ts ++ us)
answered_both transcript [] us f g = g
answered_both transcript (t ∷ ts) us f g = (f.0, answered_both transcript ts us f.1 g)

one_kept : (old new : ℕ → Option Answer) (t : Taken) (o : Option Answer) → NothingIsLost old new → IfSome o (IsAnswerTo old t) → IfSome o (IsAnswerTo new t)
one_kept old new t None kept f = tt
one_kept old new t (Some answer) kept f = (kept t.ticket answer f.0, f.1, f.2)

pub answered_kept : (old new : ℕ → Option Answer) (ts : List Taken) → NothingIsLost old new → AreAnswered old ts → AreAnswered new ts
answered_kept old new [] kept f = tt
answered_kept old new (t ∷ ts) kept f = (one_kept old new t t.answer kept f.0, answered_kept old new ts kept f.1)

-- ---- runs

module _ {D O T K : Type 0} (parts : D → DeskParts O) (Closes : T → ℕ → ℕ → List Taken → Result (List Posting) Refusal → T → Type 0) (till_origin : T → K) where
  -- what may come of a request, as a service says it
  abbrev pub Serves : Service D T → Request → Event → Service D T → Type 0
  Serves before request event after =
      IsStep parts Closes (asks_at before.port request) event (before.desk.now, before.till.now) (after.desk.now, after.till.now)
      × (after.desk.ghost_name ≡ before.desk.ghost_name) × (after.till.ghost_name ≡ before.till.ghost_name) × (after.port ≡ before.port) × (till_origin after.till.now ≡ till_origin before.till.now)
      × IsAsked request

  abbrev Answered : (Request → Asks) → Standing O → T → List Request → List Event → T → Type 0
  Answered asks stands = AreServedBy stands.shards (MaySometimeRefuse parts stands) (MaySometimeBeLate parts stands) Closes asks

  -- what was before some requests and what is after them
  pub record Leads (a : Service D T) (rs : List Request) (es : List Event) (b : Service D T) : Type 0 where
    pub served : Answered (asks_at a.port) (parts a.desk.now).standing a.till.now rs es b.till.now
    pub added : (parts b.desk.now).taken ≡ (parts a.desk.now).taken ++ commands_of (all_put es)
    pub said : AreAnswered (parts b.desk.now).transcript (all_put es)
    pub asked : AreAllAskedIn a.port.zone.now (commands_of (all_put es))
    pub allowed : AreAllAllowed a.port.role (commands_of (all_put es))
    pub kept : NothingIsLost (parts a.desk.now).transcript (parts b.desk.now).transcript
    pub same : (parts b.desk.now).standing ≡ (parts a.desk.now).standing
    pub same_till : till_origin b.till.now ≡ till_origin a.till.now
    pub desk_name : b.desk.ghost_name ≡ a.desk.ghost_name
    pub till_name : b.till.ghost_name ≡ a.till.ghost_name

  leads_none : (a : Service D T) → Leads a [] [] a
  leads_none a = record {
    served = refl;
    added = sym (append-nil (parts a.desk.now).taken);
    said = tt;
    asked = tt;
    allowed = tt;
    kept = λ ticket answer h. h;
    same = refl;
    same_till = refl;
    desk_name = refl;
    till_name = refl;
  }

  pub leads : (rs : List Request) (es : List Event) (a b : Service D T) → Runs Serves a rs es b → Leads a rs es b
  leads [] [] a b f = subst (λ s. Leads a [] [] s) (sym f) (leads_none a)
  leads [] (e ∷ es) a b f = absurd f
  leads (r ∷ rs) [] a b f = absurd f
  leads (r ∷ rs) (e ∷ es) a b f =
      let s = f.1.0 in
      let again = leads rs es f.0 b f.2 in
      record {
        served = (
          f.0.till.now,
          s.served,
          subst (λ p. Answered (asks_at p) (parts a.desk.now).standing f.0.till.now rs es b.till.now) f.1.3
              (subst (λ stands. Answered (asks_at f.0.port) stands f.0.till.now rs es b.till.now) s.same again.served),
        );
        added = again.added ∙ ap (λ l. l ++ commands_of (all_put es)) s.added ∙ append_assoc (parts a.desk.now).taken (commands_of e.put) (commands_of (all_put es))
            ∙ ap (λ l. (parts a.desk.now).taken ++ l) (sym (commands_both e.put (all_put es)));
        said = answered_both (parts b.desk.now).transcript e.put (all_put es) (answered_kept (parts f.0.desk.now).transcript (parts b.desk.now).transcript e.put again.kept s.said) again.said;
        asked = subst (AreAllAskedIn a.port.zone.now) (sym (commands_both e.put (all_put es)))
            (all_both a.port.zone.now (commands_of e.put) (commands_of (all_put es))
            (taken_for a.port.zone.now (MaySometimeRefuse parts (parts a.desk.now).standing) (MaySometimeBeLate parts (parts a.desk.now).standing) (parts a.desk.now).standing.shards Closes r (asks_at a.port r) e a.till.now f.0.till.now f.1.5
            (λ asked is. (put_at a.port r asked is).0) s.served)
            (subst (λ p. AreAllAskedIn p.zone.now (commands_of (all_put es))) f.1.3 again.asked));
        allowed = subst (AreAllAllowed a.port.role) (sym (commands_both e.put (all_put es)))
            (allowed_both a.port.role (commands_of e.put) (commands_of (all_put es))
            (allowed_for (MaySometimeRefuse parts (parts a.desk.now).standing) (MaySometimeBeLate parts (parts a.desk.now).standing) a.port (parts a.desk.now).standing.shards Closes r e a.till.now f.0.till.now s.served)
            (subst (λ p. AreAllAllowed p.role (commands_of (all_put es))) f.1.3 again.allowed));
        kept = λ ticket answer h. again.kept ticket answer (s.kept ticket answer h);
        same = again.same ∙ s.same;
        same_till = again.same_till ∙ f.1.4;
        desk_name = again.desk_name ∙ f.1.1;
        till_name = again.till_name ∙ f.1.2;
      }

  -- whatever the requests were
  pub ran : (a b : Service D T) (f : Ran Serves a b) → Leads a f.requests f.events b
  ran a b f = leads f.requests f.events a b f.runs

  -- what the desk took for them
  pub asked_in : (a b : Service D T) → Ran Serves a b → AreAskedIn a.port.zone.now (parts a.desk.now).taken (parts b.desk.now).taken
  unfolding AreAskedIn
  asked_in a b f = let led = ran a b f in (commands_of (all_put f.events), led.added, led.asked)

  pub asked_at : (a b : Service D T) → Ran Serves a b → AreAskedAt a.port.zone.now a.port.role (parts a.desk.now).taken (parts b.desk.now).taken
  unfolding AreAskedAt
  asked_at a b f = let led = ran a b f in (commands_of (all_put f.events), led.added, led.asked, led.allowed)

  -- ---- a whole session, at a port where all may be asked for

  abbrev sides_of : Service D T → Service D T → Sides T
  sides_of a b = sides parts (a.desk.now, a.till.now) (b.desk.now, b.till.now)

  abbrev Session : Service D T → Service D T → List Request → List Event → Type 0
  Session a b = IsSession a.port.zone.now (parts a.desk.now).standing.shards (MaySometimeRefuse parts (parts a.desk.now).standing) (MaySometimeBeLate parts (parts a.desk.now).standing) Closes (sides_of a b)

  session : (rs : List Request) (es : List Event) (a b : Service D T) → IsOpen a.port.zone.now a.port → Runs Serves a rs es b → Session a b rs es
  session rs es a b is f =
      let l = leads rs es a b f in
      record { served = subst (λ asks. Answered asks (parts a.desk.now).standing a.till.now rs es b.till.now) (open_asks a.port.zone.now a.port is) l.served; taken = l.added; said = l.said }

  ends_one : (a b : Service D T) (input : List ℕ) (left held new : Option (List ℕ)) (answered : ℕ) (quit lacked : Bool) → IsOpen a.port.zone.now a.port → RunsToEnd Serves a input left held new answered quit lacked b
      → EndsSo a.port.zone.now (parts a.desk.now).standing.shards (MaySometimeRefuse parts (parts a.desk.now).standing) (MaySometimeBeLate parts (parts a.desk.now).standing) Closes (sides_of a b) input left held new answered quit lacked
  ends_one a b input left held new answered quit lacked is f = record {
    events = f.events;
    session = session _ f.events a b is f.runs;
    written = f.written;
    counted = f.counted;
    lacked = f.lacked;
    ended = f.ended;
    unread = f.unread;
  }

  pub ends : (known : Option (List ℕ)) (a b : Service D T) (left held new : Option (List ℕ)) (answered : ℕ) (quit lacked : Bool) → IsOpen a.port.zone.now a.port → IfSome known (λ input. RunsToEnd Serves a input left held new answered quit lacked b)
      → IfSome known (λ input. EndsSo a.port.zone.now (parts a.desk.now).standing.shards (MaySometimeRefuse parts (parts a.desk.now).standing) (MaySometimeBeLate parts (parts a.desk.now).standing) Closes (sides_of a b) input left held new answered quit lacked)
  ends None a b left held new answered quit lacked is f = tt
  ends (Some input) a b left held new answered quit lacked is f = ends_one a b input left held new answered quit lacked is f

  fails_one : (fault : SessionFault) (a b : Service D T) (input : List ℕ) (left held new : Option (List ℕ)) → IsOpen a.port.zone.now a.port → RunsSo Serves fault a input left held new b
      → FailsSo a.port.zone.now (parts a.desk.now).standing.shards (MaySometimeRefuse parts (parts a.desk.now).standing) (MaySometimeBeLate parts (parts a.desk.now).standing) Closes fault (sides_of a b) input left held new
  fails_one (Read answered) a b input left held new is f = record {
    front = f.front;
    back = f.back;
    parts = f.parts;
    unread = f.unread;
    goes_on = f.goes_on;
    events = f.events;
    session = session _ f.events a b is f.runs;
    written = f.written;
    counted = f.counted;
  }
  fails_one (Write answered) a b input left held new is f = record {
    done = f.done;
    others = f.others;
    requests = f.requests;
    events = f.events;
    next = f.next;
    session = session f.done (f.events ++ f.next ∷ []) a b is f.runs;
    whole = f.whole;
    written = f.written;
    broken = f.broken;
    counted = f.counted;
  }

  pub fails : (fault : SessionFault) (known : Option (List ℕ)) (a b : Service D T) (left held new : Option (List ℕ)) → IsOpen a.port.zone.now a.port → IfSome known (λ input. RunsSo Serves fault a input left held new b)
      → IfSome known (λ input. FailsSo a.port.zone.now (parts a.desk.now).standing.shards (MaySometimeRefuse parts (parts a.desk.now).standing) (MaySometimeBeLate parts (parts a.desk.now).standing) Closes fault (sides_of a b) input left held new)
  fails fault None a b left held new is f = tt
  fails fault (Some input) a b left held new is f = fails_one fault a b input left held new is f
