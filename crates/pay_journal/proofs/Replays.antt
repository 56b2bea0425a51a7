-- How the lines of a replay join.
use Rattle.std.proofs.Common.{◌≡◌, ℕ, ◌+◌, ◌-◌, ◌≤◌, ◌<◌, suc, false, List, [], ◌∷◌, ◌++◌, length, Option, Some, None, Result, sym, ap, ◌∙◌, subst, refl, arith, append_assoc, append-nil, length-append, inl, inr}
use Rattle.std.specs.Prelude.{IfSome, Bool}
use Rattle.std.specs.Option.{is_some}
use Rattle.std.specs.List.{AllByRecursion}
use Rattle.std.proofs.lemmas.Grind.{flat_map-append}
use Rattle.std.proofs.lemmas.List.{map-append}
use Rattle.jiff.specs.declared.tz.timezone.TimeZone.{TimeZone}
use Rattle.pay_rules.specs.declared.posting.Posting.{Posting}
use Rattle.pay_shard.specs.declared.desk.DeskFault.{DeskFault}
use Rattle.pay_shard.specs.declared.reply.Answer.{Answer}
use Rattle.pay_shard.specs.Words.{NothingIsLost, Standing, DeskParts}
use Rattle.pay_wire.specs.declared.refusal.Refusal.{Refusal}
use Rattle.pay_wire.specs.declared.refusal.Refusal.TheVariants as refusal
use Rattle.pay_wire.specs.declared.reply.SpelledReply.{SpelledReply}
use Rattle.pay_wire.specs.declared.reply.SpelledReply.TheVariants as replies
use Rattle.pay_session.specs.Asks.{asks_of}
use Rattle.pay_session.specs.Events.{Event, all_put}
use Rattle.pay_till.specs.Words.{Taken, commands_of, IsAnswerTo, AreAnswered, MaySometimeRefuse, MaySometimeBeLate}
use Rattle.pay_journal.specs.Replays.{is_barred, IsPriced, why_ended, ClosesNothing, IsReplayStep, IsFaultOf, AreHanded, AreAccepted, IsReplayed, IsEndedBy, IsEndedAt, IsUnderway, IsStepBy, IsEnded}
use Rattle.pay_journal.specs.declared.limits.TheConstants.{MOST_AHEAD}
use Rattle.pay_session.specs.Requests.{has_newline, line_requests, request_of, rest_of, IsReadByLine}
use Rattle.pay_session.specs.Served.{IsServedAs, AreServed}
use Rattle.pay_session.specs.Serving.{IsStep}
use Rattle.pay_session.specs.declared.asks.Asks.{Asks}
use Rattle.pay_session.specs.declared.asks.Asks.TheVariants as asks
use Rattle.pay_journal.specs.declared.replaying.ReplayFault.{ReplayFault}
use Rattle.pay_session.specs.declared.request.Request.{Request}

-- ---- what was taken

pub commands_both : (ts us : List Taken) → commands_of (ts ++ us) ≡ commands_of ts ++ commands_of us
commands_both ts us = map-append (λ (t : Taken). (t.ticket, t.asked)) ts us

pub answered_both : (transcript : ℕ → Option Answer) (ts us : List Taken) → AreAnswered transcript ts → AreAnswered transcript us → AreAnswered transcript (ts ++ us)
answered_both transcript [] us f g = g
answered_both transcript (t ∷ ts) us f g = (f.0, answered_both transcript ts us f.1 g)

pub answered_still : (old new : ℕ → Option Answer) (ts : List Taken) → NothingIsLost old new → AreAnswered old ts → AreAnswered new ts
answered_still old new [] kept f = tt
answered_still old new (t ∷ ts) kept f = (its t.answer f.0, answered_still old new ts kept f.1)
  where
    its : (o : Option Answer) → IfSome o (IsAnswerTo old t) → IfSome o (IsAnswerTo new t)
    its None f = tt
    its (Some answer) f = (kept t.ticket answer f.0, f.1, f.2)

-- ---- one event more

pub all_put_one : (es : List Event) (e : Event) → all_put (es ++ e ∷ []) ≡ all_put es ++ e.put
all_put_one es e = flat_map-append (λ (e : Event). e.put) es (e ∷ []) ∙ ap (λ l. all_put es ++ l) (append-nil e.put)

all_put_both : (es more : List Event) → all_put (es ++ more) ≡ all_put es ++ all_put more
all_put_both es more = flat_map-append (λ (e : Event). e.put) es more

pub all_both : {X : Type 0} (P : X → Type 0) (xs ys : List X) → AllByRecursion P xs → AllByRecursion P ys → AllByRecursion P (xs ++ ys)
all_both P [] ys f g = g
all_both P (x ∷ xs) ys f g = (f.0, all_both P xs ys f.1 g)

pub all_one : {X : Type 0} (P : X → Type 0) (xs : List X) (x : X) → AllByRecursion P xs → P x → AllByRecursion P (xs ++ x ∷ [])
all_one P [] x f g = (g, tt)
all_one P (y ∷ ys) x f g = (f.0, all_one P ys x f.1 g)

module _ {T : Type 0} (of : ℕ) (Refuses : DeskFault → Type 0) (Late : Type 0) (Closes : T → ℕ → ℕ → List Taken → Result (List Posting) Refusal → T → Type 0) (zone : TimeZone) where
  served_one : (rs : List Request) (es : List Event) (a b c : T) (r : Request) (e : Event) → AreServed of Refuses Late Closes zone a rs es b → IsServedAs of Refuses Late Closes (asks_of zone r) e b c
      → AreServed of Refuses Late Closes zone a (rs ++ r ∷ []) (es ++ e ∷ []) c
  served_one [] [] a b c r e f g = (c, subst (λ t. IsServedAs of Refuses Late Closes (asks_of zone r) e t c) f g, refl)
  served_one [] (y ∷ es) a b c r e f g = absurd f
  served_one (x ∷ rs) [] a b c r e f g = absurd f
  served_one (x ∷ rs) (y ∷ es) a b c r e f g = (f.0, f.1, served_one rs es f.0 b c r e f.2 g)

  served_both : (rs : List Request) (es : List Event) (others : List Request) (more : List Event) (a b c : T) → AreServed of Refuses Late Closes zone a rs es b → AreServed of Refuses Late Closes zone b others more c
      → AreServed of Refuses Late Closes zone a (rs ++ others) (es ++ more) c
  served_both [] [] others more a b c f g = subst (λ t. AreServed of Refuses Late Closes zone t others more c) f g
  served_both [] (e ∷ es) others more a b c f g = absurd f
  served_both (r ∷ rs) [] others more a b c f g = absurd f
  served_both (r ∷ rs) (e ∷ es) others more a b c f g = (f.0, f.1, served_both rs es others more f.0 b c f.2 g)

  served_many : (rs : List Request) (es : List Event) (a b : T) → AreServed of Refuses Late Closes zone a rs es b → length rs ≡ length es
  served_many [] [] a b f = refl
  served_many [] (e ∷ es) a b f = absurd f
  served_many (r ∷ rs) [] a b f = absurd f
  served_many (r ∷ rs) (e ∷ es) a b f = ap suc (served_many rs es f.0 b f.2)

no_none : (why : Refusal) → ◌≡◌ {A = Option Refusal} (Some why) None → ⊥
no_none why e = cc

-- what ends no replay is prices
pub priced : (reply : SpelledReply) → why_ended reply ≡ None → IsPriced reply
priced (replies.Priced p) e = (p, refl)
priced (replies.No why) e = absurd (no_none why e)
priced (replies.Due quote) e = absurd (no_none refusal.DeskFault e)
priced (replies.Shown shown) e = absurd (no_none refusal.DeskFault e)
priced (replies.Closed closed) e = absurd (no_none refusal.DeskFault e)
priced replies.Bye e = absurd (no_none refusal.DeskFault e)

-- ---- what a line comes to

module _ {D O : Type 0} (parts : D → DeskParts O) where
  -- what is refused as itself
  pub refused_step : (desk : D) (a : Asks) (why : Refusal) → a ≡ asks.No why → IsReplayStep parts desk desk a (Some why)
  refused_step desk a why is =
      let event : Event = record { reply = replies.No why; put = [] } in
      let served : Served desk (asks.No why) event = (refl, refl) in
      inl (
        event,
        ap is_barred is,
        record { served = subst (λ (x : Asks). Served desk x event) (sym is) served; added = sym (append-nil (parts desk).taken); said = tt; kept = λ ticket answer h. h; same = refl },
        refl,
      )
    where
      Served : D → Asks → Event → Type 0
      Served now x event = IsServedAs (parts now).standing.shards (MaySometimeRefuse parts (parts now).standing) (MaySometimeBeLate parts (parts now).standing) ClosesNothing x event tt tt

  -- a line that came to what was put
  pub step_of : (before after : D) (a b : Asks) (ended : Option Refusal) → a ≡ b → IsReplayStep parts before after b ended → IsReplayStep parts before after a ended
  step_of before after a b ended is f = subst (λ (x : Asks). IsReplayStep parts before after x ended) (sym is) f

as_many : {D O : Type 0} (parts : D → DeskParts O) (zone : TimeZone) (a b : D) (rs : List Request) (es : List Event) → AreHanded zone parts a b rs es → length rs ≡ length es
as_many parts zone a b rs es f = served_many (parts a).standing.shards (MaySometimeRefuse parts (parts a).standing) (MaySometimeBeLate parts (parts a).standing) ClosesNothing zone rs es tt tt f.served

module _ {D O : Type 0} (zone : TimeZone) (parts : D → DeskParts O) where
  handed_none : (desk : D) → AreHanded zone parts desk desk [] []
  handed_none desk = record { served = refl; taken = sym (append-nil (parts desk).taken); said = tt }

  handed_one : (a b c : D) (rs : List Request) (es : List Event) (r : Request) (e : Event) → AreHanded zone parts a b rs es → (parts b).standing ≡ (parts a).standing
      → IsStep parts ClosesNothing (asks_of zone r) e (b, tt) (c, tt) → AreHanded zone parts a c (rs ++ r ∷ []) (es ++ e ∷ [])
  handed_one a b c rs es r e f same g = record {
    served = served_one (parts a).standing.shards (MaySometimeRefuse parts (parts a).standing) (MaySometimeBeLate parts (parts a).standing) ClosesNothing zone rs es tt tt tt r e f.served
        (subst (λ (s : Standing O). IsServedAs s.shards (MaySometimeRefuse parts s) (MaySometimeBeLate parts s) ClosesNothing (asks_of zone r) e tt tt) same g.served);
    taken = g.added ∙ ap (λ l. l ++ commands_of e.put) f.taken ∙ append_assoc (parts a).taken (commands_of (all_put es)) (commands_of e.put)
        ∙ ap (λ l. (parts a).taken ++ l) (sym (commands_both (all_put es) e.put) ∙ ap commands_of (sym (all_put_one es e)));
    said = subst (AreAnswered (parts c).transcript) (sym (all_put_one es e))
        (answered_both (parts c).transcript (all_put es) e.put (answered_still (parts b).transcript (parts c).transcript (all_put es) g.kept f.said) g.said);
  }

  pub underway_none : (text : List ℕ) (desk : D) → IsUnderway zone parts desk desk text text 0
  underway_none text desk = record {
    done = [];
    events = [];
    requests = refl;
    rest = refl;
    accepted = (handed_none desk, tt, tt);
    counted = refl;
    fits = omega arith;
    kept = λ ticket answer h. h;
    same = refl;
  }

  some_ahead : 0 < MOST_AHEAD
  some_ahead = omega arith

  handed_both : (a b c : D) (rs others : List Request) (es more : List Event) → (parts b).standing ≡ (parts a).standing → NothingIsLost (parts b).transcript (parts c).transcript
      → AreHanded zone parts a b rs es → AreHanded zone parts b c others more → AreHanded zone parts a c (rs ++ others) (es ++ more)
  handed_both a b c rs others es more same kept f g = record {
    served = served_both (parts a).standing.shards (MaySometimeRefuse parts (parts a).standing) (MaySometimeBeLate parts (parts a).standing) ClosesNothing zone rs es others more tt tt tt f.served
        (subst (λ (s : Standing O). AreServed s.shards (MaySometimeRefuse parts s) (MaySometimeBeLate parts s) ClosesNothing zone tt others more tt) same g.served);
    taken = g.taken ∙ ap (λ l. l ++ commands_of (all_put more)) f.taken ∙ append_assoc (parts a).taken (commands_of (all_put es)) (commands_of (all_put more))
        ∙ ap (λ l. (parts a).taken ++ l) (sym (commands_both (all_put es) (all_put more)) ∙ ap commands_of (sym (all_put_both es more)));
    said = subst (AreAnswered (parts c).transcript) (sym (all_put_both es more))
        (answered_both (parts c).transcript (all_put es) (all_put more) (answered_still (parts b).transcript (parts c).transcript (all_put es) kept f.said) g.said);
  }

  -- the line at the front of what is ahead
  first_ahead : IsReadByLine → (text line ahead beyond : List ℕ) (done : List Request) → line_requests text ≡ done ++ line_requests ahead → ahead ≡ line ++ 10 ∷ beyond → has_newline line ≡ false
      → line_requests text ≡ done ++ request_of line ∷ line_requests beyond
  first_ahead read text line ahead beyond done e cut whole = e ∙ ap (λ l. done ++ l) (ap line_requests cut ∙ read.line line beyond whole)

  one_longer : (done : List Request) (r : Request) (lines : ℕ) → lines ≡ length done → lines + 1 ≡ length (done ++ r ∷ [])
  one_longer done r lines e =
      let longer : length (done ++ r ∷ []) ≡ length done + 1 = length-append done (r ∷ []) in
      omega (arith, e, longer)

  pub still_fits : (text line ahead beyond : List ℕ) (lines : ℕ) → lines + length ahead ≤ length text → ahead ≡ line ++ 10 ∷ beyond → lines + 1 + length beyond ≤ length text
  still_fits text line ahead beyond lines fits cut =
      let size : length (line ++ 10 ∷ beyond) ≡ length line + suc (length beyond) = length-append line (10 ∷ beyond) in
      omega (arith, fits, ap length cut, size)

  -- it was accepted
  underway_one : IsReadByLine → (text : List ℕ) (a b c : D) (ahead line beyond : List ℕ) (lines : ℕ) (event : Event) → IsUnderway zone parts a b text ahead lines → ahead ≡ line ++ 10 ∷ beyond → has_newline line ≡ false
      → is_barred (asks_of zone (request_of line)) ≡ false
      → IsStep parts ClosesNothing (asks_of zone (request_of line)) event (b, tt) (c, tt) → IsPriced event.reply → IsUnderway zone parts a c text beyond (lines + 1)
  underway_one read text a b c ahead line beyond lines event u cut whole allowed step prices = record {
    done = u.done ++ request_of line ∷ [];
    events = u.events ++ event ∷ [];
    requests = first_ahead read text line ahead beyond u.done u.requests cut whole ∙ sym (append_assoc u.done (request_of line ∷ []) (line_requests beyond));
    rest = u.rest ∙ ap rest_of cut ∙ read.rest line beyond;
    accepted = (
      handed_one a b c u.done u.events (request_of line) event u.accepted.0 u.same step,
      all_one (λ (r : Request). is_barred (asks_of zone r) ≡ false) u.done (request_of line) u.accepted.1 allowed,
      all_one (λ (e : Event). IsPriced e.reply) u.events event u.accepted.2 prices,
    );
    counted = one_longer u.done (request_of line) lines u.counted;
    fits = still_fits text line ahead beyond lines u.fits cut;
    kept = λ ticket answer h. step.kept ticket answer (u.kept ticket answer h);
    same = step.same ∙ u.same;
  }

  pub underway_line : IsReadByLine → (text : List ℕ) (a b c : D) (ahead line beyond : List ℕ) (lines : ℕ) (ended : Option Refusal) → IsUnderway zone parts a b text ahead lines → ahead ≡ line ++ 10 ∷ beyond
      → has_newline line ≡ false → IsReplayStep parts b c (asks_of zone (request_of line)) ended → ended ≡ None → IsUnderway zone parts a c text beyond (lines + 1)
  underway_line read text a b c ahead line beyond lines ended u cut whole (inl step) none =
      underway_one read text a b c ahead line beyond lines step.0 u cut whole step.1 step.2 (priced step.0.reply (sym step.3 ∙ none))
  underway_line read text a b c ahead line beyond lines ended u cut whole (inr barred) none = absurd (no_none refusal.BadLine (sym barred.1 ∙ none))

  -- it was not
  pub ended_at : IsReadByLine → (text : List ℕ) (a b c : D) (ahead line beyond : List ℕ) (lines : ℕ) (ended : Option Refusal) (why : Refusal) → IsUnderway zone parts a b text ahead lines → ahead ≡ line ++ 10 ∷ beyond
      → has_newline line ≡ false → IsReplayStep parts b c (asks_of zone (request_of line)) ended → ended ≡ Some why → IsEndedAt zone parts a c text (lines + 1) why
  ended_at read text a b c ahead line beyond lines ended why u cut whole (inl step) is = record {
    done = u.done;
    request = request_of line;
    ahead = [];
    others = line_requests beyond;
    requests = first_ahead read text line ahead beyond u.done u.requests cut whole;
    counted = ap (λ n. n + 1) u.counted;
    few = some_ahead;
    events = u.events;
    each = sym (as_many parts zone a b u.done u.events u.accepted.0);
    unbarred = u.accepted.1;
    priced = u.accepted.2;
    ended = inl (step.0, [], step.1, handed_one a b c u.done u.events (request_of line) step.0 u.accepted.0 u.same step.2, sym step.3 ∙ is);
  }
  ended_at read text a b c ahead line beyond lines ended why u cut whole (inr barred) is = record {
    done = u.done;
    request = request_of line;
    ahead = [];
    others = line_requests beyond;
    requests = first_ahead read text line ahead beyond u.done u.requests cut whole;
    counted = ap (λ n. n + 1) u.counted;
    few = some_ahead;
    events = u.events;
    each = sym (as_many parts zone a b u.done u.events u.accepted.0);
    unbarred = u.accepted.1;
    priced = u.accepted.2;
    ended = inr (barred.0, subst (λ (desk : D). AreHanded zone parts a desk u.done u.events) (sym barred.2) u.accepted.0, same_why (sym is ∙ barred.1));
  }
    where
      same_why : ◌≡◌ {A = Option Refusal} (Some why) (Some refusal.BadLine) → why ≡ refusal.BadLine
      same_why e = cc

  -- where no line was handed on
  no_list : {X : Type 0} (xs : List X) → 0 ≡ length xs → xs ≡ []
  no_list [] e = refl
  no_list (x ∷ xs) e = absurd (omega (arith, e))

  pub underway_still : (text : List ℕ) (a b : D) (left : List ℕ) (lines : ℕ) → IsUnderway zone parts a b text left lines → lines ≡ 0 → IsUnderway zone parts a b text text 0
  underway_still text a b left lines u none = record {
    done = u.done;
    events = u.events;
    requests = sym (ap (λ l. l ++ line_requests text) (no_list u.done (sym none ∙ u.counted)));
    rest = refl;
    accepted = u.accepted;
    counted = sym none ∙ u.counted;
    fits = omega arith;
    kept = u.kept;
    same = u.same;
  }

  pub handed_none_of : (text : List ℕ) (a b : D) (left : List ℕ) (lines : ℕ) (ended : Option Refusal) → IsStepBy zone parts a b text lines left ended → (some : Bool) → some ≡ is_some ended → some ≡ false → (0 < lines → ⊥) → IsUnderway zone parts a b text text 0
  handed_none_of text a b left lines None step some is off none = underway_still text a b left lines step (omega (arith, none))
  handed_none_of text a b left lines (Some why) step some is off none = absurd (cc)

  pub all_taken : (a b : D) (text left : List ℕ) (lines : ℕ) (ended : Option Refusal) → IsStepBy zone parts a b text lines left ended → ended ≡ None → IsUnderway zone parts a b text left lines
  all_taken a b text left lines ended step is = subst (IsStepBy zone parts a b text lines left) is step

  pub one_ended : (a b : D) (text left : List ℕ) (lines : ℕ) (ended : Option Refusal) (why : Refusal) → IsStepBy zone parts a b text lines left ended → ended ≡ Some why → IsEndedAt zone parts a b text (lines + 1) why
  one_ended a b text left lines ended why step is = subst (IsStepBy zone parts a b text lines left) is step

  -- ---- what was handed on, after what was before

  pub underway_both : (text : List ℕ) (a b c : D) (ahead left : List ℕ) (n m : ℕ) → IsUnderway zone parts a b text ahead n → IsUnderway zone parts b c ahead left m → IsUnderway zone parts a c text left (n + m)
  underway_both text a b c ahead left n m u v = record {
    done = u.done ++ v.done;
    events = u.events ++ v.events;
    requests = u.requests ∙ ap (λ l. u.done ++ l) v.requests ∙ sym (append_assoc u.done v.done (line_requests left));
    rest = u.rest ∙ v.rest;
    accepted = (
      handed_both a b c u.done v.done u.events v.events u.same v.kept u.accepted.0 v.accepted.0,
      all_both (λ (r : Request). is_barred (asks_of zone r) ≡ false) u.done v.done u.accepted.1 v.accepted.1,
      all_both (λ (e : Event). IsPriced e.reply) u.events v.events u.accepted.2 v.accepted.2,
    );
    counted = (let both = length-append u.done v.done in omega (arith, u.counted, v.counted, both));
    fits = omega (arith, u.fits, v.fits);
    kept = λ ticket answer h. v.kept ticket answer (u.kept ticket answer h);
    same = v.same ∙ u.same;
  }

  pub ended_both : (text : List ℕ) (a b c : D) (ahead : List ℕ) (n line : ℕ) (why : Refusal) → IsUnderway zone parts a b text ahead n → NothingIsLost (parts b).transcript (parts c).transcript → IsEndedAt zone parts b c ahead line why
      → IsEndedAt zone parts a c text (n + line) why
  ended_both text a b c ahead n line why u kept e = record {
    done = u.done ++ e.done;
    request = e.request;
    ahead = e.ahead;
    others = e.others;
    requests = u.requests ∙ ap (λ l. u.done ++ l) e.requests ∙ sym (append_assoc u.done e.done (e.request ∷ (e.ahead ++ e.others)));
    counted = (let both = length-append u.done e.done in omega (arith, u.counted, e.counted, both));
    few = e.few;
    events = u.events ++ e.events;
    each =
        let both = length-append u.done e.done in
        let all = length-append u.events e.events in
        let many = as_many parts zone a b u.done u.events u.accepted.0 in
        omega (arith, e.each, both, all, many);
    unbarred = all_both (λ (r : Request). is_barred (asks_of zone r) ≡ false) u.done e.done u.accepted.1 e.unbarred;
    priced = all_both (λ (x : Event). IsPriced x.reply) u.events e.events u.accepted.2 e.priced;
    ended = by e.ended;
  }
    where
      by : IsEndedBy zone parts b c e.done e.events e.request e.ahead why → IsEndedBy zone parts a c (u.done ++ e.done) (u.events ++ e.events) e.request e.ahead why
      by (inl (last, more, free, handed, ends)) = inl (
        last,
        more,
        free,
        subst (λ rs. AreHanded zone parts a c rs ((u.events ++ e.events) ++ last ∷ more)) (sym (append_assoc u.done e.done (e.request ∷ e.ahead)))
            (subst (AreHanded zone parts a c (u.done ++ (e.done ++ e.request ∷ e.ahead))) (sym (append_assoc u.events e.events (last ∷ more)))
            (handed_both a b c u.done (e.done ++ e.request ∷ e.ahead) u.events (e.events ++ last ∷ more) u.same kept u.accepted.0 handed)),
        ends,
      )
      by (inr (barred, handed, bad)) = inr (barred, handed_both a b c u.done e.done u.events e.events u.same kept u.accepted.0 handed, bad)

  -- what is told of it
  pub told_of : (text : List ℕ) (a c : D) (line : ℕ) (why : Refusal) (told : ReplayFault) → IsEndedAt zone parts a c text line why → IsFaultOf line why told → IsEnded zone parts a c text told
  told_of text a c line why told f (inl memory) =
      subst (IsEnded zone parts a c text) (sym memory.1) (line, subst (IsEndedAt zone parts a c text line) memory.0 f)
  told_of text a c line why told f (inr other) = subst (IsEnded zone parts a c text) (sym other.1) (f, other.0)

  -- what is ahead has no newline
  pub finished : IsReadByLine → (text : List ℕ) (a b : D) (ahead : List ℕ) (lines bytes : ℕ) → IsUnderway zone parts a b text ahead lines → has_newline ahead ≡ false → bytes ≡ length text - length ahead
      → IsReplayed zone parts a b text (record { lines = lines; bytes = bytes })
  finished read text a b ahead lines bytes u part is =
      let all : line_requests text ≡ u.done = u.requests ∙ ap (λ l. u.done ++ l) (read.no_line ahead part) ∙ append-nil u.done in
      let rest : rest_of text ≡ ahead = u.rest ∙ read.all_rest ahead part in
      record {
        events = u.events;
        accepted = subst (λ rs. AreAccepted zone parts a b rs u.events) (sym all) u.accepted;
        counted = u.counted ∙ ap length (sym all);
        sized = omega (arith, is, u.fits, ap length rest);
      }
