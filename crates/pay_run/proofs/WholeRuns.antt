-- How a session over a desk of one shard and a till ends, as the machine tells it.
use Rattle.std.proofs.Common.{◌≡◌, inl, inr, ℕ, Bool, true, false, ◌||◌, List, [], ◌∷◌, ◌++◌, refl, sym, ap, ◌∙◌, subst, Option, Some, None, IfSome}
use Rattle.std.specs.Prelude.{Result, Ok, Err, IfOk, IfErr, OnOk, OnErr, is_some, ⊤}
use Rattle.std.specs.List.{list_any}
use Rattle.std.specs.Io.KnownBytes.{Appends}
use Rattle.std.proofs.lemmas.List.{length-map, map-append}
use Rattle.jiff.specs.declared.tz.timezone.TimeZone.{TimeZone}
use Rattle.sqlite.specs.State.{State as DatabaseState, HasCleanDisk}
use Rattle.pay_rules.specs.Accepted.{Accepted}
use Rattle.pay_rules.specs.Lines.{week_lines}
use Rattle.pay_rules.specs.declared.posting.Posting.{Posting}
use Rattle.pay_journal.specs.Words.{KeptParts, Beginning, CanFail, kept_parts, KeepsLines, AskedByItsLine, ClosesNothing}
use Rattle.pay_rules.specs.declared.shown.Line.{Line}
use Rattle.pay_postings.specs.Words.{LedgerParts}
use Rattle.pay_tables.specs.Words.{FareEditions}
use Rattle.pay_shard.specs.declared.desk.DeskFault.{DeskFault}
use Rattle.pay_shard.specs.declared.item.Item.{Item}
use Rattle.pay_rules.specs.State.{State}
use Rattle.pay_shard.specs.Words.{ShardParts, LocalParts, Standing, state_now, replay, transcript_of, desk_parts, AreInPlace, commands_of as commands_of_items}
use Rattle.pay_wire.specs.Words.{spelling_of_reply}
use Rattle.pay_session.specs.Words.{requests_of, line_requests, Event, all_put, said_of_close, lacks_memory, any_lacks_memory, Sides, IsSession, text_of as text_of_events, EndsSo as SessionEnds, StopsReading as SessionStopsReading, StopsWriting as SessionStopsWriting, FailsSo as SessionFailsSo}
use Rattle.pay_till.specs.Words.{Taken, commands_of, MaySometimeRefuse, MaySometimeBeLate}
use Rattle.pay_session.specs.declared.request.Request.{Request}
use Rattle.pay_session.specs.declared.sessions.Done.{Done}
use Rattle.pay_session.specs.declared.stop.SessionFault.{SessionFault}
use Rattle.pay_session.specs.declared.stop.SessionFault.TheVariants.{Read, Write}
use Rattle.pay_wire.specs.declared.refusal.Refusal.{Refusal}
use Rattle.pay_wire.specs.declared.refusal.Refusal.TheVariants.{NotHere}
use Rattle.pay_till.specs.declared.till.NoTill.{NoTill}
use Rattle.pay_close.specs.Words.{OneShardGathersAll}
use Rattle.pay_close.specs.Closes.{Closes as LedgerCloses}
use Rattle.pay_run.specs.Journals.{new_requests}
use Rattle.pay_run.specs.KeptLines.{lines_of_requests, KeepsNew}
use Rattle.pay_run.specs.Ledgers.{HasLedger}
use Rattle.pay_run.specs.Machine.{Machine, Failure, machine_on, stays, step_close, step}
use Rattle.pay_run.specs.Outcomes.{Outcome, outcome, reply_then, text_of}
use Rattle.pay_run.specs.LineRuns.{Beside, Streams, beside_with, ComesTo, Ends, StopsReading, StopsWriting, FailsSo}
use Rattle.pay_run.proofs.AllRequests.{RunsTo, replies_of, sound_before, all_run}
use Rattle.pay_run.proofs.Asked.{accounts_kept}
use Rattle.pay_run.proofs.LedgerCloses.{ledger_closes, was_clean}
use Rattle.pay_run.proofs.OneRequest.{machine_at, lines_new}
use Rattle.pay_run.proofs.Tills.{ClosesAs, IsPlain}

-- what is written for events is what is written for their replies
text_alike : (events : List Event) → text_of_events events ≡ text_of (replies_of events)
text_alike [] = refl
text_alike (e ∷ es) = ap (λ l. spelling_of_reply e.reply ++ l) (text_alike es)

-- whether memory was wanting shows in the replies
any_alike : (events : List Event) → any_lacks_memory events ≡ list_any lacks_memory (replies_of events)
any_alike [] = refl
any_alike (e ∷ es) = ap (λ b. lacks_memory e.reply || b) (any_alike es)

replies_append : (xs ys : List Event) → replies_of (xs ++ ys) ≡ replies_of xs ++ replies_of ys
replies_append [] ys = refl
replies_append (e ∷ es) ys = ap (λ l. e.reply ∷ l) (replies_append es ys)

-- where none is marked, marks change nothing
no_marks : (marks : List (Option Failure)) (m : Machine) (rs : List Request) → list_any is_some marks ≡ false → outcome marks m rs ≡ outcome [] m rs
no_marks [] m rs h = refl
no_marks (Some failure ∷ marks) m rs h = absurd (true_false h)
  where
    true_false : true ≡ false → ⊥
    true_false e = cc
no_marks (None ∷ marks) m [] h = refl
no_marks (None ∷ marks) m (r ∷ rs) h = ap (reply_then (step None m r).reply) (no_marks marks (step None m r).after rs h)

-- the sides of a session at a desk whose journal began with a front
abbrev pub sides_from : {T : Type 0} → List Item → ShardParts → T → T → Sides T
sides_from front shard before after = record { taken_before = commands_of_items front; taken_after = commands_of_items shard.journal; transcript = transcript_of shard; till_before = before; till_after = after }

-- a journal with a front, and what is after it; each entry is at its ticket
pub record IsAfter (front : List Item) (shard : ShardParts) : Type 0 where
  pub back : List Item
  pub whole : shard.journal ≡ front ++ back
  pub in_place : AreInPlace 0 shard.journal

-- what is known of the streams
abbrev pub streams : Option (List ℕ) → Option (List ℕ) → Option (List ℕ) → Streams
streams left held written = record { left = left; held = held; written = written }

-- what stands after the same is the same
same_after : {X : Type 0} (xs ys zs : List X) → xs ++ ys ≡ xs ++ zs → ys ≡ zs
same_after [] ys zs e = e
same_after {X = X} (x ∷ xs) ys zs e = same_after xs ys zs (tails x x (xs ++ ys) (xs ++ zs) e)
  where
    tails : (x y : X) (xs ys : List X) → x ∷ xs ≡ y ∷ ys → xs ≡ ys
    tails x y xs ys e = cc

module _ {T : Type 0} (Refuses : DeskFault → Type 0) (Late Fails : Type 0) (Closes : T → ℕ → ℕ → List Taken → Result (List Posting) Refusal → T → Type 0) (Sound : T → Type 0) (MayAnswer : T → Option LedgerParts → Type 0) (plain : IsPlain Refuses Late Fails Closes Sound MayAnswer) (by_line : AskedByItsLine) (zone : TimeZone) where
  -- the machine where such a session began
  abbrev first : List Item → ShardParts → Option LedgerParts → Machine
  first front shard ledger = machine_at zone shard.editions shard.base front ledger

  -- a session's requests are run by the machine
  pub runs : (front : List Item) (shard : ShardParts) (before after : T) (ledger : Option LedgerParts) (requests : List Request) (events : List Event) (b : IsAfter front shard) → Sound after → MayAnswer before ledger
      → IsSession zone 1 Refuses Late Closes (sides_from front shard before after) requests events → RunsTo zone shard.editions shard.base front b.back ledger requests events Fails (MayAnswer after)
  runs front shard before after ledger requests events b sound tells s =
      let own : commands_of_items b.back ≡ commands_of (all_put events) =
      same_after (commands_of_items front) (commands_of_items b.back) (commands_of (all_put events))
      (sym (map-append (λ (i : Item). (i.entry.ticket, i.entry.command)) front b.back) ∙ ap commands_of_items (sym b.whole) ∙ s.taken) in
      all_run Refuses Late Fails Closes Sound MayAnswer plain by_line zone shard.number shard.editions shard.base front b.back shard.journal ledger requests events before after b.in_place b.whole s.served own s.said sound tells

  -- so they came to this
  abbrev came_to : ShardParts → List Event → Option LedgerParts → Outcome
  came_to shard events ledger = record { replies = replies_of events; after = machine_at zone shard.editions shard.base shard.journal ledger }

  -- what is so beside the session: what is so of the newly accepted requests where it is so of all whose lines are those of the new items
  module _ (front : List Item) (shard : ShardParts) (b : IsAfter front shard) (before after : T) (ledger : Option LedgerParts) (Keeps : List Request → Type 0) (keeps : (new : List Request) → lines_new shard.editions (replay shard.editions shard.base front) b.back ≡ lines_of_requests new → Keeps new)
      (sound : Sound after) (tells : MayAnswer before ledger) where
    abbrev beside : Beside
    beside = record { Holds = MayAnswer after; Keeps = Keeps; Fails = Fails }

    comes : (requests : List Request) (events : List Event) (r : RunsTo zone shard.editions shard.base front b.back ledger requests events Fails (MayAnswer after))
        → ComesTo (first front shard ledger) requests beside (came_to shard events r.ledger_after)
    comes requests events r =
        let gives : outcome r.marks (first front shard ledger) requests ≡ came_to shard events r.ledger_after =
        r.gives ∙ ap (λ l. record { replies = replies_of events; after = machine_at zone shard.editions shard.base l r.ledger_after }) (sym b.whole) in
        record {
          marks = r.marks;
          run = sym gives;
          ample = λ h. sym gives ∙ no_marks r.marks (first front shard ledger) requests (r.ample h);
          ledger = r.holds;
          kept = keeps (new_requests r.marks (first front shard ledger) requests) r.lines;
          never = r.kept;
        }

    pub ends_from : (input : List ℕ) (left held new : Option (List ℕ)) (done : Done)
        → SessionEnds zone 1 Refuses Late Closes (sides_from front shard before after) input left held new done.answered done.quit done.lacked_memory → Ends (first front shard ledger) input (streams left held new) beside done
    ends_from input left held new done e =
        let r = runs front shard before after ledger (requests_of input) e.events b sound tells e.session in
        record {
          came = came_to shard e.events r.ledger_after;
          comes = comes (requests_of input) e.events r;
          written = subst (λ (l : List ℕ). Appends held new l) (text_alike e.events) e.written;
          counted = e.counted ∙ sym (length-map e.events (λ (e : Event). e.reply));
          lacked = e.lacked ∙ any_alike e.events;
          ended = e.ended;
          unread = e.unread;
        }

    reading_from : (input : List ℕ) (left held new : Option (List ℕ)) (answered : ℕ)
        → SessionStopsReading zone 1 Refuses Late Closes (sides_from front shard before after) input left held new answered → StopsReading (first front shard ledger) input (streams left held new) beside answered
    reading_from input left held new answered e =
        let r = runs front shard before after ledger (line_requests e.front) e.events b sound tells e.session in
        record {
          front = e.front;
          back = e.back;
          parts = e.parts;
          unread = e.unread;
          goes_on = e.goes_on;
          came = came_to shard e.events r.ledger_after;
          comes = comes (line_requests e.front) e.events r;
          written = subst (λ (l : List ℕ). Appends held new l) (text_alike e.events) e.written;
          counted = e.counted ∙ sym (length-map e.events (λ (e : Event). e.reply));
        }

    writing_from : (input : List ℕ) (left held new : Option (List ℕ)) (answered : ℕ)
        → SessionStopsWriting zone 1 Refuses Late Closes (sides_from front shard before after) input held new answered → StopsWriting (first front shard ledger) input (streams left held new) beside answered
    writing_from input left held new answered e =
        let all = e.events ++ e.next ∷ [] in
        let r = runs front shard before after ledger e.done all b sound tells e.session in
        record {
          done = e.done;
          others = e.others;
          requests = e.requests;
          came = came_to shard all r.ledger_after;
          comes = comes e.done all r;
          told = replies_of e.events;
          next = e.next.reply;
          replies = replies_append e.events (e.next ∷ []);
          whole = e.whole;
          written = subst (λ (l : List ℕ). Appends held e.whole l) (text_alike e.events) e.written;
          broken = e.broken;
          counted = e.counted ∙ sym (length-map e.events (λ (e : Event). e.reply));
        }

    pub fails_from : (fault : SessionFault) (input : List ℕ) (left held new : Option (List ℕ))
        → SessionFailsSo zone 1 Refuses Late Closes fault (sides_from front shard before after) input left held new → FailsSo fault (first front shard ledger) input (streams left held new) beside
    fails_from (Read answered) input left held new e = reading_from input left held new answered e
    fails_from (Write answered) input left held new e = writing_from input left held new answered e

    -- the accounts after a session for which nothing failed but a close
    pub accounts_after : (Fails → ⊥) → (requests : List Request) (events : List Event) → IsSession zone 1 Refuses Late Closes (sides_from front shard before after) requests events → any_lacks_memory events ≡ false
        → (outcome [] (first front shard ledger) requests).after.accounts ≡ state_now shard
    accounts_after never requests events s ample =
        let r = runs front shard before after ledger requests events b sound tells s in
        let replies : list_any lacks_memory (outcome r.marks (first front shard ledger) requests).replies ≡ false = ap (λ (o : Outcome). list_any lacks_memory o.replies) r.gives ∙ sym (any_alike events) ∙ ample in
        sym (accounts_kept r.marks (first front shard ledger) requests (r.kept never) replies)
        ∙ ap (λ (o : Outcome). o.after.accounts) r.gives ∙ ap (replay shard.editions shard.base) (sym b.whole)

-- ---- a desk that keeps lines

-- what such a desk began with, as it is told in the end
pub same_origin : (Fails : Type 0) (desk : LocalParts) (held : Option (List ℕ)) (begun now settled : KeptParts) → begun ≡ record { seen = desk; first = desk.shard.journal; held_first = held; holds = held; stuck = false }
    → (kept_parts Fails now).standing ≡ (kept_parts Fails begun).standing → settled.seen ≡ now.seen → (settled.first ≡ now.first) × (settled.held_first ≡ now.held_first)
    → (kept_parts Fails settled).standing.origin ≡ record { editions = desk.shard.editions; base = desk.shard.base; items = desk.shard.journal; holds = held }
same_origin Fails desk held begun now settled is same seen first =
    (λ i. record { editions = (seen i).shard.editions; base = (seen i).shard.base; items = first.0 i; holds = first.1 i })
    ∙ ap (λ (s : Standing Beginning). s.origin) same ∙ ap (λ (k : KeptParts). (kept_parts Fails k).standing.origin) is

-- the machine of such a beginning
abbrev pub machine_from : TimeZone → Beginning → Option LedgerParts → Machine
machine_from zone o ledger = record { zone = zone; editions = o.editions; accounts = replay o.editions o.base o.items; ledger = ledger }

-- a session of it, from what it began with to what is seen in the end
abbrev pub Refuses : Type 0 → KeptParts → DeskFault → Type 0
Refuses Fails begun = MaySometimeRefuse (kept_parts Fails) (kept_parts Fails begun).standing

abbrev pub Late : Type 0 → KeptParts → Type 0
Late Fails begun = MaySometimeBeLate (kept_parts Fails) (kept_parts Fails begun).standing

module _ (Fails : Type 0) (begun now settled : KeptParts) where
  -- the sides as the session has them are those after what the desk began with
  pub same_sides : {T : Type 0} (desk : LocalParts) (held : Option (List ℕ)) (before after : T) → begun ≡ record { seen = desk; first = desk.shard.journal; held_first = held; holds = held; stuck = false }
      → settled.seen ≡ now.seen → (kept_parts Fails settled).standing.origin ≡ record { editions = desk.shard.editions; base = desk.shard.base; items = desk.shard.journal; holds = held }
      → sides_from begun.seen.shard.journal now.seen.shard before after ≡ sides_from settled.first settled.seen.shard before after
  same_sides desk held before after is seen origin =
      ap (λ (l : List Item). sides_from l now.seen.shard before after) (ap (λ (k : KeptParts). k.seen.shard.journal) is ∙ sym (ap (λ (o : Beginning). o.items) origin))
      ∙ ap (λ (p : LocalParts). sides_from settled.first p.shard before after) (sym seen)

  -- its journal, of which it kept the newly accepted lines
  abbrev pub after_first : AreInPlace 0 settled.seen.shard.journal → KeepsLines settled → IsAfter settled.first settled.seen.shard
  after_first placed lines = record { back = lines.later; whole = lines.begins; in_place = placed }

-- it is settled unless it is stuck
pub settled_if : {T E : Type 0} (r : Result T E) (stuck : Bool) (P : Type 0) → OnOk r P → OnErr r (stuck ≡ true) → stuck ≡ false → P
settled_if (Ok x) stuck P ok err free = ok
settled_if (Err e) stuck P ok err free = absurd (true_not_false (sym err ∙ free))
  where
    true_not_false : true ≡ false → ⊥
    true_not_false e = cc

-- what its keeper has
pub keeps_new : (k : KeptParts) (lines : KeepsLines k) (new : List Request) → lines_new k.seen.shard.editions (replay k.seen.shard.editions k.seen.shard.base k.first) lines.later ≡ lines_of_requests new
    → KeepsNew k.held_first k.holds k.stuck new
keeps_new k lines new same = record { rest = lines.rest; bytes = subst (λ (l : List ℕ). Appends k.held_first k.holds (l ++ lines.rest)) same lines.bytes; is_rest = lines.is_rest }

-- where there is no ledger, nothing is closed
not_here : (m : Machine) (day : ℕ) (result : Result (List Posting) Refusal) → result ≡ Err NotHere → m.ledger ≡ None → ClosesAs m day result (λ ledger. ledger ≡ None)
not_here m day result is none = record {
  mark = None;
  ledger = m.ledger;
  step = ap (step_close None m day) none ∙ ap (λ (r : Result (List Posting) Refusal). stays m (said_of_close day r)) (sym is);
  ample = λ e. refl;
  kept = refl;
  holds = none;
}

-- nothing is closed
abbrev pub ClosesNone : NoTill → ℕ → ℕ → List Taken → Result (List Posting) Refusal → NoTill → Type 0
ClosesNone before day of put result after = (put ≡ []) × (result ≡ Err NotHere) × (after ≡ before)

-- a desk that keeps lines, which cannot fail, and no till: there is no ledger
pub unkept_plain : {K : Type 0} (HasFailed : K → Type 0) → ((k : K) → HasFailed k → ⊥) → (before : Standing Beginning)
    → IsPlain {T = NoTill} (MaySometimeRefuse (kept_parts (CanFail HasFailed)) before) (MaySometimeBeLate (kept_parts (CanFail HasFailed)) before) ⊥
    ClosesNone (λ till. ⊤) (λ till ledger. ledger ≡ None)
unfolding MaySometimeRefuse MaySometimeBeLate
unkept_plain HasFailed never before = record {
  memory = λ fault h. elim h.2 [
    | inl lacks ↦ inl lacks
    | inr failed ↦ absurd (never failed.1.0 failed.1.1)
  ];
  never = λ h. h.3;
  was_sound = λ before after day put result closes sound. tt;
  closes = λ before after m day put result closes quotes answers sound none. not_here m day result closes.1 none;
}

-- a desk over one shard, to which lines are replayed: nothing is closed
pub replay_plain : (before : Standing (FareEditions × State))
    → IsPlain {T = ⊤} (MaySometimeRefuse desk_parts before) (MaySometimeBeLate desk_parts before) ⊥ ClosesNothing (λ till. ⊤) (λ till ledger. ledger ≡ None)
unfolding MaySometimeRefuse MaySometimeBeLate
replay_plain before = record {
  memory = λ fault h. inl h.2;
  never = λ h. h.3;
  was_sound = λ before after day put result closes sound. tt;
  closes = λ before after m day put result closes quotes answers sound none. absurd closes;
}

-- journeys of a week, of the same by the same fare file
pub told_as : {E : Type 0} (result : Result (List Line) E) (t u : FareEditions) (x y : Accepted) (week : ℕ) → t ≡ u → x ≡ y → IfOk result (λ it. it ≡ week_lines t x week) → IfOk result (λ it. it ≡ week_lines u y week)
told_as (Ok it) t u x y week p q e = e ∙ (λ i. week_lines (p i) (q i) week)
told_as (Err fault) t u x y week p q e = tt

-- ---- into a ledger

-- the same of one that may fail
pub kept_without : (Fails : Type 0) (before : Standing Beginning)
    → IsPlain {T = NoTill} (MaySometimeRefuse (kept_parts Fails) before) (MaySometimeBeLate (kept_parts Fails) before) Fails ClosesNone (λ till. ⊤) (λ till ledger. ledger ≡ None)
unfolding MaySometimeRefuse MaySometimeBeLate
kept_without Fails before = record {
  memory = λ fault h. h.2;
  never = λ h. h.3;
  was_sound = λ before after day put result closes sound. tt;
  closes = λ before after m day put result closes quotes answers sound none. not_here m day result closes.1 none;
}

-- a desk over one shard that keeps lines, and a till into a ledger
pub kept_plain : {T : Type 0} (stands : T → DatabaseState) (Fails : Type 0) (before : Standing Beginning) → OneShardGathersAll
    → IsPlain {T = T} (MaySometimeRefuse (kept_parts Fails) before) (MaySometimeBeLate (kept_parts Fails) before) Fails (λ before day of put result after. LedgerCloses (stands before) (stands after) of put result)
    (λ till. HasCleanDisk (stands till)) (λ till ledger. HasLedger (stands till) ledger)
unfolding MaySometimeRefuse MaySometimeBeLate
kept_plain stands Fails before gathers = record {
  memory = λ fault h. h.2;
  never = λ h. h.3;
  was_sound = λ before after day put result closes clean. was_clean (stands before) (stands after) put result closes clean;
  closes = λ before after m day put result closes quotes answers clean has. ledger_closes gathers m day (stands before) (stands after) put answers result closes clean has;
}

-- A desk that went on from a local one, with what its keeper held, was there when its session ended, and was then settled.
pub record Went (Fails : Type 0) (desk : LocalParts) (held : Option (List ℕ)) (begun now settled : KeptParts) : Type 0 where
  pub is : begun ≡ record { seen = desk; first = desk.shard.journal; held_first = held; holds = held; stuck = false }
  pub same : (kept_parts Fails now).standing ≡ (kept_parts Fails begun).standing
  pub seen : settled.seen ≡ now.seen
  pub first : (settled.first ≡ now.first) × (settled.held_first ≡ now.held_first)
  pub placed : AreInPlace 0 settled.seen.shard.journal
  pub lines : KeepsLines settled

-- What a till does, and what is known of it.
pub record Closing (T : Type 0) : Type 1 where
  pub Closes : T → ℕ → ℕ → List Taken → Result (List Posting) Refusal → T → Type 0
  pub Sound : T → Type 0
  pub Has : T → Option LedgerParts → Type 0

-- Over any till whose closes are the machine's.
module _ {T : Type 0} (till : Closing T) (by_line : AskedByItsLine) (zone : TimeZone) {Fails : Type 0} {desk : LocalParts} {held : Option (List ℕ)} {begun now settled : KeptParts} (went : Went Fails desk held begun now settled)
    (plain : IsPlain (Refuses Fails begun) (Late Fails begun) Fails till.Closes till.Sound till.Has) (before after : T) where
  origin : (kept_parts Fails settled).standing.origin ≡ record { editions = desk.shard.editions; base = desk.shard.base; items = desk.shard.journal; holds = held }
  origin = same_origin Fails desk held begun now settled went.is went.same went.seen went.first

  abbrev pub IsEnded : (input : List ℕ) (left written new : Option (List ℕ)) → Done → Sides T → Type 0
  IsEnded input left written new done s = SessionEnds zone 1 (Refuses Fails begun) (Late Fails begun) till.Closes s input left written new done.answered done.quit done.lacked_memory

  abbrev pub HasFailedSo : (input : List ℕ) (left written new : Option (List ℕ)) → SessionFault → Sides T → Type 0
  HasFailedSo input left written new fault s = SessionFailsSo zone 1 (Refuses Fails begun) (Late Fails begun) till.Closes fault s input left written new

  -- the sides of the session
  abbrev pub its_sides : Sides T
  its_sides = sides_from begun.seen.shard.journal now.seen.shard before after

  module _ (input : List ℕ) (left written new : Option (List ℕ)) (sound : till.Sound after) (ledger : Option LedgerParts) (has : till.Has before ledger) where
    run_ends : (done : Done) → IsEnded input left written new done its_sides → Ends (machine_on zone desk.shard ledger) input (streams left written new) (beside_with Fails held settled (till.Has after)) done
    run_ends done h =
        subst (λ (o : Beginning). Ends (machine_from zone o ledger) input (streams left written new) (beside_with Fails o.holds settled (till.Has after)) done) origin
        (ends_from (Refuses Fails begun) (Late Fails begun) Fails till.Closes till.Sound till.Has plain by_line zone settled.first settled.seen.shard (after_first Fails begun now settled went.placed went.lines) before after ledger
        (KeepsNew settled.held_first settled.holds settled.stuck) (keeps_new settled went.lines) sound has input left written new done
        (subst (IsEnded input left written new done) (same_sides Fails begun now settled desk held before after went.is went.seen origin) h))

    run_fails : (fault : SessionFault) → HasFailedSo input left written new fault its_sides → FailsSo fault (machine_on zone desk.shard ledger) input (streams left written new) (beside_with Fails held settled (till.Has after))
    run_fails fault h =
        subst (λ (o : Beginning). FailsSo fault (machine_from zone o ledger) input (streams left written new) (beside_with Fails o.holds settled (till.Has after))) origin
        (fails_from (Refuses Fails begun) (Late Fails begun) Fails till.Closes till.Sound till.Has plain by_line zone settled.first settled.seen.shard (after_first Fails begun now settled went.placed went.lines) before after ledger
        (KeepsNew settled.held_first settled.holds settled.stuck) (keeps_new settled went.lines) sound has fault input left written new
        (subst (HasFailedSo input left written new fault) (same_sides Fails begun now settled desk held before after went.is went.seen origin) h))

  pub till_ends : (ended : Result Done SessionFault) (known left written new : Option (List ℕ)) → IfOk ended (λ done. IfSome known (λ input. IsEnded input left written new done its_sides))
      → till.Sound after → (ledger : Option LedgerParts) → till.Has before ledger
      → IfOk ended (λ done. IfSome known (λ input. Ends (machine_on zone desk.shard ledger) input (streams left written new) (beside_with Fails held settled (till.Has after)) done))
  till_ends (Err fault) known left written new h sound ledger has = tt
  till_ends (Ok done) None left written new h sound ledger has = tt
  till_ends (Ok done) (Some input) left written new h sound ledger has = run_ends input left written new sound ledger has done h

  pub till_fails : (ended : Result Done SessionFault) (known left written new : Option (List ℕ)) → IfErr ended (λ fault. IfSome known (λ input. HasFailedSo input left written new fault its_sides))
      → till.Sound after → (ledger : Option LedgerParts) → till.Has before ledger
      → IfErr ended (λ fault. IfSome known (λ input. FailsSo fault (machine_on zone desk.shard ledger) input (streams left written new) (beside_with Fails held settled (till.Has after))))
  till_fails (Ok done) known left written new h sound ledger has = tt
  till_fails (Err fault) None left written new h sound ledger has = tt
  till_fails (Err fault) (Some input) left written new h sound ledger has = run_fails input left written new sound ledger has fault h

  was_sound_after : (requests : List Request) (events : List Event) → IsSession zone 1 (Refuses Fails begun) (Late Fails begun) till.Closes its_sides requests events → till.Sound after → till.Sound before
  was_sound_after requests events s sound = sound_before (Refuses Fails begun) (Late Fails begun) Fails till.Closes till.Sound till.Has plain by_line zone requests events before after s.served sound

  -- what can be told of the till after it could be before
  pub till_sound : (ended : Result Done SessionFault) (known left written new : Option (List ℕ)) → IfOk ended (λ done. IfSome known (λ input. IsEnded input left written new done its_sides))
      → IfErr ended (λ fault. IfSome known (λ input. HasFailedSo input left written new fault its_sides)) → IfSome known (λ _. till.Sound after → till.Sound before)
  till_sound ended None left written new ends fails = tt
  till_sound (Ok done) (Some input) left written new ends fails = λ sound. was_sound_after (requests_of input) ends.events ends.session sound
  till_sound (Err (Read answered)) (Some input) left written new ends fails = λ sound. was_sound_after (line_requests fails.front) fails.events fails.session sound
  till_sound (Err (Write answered)) (Some input) left written new ends fails = λ sound. was_sound_after fails.done (fails.events ++ fails.next ∷ []) fails.session sound

-- ---- into a ledger

-- a till that lends a ledger, and closes into it
abbrev pub lending : {T H : Type 0} → (H → DatabaseState) → (T → H) → Closing T
lending state_of lent = record {
  Closes = λ before day of put result after. LedgerCloses (state_of (lent before)) (state_of (lent after)) of put result;
  Sound = λ till. HasCleanDisk (state_of (lent till));
  Has = λ till. HasLedger (state_of (lent till));
}

-- what is so of the ledgers that a till lent before and after is so of these, which they are
pub of_lent : {T H : Type 0} (lent : T → H) (P : H → H → Type 0) (old last : H) (before after : T) → old ≡ lent before → last ≡ lent after → P (lent before) (lent after) → P old last
of_lent lent P old last before after was became h = subst (λ o. P o last) (sym was) (subst (λ l. P (lent before) l) (sym became) h)

-- a till that closes nothing
abbrev pub closing_none : Closing NoTill
closing_none = record { Closes = ClosesNone; Sound = λ till. ⊤; Has = λ till ledger. ledger ≡ None }
