-- What came of requests over a desk of one shard and a till is a run of the machine.
use Rattle.std.proofs.Common.{◌≡◌, ℕ, Bool, true, false, ◌||◌, List, [], ◌∷◌, ◌++◌, map, if◌then◌else◌, refl, sym, ap, ◌∙◌, append_assoc, append-nil, subst, Option}
use Rattle.std.proofs.lemmas.Grind.{flat_map-append}
use Rattle.std.specs.Prelude.{Result, is_some}
use Rattle.std.specs.List.{list_any}
use Rattle.jiff.specs.declared.tz.timezone.TimeZone.{TimeZone}
use Rattle.pay_rules.specs.declared.posting.Posting.{Posting}
use Rattle.pay_postings.specs.Words.{LedgerParts}
use Rattle.pay_tables.specs.Words.{FareEditions}
use Rattle.pay_shard.specs.declared.asked.Asked.{Asked}
use Rattle.pay_shard.specs.declared.desk.DeskFault.{DeskFault}
use Rattle.pay_shard.specs.declared.item.Item.{Item}
use Rattle.pay_rules.specs.State.{State}
use Rattle.pay_shard.specs.Words.{is_new as is_shard_new, item_step, new_items, replay, AreInPlace, commands_of as commands_of_items}
use Rattle.pay_shard.specs.declared.reply.Answer.{Answer}
use Rattle.pay_wire.specs.declared.reply.SpelledReply.{SpelledReply}
use Rattle.pay_session.specs.Words.{asks_of, Event, all_put, AreServed}
use Rattle.pay_till.specs.Words.{Taken, commands_of, AreAnswered}
use Rattle.pay_journal.specs.Words.{AskedByItsLine, line_of, lines_of_items}
use Rattle.pay_session.specs.declared.request.Request.{Request}
use Rattle.pay_wire.specs.declared.refusal.Refusal.{Refusal}
use Rattle.pay_run.specs.Journals.{is_new, new_requests}
use Rattle.pay_run.specs.KeptLines.{line_of_request, lines_of_requests}
use Rattle.pay_run.specs.Machine.{Machine, Failure, is_keeping, Step, step, step_asks}
use Rattle.pay_run.specs.Outcomes.{outcome, reply_then, tells_failure, any_failure}
use Rattle.pay_run.proofs.Journals.{replay_after}
use Rattle.pay_run.proofs.OneRequest.{machine_at, line_kept, lines_new, one_steps, was_sound, transcript}
use Rattle.pay_run.proofs.RequestLines.{line_is}
use Rattle.pay_run.proofs.Tills.{IsPlain}

-- what was replied
abbrev pub replies_of : List Event → List SpelledReply
replies_of = map (λ (e : Event). e.reply)

-- The requests were answered as the machine does, to the end of the journal. The lines of its newly accepted items are those of the
-- newly accepted requests.
pub record RunsTo (zone : TimeZone) (editions : FareEditions) (base : State) (front back : List Item) (ledger : Option LedgerParts) (requests : List Request) (events : List Event) (Fails : Type 0) (Holds : Option LedgerParts → Type 0) : Type 0 where
  pub marks : List (Option Failure)
  pub ledger_after : Option LedgerParts
  pub gives : outcome marks (machine_at zone editions base front ledger) requests ≡ record { replies = replies_of events; after = machine_at zone editions base (front ++ back) ledger_after }
  pub ample : any_failure (replies_of events) ≡ false → list_any is_some marks ≡ false
  pub kept : (Fails → ⊥) → list_any is_keeping marks ≡ false
  pub lines : lines_new editions (replay editions base front) back ≡ lines_of_requests (new_requests marks (machine_at zone editions base front ledger) requests)
  pub holds : Holds ledger_after

pub commands_append : (xs ys : List Taken) → commands_of (xs ++ ys) ≡ commands_of xs ++ commands_of ys
commands_append [] ys = refl
commands_append (x ∷ xs) ys = ap (λ l. (x.ticket, x.asked) ∷ l) (commands_append xs ys)

said_first : (transcript_of : ℕ → Option Answer) (xs ys : List Taken) → AreAnswered transcript_of (xs ++ ys) → AreAnswered transcript_of xs
said_first transcript_of [] ys h = tt
said_first transcript_of (x ∷ xs) ys h = (h.0, said_first transcript_of xs ys h.1)

said_rest : (transcript_of : ℕ → Option Answer) (xs ys : List Taken) → AreAnswered transcript_of (xs ++ ys) → AreAnswered transcript_of ys
said_rest transcript_of [] ys h = h
said_rest transcript_of (x ∷ xs) ys h = said_rest transcript_of xs ys h.1

both_false : (a b : Bool) → (a || b) ≡ false → (a ≡ false) × (b ≡ false)
both_false false b h = (refl, h)
both_false true b h = absurd (true_false h)
  where
    true_false : true ≡ false → ⊥
    true_false e = cc

or_false : (a b : Bool) → a ≡ false → b ≡ false → (a || b) ≡ false
or_false a b e f = ap (λ x. x || b) e ∙ f

pub none_left : (back : List Item) → commands_of_items back ≡ [] → back ≡ []
none_left [] e = refl
none_left (item ∷ back) e = absurd (some e)
  where
    some : ◌≡◌ {A = List (ℕ × Asked)} (commands_of_items (item ∷ back)) [] → ⊥
    some e = cc

pub stepped : (mark : Option Failure) (r : Request) (m : Machine) (s : Step) → step_asks mark m (asks_of m.zone r) ≡ s → step mark m r ≡ s
unfolding step
stepped mark r m s h = h

-- ---- the lines of what is newly accepted

if_then : (b : Bool) (item : Item) (items more : List Item) → (if b then item ∷ (items ++ more) else (items ++ more)) ≡ (if b then item ∷ items else items) ++ more
if_then true item items more = refl
if_then false item items more = refl

-- those of more items stand after those of the first
new_after : (editions : FareEditions) (state : State) (items more : List Item) → new_items editions state (items ++ more) ≡ new_items editions state items ++ new_items editions (replay editions state items) more
new_after editions state [] more = refl
new_after editions state (item ∷ items) more =
    let b = is_shard_new (item_step editions state item).reply in
    let next = (item_step editions state item).after in
    ap (λ l. if b then item ∷ l else l) (new_after editions next items more) ∙ if_then b item (new_items editions next items) (new_items editions (replay editions next items) more)

lines_after : (editions : FareEditions) (base : State) (front own rest : List Item)
    → lines_new editions (replay editions base front) (own ++ rest) ≡ lines_new editions (replay editions base front) own ++ lines_new editions (replay editions base (front ++ own)) rest
lines_after editions base front own rest =
    let state = replay editions base front in
    ap lines_of_items (new_after editions state own rest)
    ∙ flat_map-append (λ (i : Item). line_of i.entry.command) (new_items editions state own) (new_items editions (replay editions state own) rest)
    ∙ ap (λ (s : State). lines_new editions state own ++ lines_new editions s rest) (sym (replay_after editions base front own))

-- one request before the others
request_before : (b : Bool) (r : Request) (new : List Request) → (if b then line_of_request r else []) ++ lines_of_requests new ≡ lines_of_requests (if b then r ∷ new else new)
request_before true r new = refl
request_before false r new = refl

module _ {T : Type 0} (Refuses : DeskFault → Type 0) (Late Fails : Type 0) (Closes : T → ℕ → ℕ → List Taken → Result (List Posting) Refusal → T → Type 0) (Sound : T → Type 0) (MayAnswer : T → Option LedgerParts → Type 0) (plain : IsPlain Refuses Late Fails Closes Sound MayAnswer) (by_line : AskedByItsLine) (zone : TimeZone) where
  -- what a till keeps could be told all along where it can be in the end
  pub sound_before : (requests : List Request) (events : List Event) (before after : T) → AreServed 1 Refuses Late Closes zone before requests events after → Sound after → Sound before
  sound_before [] [] before after served sound = subst Sound served sound
  sound_before [] (e ∷ es) before after served sound = absurd served
  sound_before (r ∷ rs) [] before after served sound = absurd served
  sound_before (r ∷ rs) (e ∷ es) before after served sound =
      was_sound Refuses Late Fails Closes Sound MayAnswer plain zone (asks_of zone r) e before served.0 served.1 (sound_before rs es served.0 after served.2 sound)

  pub all_run : (number : ℕ) (editions : FareEditions) (base : State) (front back journal : List Item) (ledger : Option LedgerParts) (requests : List Request) (events : List Event) (before after : T)
      → AreInPlace 0 journal → journal ≡ front ++ back → AreServed 1 Refuses Late Closes zone before requests events after
      → commands_of_items back ≡ commands_of (all_put events) → AreAnswered (transcript number editions base journal) (all_put events) → Sound after → MayAnswer before ledger
      → RunsTo zone editions base front back ledger requests events Fails (MayAnswer after)
  all_run number editions base front back journal ledger [] [] before after placed whole served commands said_so sound tells = record {
    marks = [];
    ledger_after = ledger;
    gives = ap (λ l. record { replies = []; after = machine_at zone editions base l ledger }) (sym (ap (λ l. front ++ l) (none_left back commands) ∙ append-nil front));
    ample = λ e. refl;
    kept = λ _. refl;
    lines = ap (lines_new editions (replay editions base front)) (none_left back commands);
    holds = subst (λ t. MayAnswer t ledger) (sym served) tells;
  }
  all_run number editions base front back journal ledger [] (e ∷ es) before after placed whole served commands said_so sound tells = absurd served
  all_run number editions base front back journal ledger (r ∷ rs) [] before after placed whole served commands said_so sound tells = absurd served
  all_run number editions base front back journal ledger (r ∷ rs) (e ∷ es) before after placed whole served commands said_so sound tells =
      let transcript_of = transcript number editions base journal in
      let between = sound_before rs es served.0 after served.2 sound in
      let one = one_steps Refuses Late Fails Closes Sound MayAnswer plain number zone editions base front back journal ledger (asks_of zone r) e (commands_of (all_put es)) before served.0 placed whole served.1 (commands ∙ commands_append e.put (all_put es))
      (said_first transcript_of e.put (all_put es) said_so) between tells in
      let whole_after : journal ≡ (front ++ one.own) ++ one.rest = whole ∙ ap (λ l. front ++ l) one.parts ∙ sym (append_assoc front one.own one.rest) in
      let later = all_run number editions base (front ++ one.own) one.rest journal one.ledger_after rs es served.0 after placed whole_after served.2 one.commands (said_rest transcript_of e.put (all_put es) said_so) sound one.holds in
      let first : step one.mark (machine_at zone editions base front ledger) r ≡ record { reply = e.reply; after = machine_at zone editions base (front ++ one.own) one.ledger_after } = stepped one.mark r (machine_at zone editions base front ledger) _ one.step in
      record {
        marks = one.mark ∷ later.marks;
        ledger_after = later.ledger_after;
        gives = ap (λ (s : Step). reply_then s.reply (outcome later.marks s.after rs)) first ∙ ap (reply_then e.reply) later.gives
            ∙ ap (λ l. record { replies = e.reply ∷ replies_of es; after = machine_at zone editions base l later.ledger_after }) (append_assoc front one.own one.rest ∙ ap (λ l. front ++ l) (sym one.parts));
        ample = λ h. let both = both_false (tells_failure e.reply) (any_failure (replies_of es)) h in or_false (is_some one.mark) (list_any is_some later.marks) (ap is_some (one.ample both.0)) (later.ample both.1);
        kept = λ never. or_false (is_keeping one.mark) (list_any is_keeping later.marks) (one.kept never) (later.kept never);
        lines = ap (lines_new editions (replay editions base front)) one.parts ∙ lines_after editions base front one.own one.rest
            ∙ ap (λ l. l ++ lines_new editions (replay editions base (front ++ one.own)) one.rest) (one.lines ∙ line_is by_line one.mark (machine_at zone editions base front ledger) r e.reply (ap (λ (s : Step). s.reply) first))
            ∙ ap (λ l. (if is_new e.reply then line_of_request r else []) ++ l) later.lines
            ∙ request_before (is_new e.reply) r (new_requests later.marks (machine_at zone editions base (front ++ one.own) one.ledger_after) rs)
            ∙ ap (λ (s : Step). lines_of_requests (if is_new s.reply then r ∷ new_requests later.marks s.after rs else new_requests later.marks s.after rs)) (sym first);
        holds = later.holds;
      }
