-- What a desk has to which lines were replayed, and where a replay ended.
use Rattle.std.proofs.Common.{◌≡◌, ◌≢◌, inl, inr, ℕ, ◌+◌, ◌-◌, suc, Bool, true, false, ◌||◌, List, [], ◌∷◌, ◌++◌, length, map, refl, sym, ap, ◌∙◌, subst, append_assoc, append-nil, length-append, arith, Option, Some, None, IfSome}
use Rattle.std.specs.Prelude.{Result, Ok, Err, IfOk, IfErr, OnOk, ⊤}
use Rattle.std.specs.FinMap as finite
use Rattle.std.specs.List.{AllByRecursion, list_any}
use Rattle.std.proofs.lemmas.Grind.{flat_map-append}
use Rattle.std.proofs.lemmas.List.{length-map, map-append}
use Rattle.jiff.specs.declared.tz.timezone.TimeZone.{TimeZone}
use Rattle.pay_rules.specs.declared.posting.Posting.{Posting}
use Rattle.pay_rules.specs.declared.priced.Priced.{Priced}
use Rattle.pay_rules.specs.declared.fares.TapFault.{TapFault}
use Rattle.pay_rules.specs.declared.fares.TapFault.TheVariants as of_tap
use Rattle.pay_rules.specs.declared.fares.FixFault.{FixFault}
use Rattle.pay_rules.specs.declared.fares.FixFault.TheVariants as of_fix
use Rattle.pay_rules.specs.declared.tap.Tap.{Tap}
use Rattle.pay_rules.specs.declared.fix.Fix.{Fix}
use Rattle.pay_postings.specs.Words.{LedgerParts}
use Rattle.pay_tables.specs.Words.{FareEditions}
use Rattle.pay_rules.specs.TapResults.{tap_result}
use Rattle.pay_rules.specs.FixResults.{fix_result}
use Rattle.pay_shard.specs.declared.asked.Asked.{Asked}
use Rattle.pay_shard.specs.declared.asked.Asked.TheVariants as asked
use Rattle.pay_shard.specs.declared.desk.DeskFault.{DeskFault}
use Rattle.pay_shard.specs.declared.item.Item.{Item}
use Rattle.pay_shard.specs.declared.reply.Answer.{Answer}
use Rattle.pay_shard.specs.declared.reply.Reply.{Reply}
use Rattle.pay_shard.specs.declared.reply.Reply.TheVariants as desk_reply
use Rattle.pay_shard.specs.declared.refusal.ShardRefusal.{ShardRefusal}
use Rattle.pay_shard.specs.Machine.{step_tap_result, step_fix_result}
use Rattle.pay_rules.specs.State.{State, accepted_of}
use Rattle.pay_shard.specs.Words.{ShardParts, LocalParts, Standing, desk_parts, state_now, step as shard_step, AreInPlace, NothingIsLost, commands_of as commands_of_items}
use Rattle.pay_wire.specs.declared.refusal.Refusal.{Refusal}
use Rattle.pay_wire.specs.declared.refusal.Refusal.TheVariants as refusal
use Rattle.pay_wire.specs.declared.reply.SpelledReply.{SpelledReply}
use Rattle.pay_wire.specs.declared.reply.SpelledReply.TheVariants as replies
use Rattle.pay_session.specs.Words.{asks_of, line_requests, rest_of, said, Event, all_put, IsServedAs, AreServed, IsSession, Sides}
use Rattle.pay_till.specs.Words.{Taken, commands_of, IsAnswerTo, AreAnswered, MaySometimeRefuse, MaySometimeBeLate}
use Rattle.pay_journal.specs.Words.{AskedByItsLine, is_barred, IsPriced, why_ended, ClosesNothing, AreHanded, NoneIsBarred, AreAccepted, IsReplayed, IsEndedAt, IsEnded}
use Rattle.pay_session.specs.declared.asks.Asks.{Asks}
use Rattle.pay_session.specs.declared.asks.Asks.TheVariants as asks
use Rattle.pay_journal.specs.declared.replaying.Replayed.{Replayed}
use Rattle.pay_journal.specs.declared.replaying.ReplayFault.{ReplayFault}
use Rattle.pay_journal.specs.declared.replaying.ReplayFault.TheVariants as fault
use Rattle.pay_session.specs.declared.request.Request.{Request}
use Rattle.pay_run.specs.Journals.{machine_of, GivesBack}
use Rattle.pay_run.specs.Machine.{Machine, Failure, Memory, Store, Desk, Keeping, Early, is_keeping, Step, new_machine, machine_on, with_ledger, step_asks, step}
use Rattle.pay_run.specs.Outcomes.{Outcome, outcome, reply_then, is_priced, AreAllPriced}
use Rattle.pay_run.specs.Commands.{command_of, commands_in, commands_of as asked_of}
use Rattle.pay_run.specs.Past.{HasReplayed, IsReplayedAfter, IsNotReplayedAfter, IsReplayOf, IsRefusedSo, Reaches, StopsAt, IsNotReplayed, whole_bytes}
use Rattle.pay_run.proofs.AllRequests.{RunsTo, replies_of, commands_append}
use Rattle.pay_run.proofs.Asked.{ends_after}
use Rattle.pay_run.proofs.Closes.{of_close}
use Rattle.pay_run.proofs.NewRequests.{after_both, over_ledger}
use Rattle.pay_run.proofs.WholeRuns.{IsAfter, sides_from, runs, replay_plain}

true_false : true ≡ false → ⊥
true_false e = cc

both_false : (a b : Bool) → (a || b) ≡ false → (a ≡ false) × (b ≡ false)
both_false false b h = (refl, h)
both_false true b h = absurd (true_false h)

-- ---- one replay after another

answer_kept : (before after : ℕ → Option Answer) → NothingIsLost before after → (t : Taken) (o : Option Answer) → IfSome o (IsAnswerTo before t) → IfSome o (IsAnswerTo after t)
answer_kept before after kept t None h = tt
answer_kept before after kept t (Some a) h = (kept t.ticket a h.0, h.1, h.2)

answered_kept : (before after : ℕ → Option Answer) → NothingIsLost before after → (put : List Taken) → AreAnswered before put → AreAnswered after put
answered_kept before after kept [] h = tt
answered_kept before after kept (t ∷ put) h = (answer_kept before after kept t t.answer h.0, answered_kept before after kept put h.1)

answered_both : (transcript : ℕ → Option Answer) (xs ys : List Taken) → AreAnswered transcript xs → AreAnswered transcript ys → AreAnswered transcript (xs ++ ys)
answered_both transcript [] ys f g = g
answered_both transcript (x ∷ xs) ys f g = (f.0, answered_both transcript xs ys f.1 g)

all_both : {X : Type 0} (P : X → Type 0) (xs ys : List X) → AllByRecursion P xs → AllByRecursion P ys → AllByRecursion P (xs ++ ys)
all_both P [] ys f g = g
all_both P (x ∷ xs) ys f g = (f.0, all_both P xs ys f.1 g)

module _ (Refuses : DeskFault → Type 0) (Late : Type 0) (zone : TimeZone) where
  served_both : (rs : List Request) (es : List Event) (others : List Request) (more : List Event) (a b c : ⊤) → AreServed 1 Refuses Late ClosesNothing zone a rs es b → AreServed 1 Refuses Late ClosesNothing zone b others more c
      → AreServed 1 Refuses Late ClosesNothing zone a (rs ++ others) (es ++ more) c
  served_both [] [] others more a b c f g = subst (λ t. AreServed 1 Refuses Late ClosesNothing zone t others more c) f g
  served_both [] (e ∷ es) others more a b c f g = absurd f
  served_both (r ∷ rs) [] others more a b c f g = absurd f
  served_both (r ∷ rs) (e ∷ es) others more a b c f g = (f.0, f.1, served_both rs es others more f.0 b c f.2 g)

  served_many : (rs : List Request) (es : List Event) (a b : ⊤) → AreServed 1 Refuses Late ClosesNothing zone a rs es b → length es ≡ length rs
  served_many [] [] a b f = refl
  served_many [] (e ∷ es) a b f = absurd f
  served_many (r ∷ rs) [] a b f = absurd f
  served_many (r ∷ rs) (e ∷ es) a b f = ap suc (served_many rs es f.0 b f.2)

-- what was handed to a desk, and then more
handed_both : (zone : TimeZone) (first desk last : LocalParts) (rs others : List Request) (es more : List Event) → (desk_parts desk).standing ≡ (desk_parts first).standing → NothingIsLost (desk_parts desk).transcript (desk_parts last).transcript
    → AreHanded zone desk_parts first desk rs es → AreHanded zone desk_parts desk last others more → AreHanded zone desk_parts first last (rs ++ others) (es ++ more)
handed_both zone first desk last rs others es more stands kept f g =
    let Refuses = MaySometimeRefuse desk_parts (desk_parts first).standing in
    let Late = MaySometimeBeLate desk_parts (desk_parts first).standing in
    let beyond : IsSession zone 1 Refuses Late ClosesNothing (sides_from desk.shard.journal last.shard tt tt) others more =
    subst (λ (s : Standing (FareEditions × State)). IsSession zone 1 (MaySometimeRefuse desk_parts s) (MaySometimeBeLate desk_parts s) ClosesNothing (sides_from desk.shard.journal last.shard tt tt) others more) stands g in
    let put : all_put (es ++ more) ≡ all_put es ++ all_put more = flat_map-append (λ (e : Event). e.put) es more in
    record {
      served = served_both Refuses Late zone rs es others more tt tt tt f.served beyond.served;
      taken = g.taken ∙ ap (λ l. l ++ commands_of (all_put more)) f.taken ∙ append_assoc (desk_parts first).taken (commands_of (all_put es)) (commands_of (all_put more))
          ∙ ap (λ l. (desk_parts first).taken ++ l) (sym (commands_append (all_put es) (all_put more)) ∙ ap commands_of (sym put));
      said = subst (AreAnswered (desk_parts last).transcript) (sym put)
          (answered_both (desk_parts last).transcript (all_put es) (all_put more) (answered_kept (desk_parts desk).transcript (desk_parts last).transcript kept (all_put es) f.said) g.said);
    }

-- to a desk without accounts nothing was handed
pub has_none : (zone : TimeZone) (editions : FareEditions) (desk : LocalParts) → desk.shard.editions ≡ editions → desk.shard.base ≡ finite.empty → desk.shard.journal ≡ [] → HasReplayed zone editions desk []
has_none zone editions desk same no_base no_journal = record {
  first = desk;
  same = same;
  no_base = no_base;
  no_journal = no_journal;
  stands = refl;
  events = [];
  accepted = (record { served = refl; taken = sym (append-nil (desk_parts desk).taken); said = tt }, tt, tt);
}

-- all whole lines of one more text were
pub goes_on : (zone : TimeZone) (editions : FareEditions) (desk last : LocalParts) (before : List Request) (text : List ℕ) (it : Replayed) → HasReplayed zone editions desk before → (desk_parts last).standing ≡ (desk_parts desk).standing
    → NothingIsLost (desk_parts desk).transcript (desk_parts last).transcript → IsReplayed zone desk_parts desk last text it → HasReplayed zone editions last (before ++ line_requests text)
goes_on zone editions desk last before text it h same kept f = record {
  first = h.first;
  same = h.same;
  no_base = h.no_base;
  no_journal = h.no_journal;
  stands = same ∙ h.stands;
  events = h.events ++ f.events;
  accepted = (
    handed_both zone h.first desk last before (line_requests text) h.events f.events h.stands kept h.accepted.0 f.accepted.0,
    all_both (λ (r : Request). is_barred (asks_of zone r) ≡ false) before (line_requests text) h.accepted.1 f.accepted.1,
    all_both (λ (e : Event). IsPriced e.reply) h.events f.events h.accepted.2 f.accepted.2,
  );
}

-- ---- as the machine has it

-- the requests were run by the machine, for none of which a line was to be kept
record IsRun (zone : TimeZone) (editions : FareEditions) (shard : ShardParts) (requests : List Request) (events : List Event) : Type 0 where
  marks : List (Option Failure)
  gives : outcome marks (new_machine zone editions None) requests ≡ record { replies = replies_of events; after = machine_on zone shard None }
  kept : list_any is_keeping marks ≡ false

handed_run : AskedByItsLine → (zone : TimeZone) (editions : FareEditions) (first desk : LocalParts) (requests : List Request) (events : List Event) → first.shard.editions ≡ editions → first.shard.base ≡ finite.empty → first.shard.journal ≡ []
    → (desk_parts desk).standing ≡ (desk_parts first).standing → AreInPlace 0 desk.shard.journal → AreHanded zone desk_parts first desk requests events → IsRun zone editions desk.shard requests events
handed_run by_line zone editions first desk requests events same no_base no_journal stands placed handed =
    let stood = (desk_parts first).standing in
    let b : IsAfter [] desk.shard = record { back = desk.shard.journal; whole = refl; in_place = placed } in
    let s = subst (λ l. IsSession zone 1 (MaySometimeRefuse desk_parts stood) (MaySometimeBeLate desk_parts stood) ClosesNothing (sides_from l desk.shard tt tt) requests events) no_journal handed in
    let r = runs (MaySometimeRefuse desk_parts stood) (MaySometimeBeLate desk_parts stood) ⊥ ClosesNothing (λ till. ⊤) (λ till ledger. ledger ≡ None) (replay_plain stood) by_line zone [] desk.shard tt tt None requests events b tt refl s in
    let begun : machine_on zone (record { number = desk.shard.number; editions = desk.shard.editions; base = desk.shard.base; journal = []; memory = desk.shard.memory }) None ≡ new_machine zone editions None =
    (λ i. record { zone = zone; editions = ((ap (λ (s : Standing (FareEditions × State)). s.origin.0) stands) ∙ same) i; accounts = ((ap (λ (s : Standing (FareEditions × State)). s.origin.1) stands) ∙ no_base) i; ledger = None }) in
    record {
      marks = r.marks;
      gives = ap (λ m. outcome r.marks m requests) (sym begun) ∙ r.gives ∙ ap (λ l. record { replies = replies_of events; after = machine_on zone desk.shard l }) r.holds;
      kept = r.kept (λ never. never);
    }

priced_replies : (events : List Event) → AllByRecursion (λ (e : Event). IsPriced e.reply) events → AreAllPriced (replies_of events)
priced_replies [] h = tt
priced_replies (e ∷ es) h = (ap is_priced h.0.1, priced_replies es h.1)

-- a request that is answered by prices is answered so where nothing fails
priced_alike : (mark : Option Failure) (m : Machine) (of : Asks) → is_priced (step_asks mark m of).reply ≡ true → step_asks None m of ≡ step_asks mark m of
priced_alike None m of is = refl
priced_alike (Some failure) m (asks.Put a) is = absurd (cc)
priced_alike (Some failure) m (asks.Close day) is =
    absurd (of_close (λ (s : Step). is_priced s.reply ≡ true → ⊥) m (λ reply ledger plain is. true_false (sym is ∙ plain)) (Some failure) day m.ledger is)
priced_alike (Some failure) m asks.Quit is = refl
priced_alike (Some failure) m (asks.No why) is = refl

step_alike : (mark : Option Failure) (m : Machine) (r : Request) → is_priced (step mark m r).reply ≡ true → step None m r ≡ step mark m r
unfolding step
step_alike mark m r is = priced_alike mark m (asks_of m.zone r) is

unmarked : (marks : List (Option Failure)) (m : Machine) (list : List Request) → AreAllPriced (outcome marks m list).replies → outcome [] m list ≡ outcome marks m list
unmarked [] m list all = refl
unmarked (mark ∷ marks) m [] all = refl
unmarked (mark ∷ marks) m (r ∷ list) all =
    ap (λ (s : Step). reply_then s.reply (outcome [] s.after list)) (step_alike mark m r all.0) ∙ ap (reply_then (step mark m r).reply) (unmarked marks (step mark m r).after list all.1)

-- what was replayed is given back
pub gives_back : AskedByItsLine → (zone : TimeZone) (editions : FareEditions) (desk : LocalParts) (requests : List Request) → AreInPlace 0 desk.shard.journal → HasReplayed zone editions desk requests → GivesBack zone editions requests (machine_on zone desk.shard None)
gives_back by_line zone editions desk requests placed h =
    let r = handed_run by_line zone editions h.first desk requests h.events h.same h.no_base h.no_journal h.stands placed h.accepted.0 in
    let priced = subst (λ (o : Outcome). AreAllPriced o.replies) (sym r.gives) (priced_replies h.events h.accepted.2) in
    let alike = unmarked r.marks (new_machine zone editions None) requests priced in
    record { accepted = subst (λ (o : Outcome). AreAllPriced o.replies) (sym alike) priced; machine = ap (λ (o : Outcome). o.after) (alike ∙ r.gives) }

-- a desk that has what requests give back prices by the fare file by which they were answered
tables_of : (zone : TimeZone) (editions : FareEditions) (shard : ShardParts) (list : List Request) → GivesBack zone editions list (machine_on zone shard None) → shard.editions ≡ editions
tables_of zone editions shard list gives = ap (λ (m : Machine). m.editions) (sym gives.machine ∙ ends_after [] (new_machine zone editions None) list)

-- and over another ledger they give back the same
gives_over : (zone : TimeZone) (editions : FareEditions) (shard : ShardParts) (list : List Request) → GivesBack zone editions list (machine_on zone shard None) → (ledger : Option LedgerParts) → GivesBack zone editions list (machine_on zone shard ledger)
gives_over zone editions shard list gives ledger =
    let same = over_ledger (new_machine zone editions None) ledger list gives.accepted in
    record {
      accepted = subst (λ (o : Outcome). AreAllPriced o.replies) (sym same) gives.accepted;
      machine = ap (λ (o : Outcome). o.after) same ∙ ap (λ (m : Machine). with_ledger m ledger) gives.machine;
    }

-- a text's bytes are its whole lines and what is left over
whole_of : (n m k : ℕ) → n + m ≡ k → n ≡ k - m
whole_of n m k e = omega (arith, e)

pub is_replay : AskedByItsLine → (zone : TimeZone) (editions : FareEditions) (desk last : LocalParts) (text : List ℕ) (it : Replayed) → desk.shard.editions ≡ editions → desk.shard.base ≡ finite.empty → desk.shard.journal ≡ [] → AreInPlace 0 last.shard.journal
    → (desk_parts last).standing ≡ (desk_parts desk).standing → NothingIsLost (desk_parts desk).transcript (desk_parts last).transcript → IsReplayed zone desk_parts desk last text it → IsReplayOf zone editions text last.shard it
is_replay by_line zone editions desk last text it same no_base no_journal placed stands kept f = record {
  same = tables_of zone editions last.shard (line_requests text) (gives_back by_line zone editions last (line_requests text) placed (goes_on zone editions desk last [] text it (has_none zone editions desk same no_base no_journal) stands kept f));
  gives_back = gives_over zone editions last.shard (line_requests text) (gives_back by_line zone editions last (line_requests text) placed (goes_on zone editions desk last [] text it (has_none zone editions desk same no_base no_journal) stands kept f));
  lines = f.counted;
  bytes = whole_of it.bytes (length (rest_of text)) (length text) f.sized;
}

-- ---- where a replay ended

heads : {X : Type 0} (x y : X) (xs ys : List X) → x ∷ xs ≡ y ∷ ys → x ≡ y
heads x y xs ys e = cc

tails : {X : Type 0} (x y : X) (xs ys : List X) → x ∷ xs ≡ y ∷ ys → xs ≡ ys
tails x y xs ys e = cc

-- the mark of the first request, and those of the others
abbrev mark_first : List (Option Failure) → Option Failure
mark_first [] = None
mark_first (mark ∷ marks) = mark

abbrev marks_later : List (Option Failure) → List (Option Failure)
marks_later [] = []
marks_later (mark ∷ marks) = marks

one_first : (marks : List (Option Failure)) (m : Machine) (r : Request) (list : List Request)
    → outcome marks m (r ∷ list) ≡ reply_then (step (mark_first marks) m r).reply (outcome (marks_later marks) (step (mark_first marks) m r).after list)
one_first [] m r list = refl
one_first (mark ∷ marks) m r list = refl

first_kept : (marks : List (Option Failure)) → list_any is_keeping marks ≡ false → (is_keeping (mark_first marks) ≡ false) × (list_any is_keeping (marks_later marks) ≡ false)
first_kept [] h = (refl, refl)
first_kept (mark ∷ marks) h = both_false (is_keeping mark) (list_any is_keeping marks) h

-- after requests that are all answered by prices one more is answered so
record EndsBy (m : Machine) (list : List Request) (r : Request) (last : SpelledReply) : Type 0 where
  accepted : AreAllPriced (outcome [] m list).replies
  mark : Option Failure
  kept : is_keeping mark ≡ false
  replied : (step mark (outcome [] m list).after r).reply ≡ last

ends_by : (marks : List (Option Failure)) (m : Machine) (list : List Request) (r : Request) (more : List Request) (told : List SpelledReply) (last : SpelledReply) (later : List SpelledReply) → length told ≡ length list
    → (outcome marks m (list ++ r ∷ more)).replies ≡ told ++ last ∷ later → AreAllPriced told → list_any is_keeping marks ≡ false → EndsBy m list r last
ends_by marks m [] r more [] last later many e all kept = record {
  accepted = tt;
  mark = mark_first marks;
  kept = (first_kept marks kept).0;
  replied = heads _ _ _ _ (sym (ap (λ (o : Outcome). o.replies) (one_first marks m r more)) ∙ e);
}
ends_by marks m [] r more (t ∷ told) last later many e all kept = absurd (omega (arith, many))
ends_by marks m (x ∷ list) r more [] last later many e all kept = absurd (omega (arith, many))
ends_by marks m (x ∷ list) r more (t ∷ told) last later many e all kept =
    let both = sym (ap (λ (o : Outcome). o.replies) (one_first marks m x (list ++ r ∷ more))) ∙ e in
    let first = step (mark_first marks) m x in
    let rest = ends_by (marks_later marks) first.after list r more told last later (omega (arith, many)) (tails _ _ _ _ both) all.1 (first_kept marks kept).1 in
    let priced : is_priced first.reply ≡ true = ap is_priced (heads _ _ _ _ both) ∙ all.0 in
    let alike : step None m x ≡ first = step_alike (mark_first marks) m x priced in
    record {
      accepted = (ap (λ (s : Step). is_priced s.reply) alike ∙ priced, subst (λ (s : Step). AreAllPriced (outcome [] s.after list).replies) (sym alike) rest.accepted);
      mark = rest.mark;
      kept = rest.kept;
      replied = subst (λ (s : Step). (step rest.mark (outcome [] s.after list).after r).reply ≡ last) (sym alike) rest.replied;
    }

-- ---- what ends it

some_why : (x y : Refusal) → ◌≡◌ {A = Option Refusal} (Some x) (Some y) → x ≡ y
some_why x y e = cc

none_why : (x : Refusal) → ◌≡◌ {A = Option Refusal} None (Some x) → ⊥
none_why x e = cc

-- prices or a refusal, as the replies to a tap and a correction are
abbrev is_plain_reply : SpelledReply → Bool
is_plain_reply (replies.Priced priced) = true
is_plain_reply (replies.No why) = true
is_plain_reply _ = false

-- one of these that ends a replay is that refusal
why_of : (reply : SpelledReply) (why : Refusal) → is_plain_reply reply ≡ true → why_ended reply ≡ Some why → reply ≡ replies.No why
why_of (replies.Priced priced) why plain e = absurd (none_why why e)
why_of (replies.No x) why plain e = ap replies.No (some_why x why e)
why_of (replies.Due quote) why plain e = absurd (true_false (sym plain))
why_of (replies.Shown shown) why plain e = absurd (true_false (sym plain))
why_of (replies.Closed closed) why plain e = absurd (true_false (sym plain))
why_of replies.Bye why plain e = absurd (true_false (sym plain))

tap_plain : (state : State) (tap : Tap) (result : Result Priced TapFault) → is_plain_reply (said (step_tap_result state tap result).reply) ≡ true
tap_plain state tap (Ok priced) = refl
tap_plain state tap (Err of_tap.UnknownPlace) = refl
tap_plain state tap (Err of_tap.Conflict) = refl
tap_plain state tap (Err of_tap.AccountFull) = refl
tap_plain state tap (Err of_tap.Memory) = refl

fix_plain : (state : State) (fix : Fix) (result : Result Priced FixFault) → is_plain_reply (said (step_fix_result state fix result).reply) ≡ true
fix_plain state fix (Ok priced) = refl
fix_plain state fix (Err of_fix.UnknownPlace) = refl
fix_plain state fix (Err of_fix.FixConflict) = refl
fix_plain state fix (Err of_fix.FixesFull) = refl
fix_plain state fix (Err of_fix.Memory) = refl

-- unless memory was wanting, the machine refuses it so where nothing fails
refused_so : (mark : Option Failure) (m : Machine) (of : Asks) (reply : SpelledReply) (why : Refusal) → is_barred of ≡ false → (step_asks mark m of).reply ≡ reply → why_ended reply ≡ Some why → why ≢ refusal.Memory → is_keeping mark ≡ false
    → (step_asks None m of).reply ≡ replies.No why
refused_so None m (asks.Put (asked.Tap tap)) reply why free told ends other kept =
    why_of _ why (tap_plain m.accounts tap (tap_result m.editions (accepted_of m.accounts tap.account) tap)) (ap why_ended told ∙ ends)
refused_so None m (asks.Put (asked.Fix fix)) reply why free told ends other kept =
    why_of _ why (fix_plain m.accounts fix (fix_result m.editions (accepted_of m.accounts fix.account) fix)) (ap why_ended told ∙ ends)
refused_so (Some Memory) m (asks.Put a) reply why free told ends other kept = absurd (other (sym (some_why refusal.Memory why (ap why_ended told ∙ ends))))
refused_so (Some Store) m (asks.Put a) reply why free told ends other kept = absurd (other (sym (some_why refusal.Memory why (ap why_ended told ∙ ends))))
refused_so (Some Desk) m (asks.Put a) reply why free told ends other kept = absurd (other (sym (some_why refusal.Memory why (ap why_ended told ∙ ends))))
refused_so (Some Keeping) m (asks.Put a) reply why free told ends other kept = absurd (true_false kept)
refused_so (Some Early) m (asks.Put a) reply why free told ends other kept = absurd (other (sym (some_why refusal.Memory why (ap why_ended told ∙ ends))))
refused_so None m (asks.Put (asked.Due account day)) reply why free told ends other kept = absurd (true_false free)
refused_so None m (asks.Put (asked.Show account day)) reply why free told ends other kept = absurd (true_false free)
refused_so None m (asks.Put (asked.Quotes day shard of)) reply why free told ends other kept = absurd (true_false free)
refused_so mark m (asks.Close day) reply why free told ends other kept = absurd (true_false free)
refused_so mark m asks.Quit reply why free told ends other kept = absurd (true_false free)
refused_so mark m (asks.No x) reply why free told ends other kept = ap replies.No (some_why x why (ap why_ended told ∙ ends))

refused_step : (mark : Option Failure) (m : Machine) (r : Request) (reply : SpelledReply) (why : Refusal) → is_barred (asks_of m.zone r) ≡ false → (step mark m r).reply ≡ reply → why_ended reply ≡ Some why → why ≢ refusal.Memory → is_keeping mark ≡ false
    → (step None m r).reply ≡ replies.No why
unfolding step
refused_step mark m r reply why free told ends other kept = refused_so mark m (asks_of m.zone r) reply why free told ends other kept

rest_priced : (m : Machine) (list more : List Request) → AreAllPriced (outcome [] m (list ++ more)).replies → AreAllPriced (outcome [] (outcome [] m list).after more).replies
rest_priced m [] more all = all
rest_priced m (r ∷ list) more all = rest_priced (step None m r).after list more all.1

same_zone : (m : Machine) (list : List Request) → (outcome [] m list).after.zone ≡ m.zone
same_zone m list = ap (λ (n : Machine). n.zone) (ends_after [] m list)

-- a replay that ended, after what was replayed before
module _ (by_line : AskedByItsLine) (zone : TimeZone) (editions : FareEditions) (desk last : LocalParts) (before : List Request) (text : List ℕ) (h : HasReplayed zone editions desk before) (placed : AreInPlace 0 last.shard.journal)
    (stands : (desk_parts last).standing ≡ (desk_parts desk).standing) (kept : NothingIsLost (desk_parts desk).transcript (desk_parts last).transcript) (line : ℕ) (why : Refusal) (e : IsEndedAt zone desk_parts desk last text line why) where
  abbrev pub new : Machine
  new = new_machine zone editions None

  abbrev pub begun : Machine
  begun = (outcome [] new before).after

  -- what was accepted before the line
  record IsStopped : Type 0 where
    all : AreAllPriced (outcome [] new (before ++ e.done)).replies
    accepted : AreAllPriced (outcome [] begun e.done).replies
    refused : why ≢ refusal.Memory → IsRefusedSo (outcome [] begun e.done).after e.request why

  there : (outcome [] new (before ++ e.done)).after ≡ (outcome [] begun e.done).after
  there = after_both new before e.done

  in_zone : (outcome [] begun e.done).after.zone ≡ zone
  in_zone = same_zone begun e.done ∙ same_zone new before

  run : (requests : List Request) (events : List Event) → AreHanded zone desk_parts desk last requests events → IsRun zone editions last.shard (before ++ requests) (h.events ++ events)
  run requests events handed =
      handed_run by_line zone editions h.first last (before ++ requests) (h.events ++ events) h.same h.no_base h.no_journal (stands ∙ h.stands) placed
      (handed_both zone h.first desk last before requests h.events events h.stands kept h.accepted.0 handed)

  told_all : AreAllPriced (replies_of (h.events ++ e.events))
  told_all = priced_replies (h.events ++ e.events) (all_both (λ (x : Event). IsPriced x.reply) h.events e.events h.accepted.2 e.priced)

  one_more : (last_event : Event) (more : List Event) → replies_of (h.events ++ (e.events ++ last_event ∷ more)) ≡ replies_of (h.events ++ e.events) ++ last_event.reply ∷ replies_of more
  one_more last_event more = ap replies_of (sym (append_assoc h.events e.events (last_event ∷ more))) ∙ map-append (λ (x : Event). x.reply) (h.events ++ e.events) (last_event ∷ more)

  as_many : length (replies_of (h.events ++ e.events)) ≡ length (before ++ e.done)
  as_many =
      let told = length-map (h.events ++ e.events) (λ (x : Event). x.reply) in
      let events = length-append h.events e.events in
      let list = length-append before e.done in
      let first = served_many (MaySometimeRefuse desk_parts (desk_parts h.first).standing) (MaySometimeBeLate desk_parts (desk_parts h.first).standing) zone before h.events tt tt h.accepted.0.served in
      let each = e.each in
      omega (arith, told, events, list, first, each)

  stopped : IsStopped
  stopped = elim e.ended [
    | inl (last_event, more, free, handed, ends) ↦
        let r = run (e.done ++ e.request ∷ e.ahead) (e.events ++ last_event ∷ more) handed in
        let list : before ++ (e.done ++ e.request ∷ e.ahead) ≡ (before ++ e.done) ++ e.request ∷ e.ahead = sym (append_assoc before e.done (e.request ∷ e.ahead)) in
        let by = ends_by r.marks new (before ++ e.done) e.request e.ahead (replies_of (h.events ++ e.events)) last_event.reply (replies_of more) as_many
        (ap (λ l. (outcome r.marks new l).replies) (sym list) ∙ ap (λ (o : Outcome). o.replies) r.gives ∙ one_more last_event more) told_all r.kept in
        record {
          all = by.accepted;
          accepted = rest_priced new before e.done by.accepted;
          refused = λ other. inl (
            ap (λ z. is_barred (asks_of z e.request)) in_zone ∙ free,
            refused_step by.mark (outcome [] begun e.done).after e.request last_event.reply why (ap (λ z. is_barred (asks_of z e.request)) in_zone ∙ free)
                (ap (λ (m : Machine). (step by.mark m e.request).reply) (sym there) ∙ by.replied) ends other by.kept,
          );
        }
    | inr (barred, handed, bad) ↦
        let r = run e.done e.events handed in
        let alike = unmarked r.marks new (before ++ e.done) (subst (λ (o : Outcome). AreAllPriced o.replies) (sym r.gives) told_all) in
        let accepted = subst (λ (o : Outcome). AreAllPriced o.replies) (sym (alike ∙ r.gives)) told_all in
        record {
          all = accepted;
          accepted = rest_priced new before e.done accepted;
          refused = λ other. inr (ap (λ z. is_barred (asks_of z e.request)) in_zone ∙ barred, bad);
        }
  ]

  pub all_accepted : AreAllPriced (outcome [] new (before ++ e.done)).replies
  all_accepted = stopped.all

  pub reaches : Reaches begun (line_requests text) line
  reaches = record { done = e.done; request = e.request; others = e.ahead ++ e.others; requests = e.requests; counted = e.counted; accepted = stopped.accepted }

  pub stops_at : why ≢ refusal.Memory → StopsAt begun (line_requests text) line why
  unfolding reaches
  stops_at other = (reaches, stopped.refused other)

-- what is told of it
pub not_replayed : AskedByItsLine → (zone : TimeZone) (editions : FareEditions) (desk last : LocalParts) (before : List Request) (text : List ℕ) → HasReplayed zone editions desk before → AreInPlace 0 last.shard.journal
    → (desk_parts last).standing ≡ (desk_parts desk).standing → NothingIsLost (desk_parts desk).transcript (desk_parts last).transcript → (f : ReplayFault) → IsEnded zone desk_parts desk last text f
    → IsNotReplayed (outcome [] (new_machine zone editions None) before).after (line_requests text) f
not_replayed by_line zone editions desk last before text h placed stands kept (fault.Line line why) e = stops_at by_line zone editions desk last before text h placed stands kept line why e.0 e.1
not_replayed by_line zone editions desk last before text h placed stands kept fault.Memory e = (e.0, reaches by_line zone editions desk last before text h placed stands kept e.0 refusal.Memory e.1)

-- what was replayed before is accepted all the same
first_priced : (m : Machine) (list more : List Request) → AreAllPriced (outcome [] m (list ++ more)).replies → AreAllPriced (outcome [] m list).replies
first_priced m [] more all = tt
first_priced m (r ∷ list) more all = (all.0, first_priced (step None m r).after list more all.1)

pub accepted_before : AskedByItsLine → (zone : TimeZone) (editions : FareEditions) (desk last : LocalParts) (before : List Request) (text : List ℕ) → HasReplayed zone editions desk before → AreInPlace 0 last.shard.journal
    → (desk_parts last).standing ≡ (desk_parts desk).standing → NothingIsLost (desk_parts desk).transcript (desk_parts last).transcript → (f : ReplayFault) → IsEnded zone desk_parts desk last text f
    → AreAllPriced (outcome [] (new_machine zone editions None) before).replies
accepted_before by_line zone editions desk last before text h placed stands kept (fault.Line line why) e =
    first_priced (new_machine zone editions None) before e.0.done (all_accepted by_line zone editions desk last before text h placed stands kept line why e.0)
accepted_before by_line zone editions desk last before text h placed stands kept fault.Memory e =
    first_priced (new_machine zone editions None) before e.1.done (all_accepted by_line zone editions desk last before text h placed stands kept e.0 refusal.Memory e.1)

-- ---- one text more

module _ (zone : TimeZone) (desk last : LocalParts) (text : List ℕ) where
  pub more_replayed : (ended : Result Replayed ReplayFault) → (desk_parts last).standing ≡ (desk_parts desk).standing → NothingIsLost (desk_parts desk).transcript (desk_parts last).transcript
      → IfOk ended (IsReplayed zone desk_parts desk last text) → OnOk ended (IsReplayedAfter zone desk last (line_requests text))
  more_replayed (Err f) stands kept h = tt
  more_replayed (Ok it) stands kept h = λ editions before has. goes_on zone editions desk last before text it has stands kept h

  pub more_stopped : AskedByItsLine → (ended : Result Replayed ReplayFault) → AreInPlace 0 last.shard.journal → (desk_parts last).standing ≡ (desk_parts desk).standing
      → NothingIsLost (desk_parts desk).transcript (desk_parts last).transcript → IfErr ended (IsEnded zone desk_parts desk last text) → IfErr ended (IsNotReplayedAfter zone desk (line_requests text))
  more_stopped by_line (Ok it) placed stands kept h = tt
  more_stopped by_line (Err f) placed stands kept h = λ editions before has. (
    accepted_before by_line zone editions desk last before text has placed stands kept f h,
    not_replayed by_line zone editions desk last before text has placed stands kept f h,
  )

-- ---- the commands of a journal to which lines were replayed

in_commands : (items : List Item) → commands_in items ≡ map (λ (p : ℕ × Asked). p.1) (commands_of_items items)
in_commands [] = refl
in_commands (item ∷ items) = ap (λ l. item.entry.command ∷ l) (in_commands items)

put_commands : (put : List Taken) → map (λ (p : ℕ × Asked). p.1) (commands_of put) ≡ map (λ (t : Taken). t.asked) put
put_commands [] = refl
put_commands (t ∷ put) = ap (λ l. t.asked ∷ l) (put_commands put)

not_priced : (why : Refusal) → IsPriced (replies.No why) → ⊥
not_priced why (priced, e) = absurd (cc)

bye_not_priced : IsPriced replies.Bye → ⊥
bye_not_priced (priced, e) = absurd (cc)

module _ (Refuses : DeskFault → Type 0) (Late : Type 0) (zone : TimeZone) where
  -- what was put for a request that was answered by prices is what it asks for
  one_put : (of : Asks) (e : Event) (a b : ⊤) → IsServedAs 1 Refuses Late ClosesNothing of e a b → IsPriced e.reply → map (λ (t : Taken). t.asked) e.put ≡ command_of of
  one_put (asks.Put command) e a b (inl taken, same) priced = ap (map (λ (t : Taken). t.asked)) taken.once ∙ ap (λ x. x ∷ []) taken.same
  one_put (asks.Put command) e a b (inr refused, same) priced = absurd (not_priced _ (subst (λ (x : Event). IsPriced x.reply) refused.told priced))
  one_put (asks.Close day) e a b closed priced = absurd closed.close.closes
  one_put asks.Quit e a b is priced = absurd (bye_not_priced (subst (λ (x : Event). IsPriced x.reply) is.0 priced))
  one_put (asks.No why) e a b is priced = absurd (not_priced why (subst (λ (x : Event). IsPriced x.reply) is.0 priced))

  all_commands : (rs : List Request) (es : List Event) (a b : ⊤) → AreServed 1 Refuses Late ClosesNothing zone a rs es b → AllByRecursion (λ (e : Event). IsPriced e.reply) es → map (λ (t : Taken). t.asked) (all_put es) ≡ asked_of zone rs
  all_commands [] [] a b served priced = refl
  all_commands [] (e ∷ es) a b served priced = absurd served
  all_commands (r ∷ rs) [] a b served priced = absurd served
  all_commands (r ∷ rs) (e ∷ es) a b served priced =
      map-append (λ (t : Taken). t.asked) e.put (all_put es)
      ∙ ap (λ l. l ++ map (λ (t : Taken). t.asked) (all_put es)) (one_put (asks_of zone r) e a served.0 served.1 priced.0)
      ∙ ap (λ l. command_of (asks_of zone r) ++ l) (all_commands rs es served.0 b served.2 priced.1)

pub journal_commands : (zone : TimeZone) (editions : FareEditions) (desk : LocalParts) (requests : List Request) → HasReplayed zone editions desk requests → commands_in desk.shard.journal ≡ asked_of zone requests
journal_commands zone editions desk requests h =
    in_commands desk.shard.journal ∙ ap (map (λ (p : ℕ × Asked). p.1)) (h.accepted.0.taken ∙ ap (λ l. commands_of_items l ++ commands_of (all_put h.events)) h.no_journal)
    ∙ put_commands (all_put h.events) ∙ all_commands (MaySometimeRefuse desk_parts (desk_parts h.first).standing) (MaySometimeBeLate desk_parts (desk_parts h.first).standing) zone requests h.events tt tt h.accepted.0.served h.accepted.2
