-- What came of one request over a desk of one shard and a till is a step of the machine.
use Rattle.std.proofs.Common.{◌≡◌, ◌⊎◌, ℕ, Bool, true, false, List, [], ◌∷◌, ◌++◌, length, if◌then◌else◌, refl, sym, ap, ◌∙◌, subst, append-nil, zero-add, inl, inr, arith, Option, Some, None, IfSome}
use Rattle.std.specs.Prelude.{Result, IfNone, IsSomeAnd}
use Rattle.std.specs.List.{slice_get, AllByRecursion}
use Rattle.std.specs.Option.{option_map}
use Rattle.jiff.specs.declared.tz.timezone.TimeZone.{TimeZone}
use Rattle.pay_rules.specs.declared.posting.Posting.{Posting}
use Rattle.pay_postings.specs.Words.{LedgerParts}
use Rattle.pay_tables.specs.Words.{FareEditions}
use Rattle.pay_shard.specs.declared.asked.Asked.{Asked}
use Rattle.pay_shard.specs.declared.asked.Asked.TheVariants as asked
use Rattle.pay_shard.specs.declared.desk.DeskFault.{DeskFault}
use Rattle.pay_shard.specs.declared.desk.DeskFault.TheVariants as desk_fault
use Rattle.pay_shard.specs.declared.item.Item.{Item}
use Rattle.pay_shard.specs.declared.reply.Answer.{Answer}
use Rattle.pay_shard.specs.declared.reply.Reply.{Reply}
use Rattle.pay_shard.specs.declared.reply.Reply.TheVariants as desk_reply
use Rattle.pay_rules.specs.State.{State}
use Rattle.pay_shard.specs.Words.{batch, item_step, is_new as is_shard_new, new_items, replay, answers, AreInPlace, commands_of as commands_of_items}
use Rattle.pay_wire.specs.declared.refusal.Refusal.TheVariants as refusal
use Rattle.pay_wire.specs.declared.reply.SpelledReply.{SpelledReply}
use Rattle.pay_wire.specs.declared.reply.SpelledReply.TheVariants as replies
use Rattle.pay_session.specs.Words.{Event, said, refusal_of_desk, IsReplied, IsTaken, IsRefused, IsTillClosed, IsServedAs}
use Rattle.pay_till.specs.Words.{Taken, commands_of, IsAnswerTo, AreAnswered, AreQuotes, AreInTime}
use Rattle.pay_journal.specs.Words.{line_of, lines_of_items}
use Rattle.pay_session.specs.declared.asks.Asks.{Asks}
use Rattle.pay_session.specs.declared.asks.Asks.TheVariants as asks
use Rattle.pay_wire.specs.declared.refusal.Refusal.{Refusal}
use Rattle.pay_run.specs.Machine.{Machine, Failure, Memory, Keeping, is_keeping, refusal_of_command, Step, step_asks, with_ledger}
use Rattle.pay_run.specs.Journals.{is_new}
use Rattle.pay_run.specs.Outcomes.{tells_failure}
use Rattle.pay_run.proofs.Journals.{replay_after, reply_after, ticket_after}
use Rattle.pay_run.proofs.NewRequests.{said_new}
use Rattle.pay_run.proofs.Tills.{IsOfMachine, IsPlain}

-- the machine where a journal has come to, with its ledger
abbrev pub machine_at : TimeZone → FareEditions → State → List Item → Option LedgerParts → Machine
machine_at zone editions base items ledger = record { zone = zone; editions = editions; accounts = replay editions base items; ledger = ledger }

-- the line of what a request comes to, if it is a command of a desk that has one
abbrev pub line_of_asks : Asks → List ℕ
line_of_asks (asks.Put a) = line_of a
line_of_asks _ = []

-- the line that is kept of a request, by its reply
abbrev pub line_kept : Asks → SpelledReply → List ℕ
line_kept a reply = if is_new reply then line_of_asks a else []

-- the lines of items that are newly accepted after a front
abbrev pub lines_new : FareEditions → State → List Item → List ℕ
lines_new editions state items = lines_of_items (new_items editions state items)

-- The request was answered as the machine does; these items of the journal are its own, and these are left. Its line is kept if it is
-- newly accepted.
pub record StepsTo (zone : TimeZone) (editions : FareEditions) (base : State) (front back : List Item) (ledger : Option LedgerParts) (a : Asks) (event : Event) (later : List (ℕ × Asked)) (Fails : Type 0) (Holds : Option LedgerParts → Type 0) : Type 0 where
  pub mark : Option Failure
  pub own : List Item
  pub rest : List Item
  pub parts : back ≡ own ++ rest
  pub commands : commands_of_items rest ≡ later
  pub ledger_after : Option LedgerParts
  pub step : step_asks mark (machine_at zone editions base front ledger) a ≡ record { reply = event.reply; after = machine_at zone editions base (front ++ own) ledger_after }
  pub ample : tells_failure event.reply ≡ false → mark ≡ None
  pub kept : (Fails → ⊥) → is_keeping mark ≡ false
  pub lines : lines_new editions (replay editions base front) own ≡ line_kept a event.reply
  pub holds : Holds ledger_after

-- no line is kept of what has none
none_kept : (b : Bool) → ◌≡◌ {A = List ℕ} [] (if b then [] else [])
none_kept true = refl
none_kept false = refl

-- the line of one item, if it is newly accepted
one_kept : (b : Bool) (item : Item) (a : Asked) → item.entry.command ≡ a → lines_of_items (if b then item ∷ [] else []) ≡ (if b then line_of a else [])
one_kept true item a is = append-nil (line_of item.entry.command) ∙ ap line_of is
one_kept false item a is = refl

-- what failed for an item, by whether it has a mark
abbrev mark_of : Bool → Option Failure
mark_of true = Some Memory
mark_of false = None

never_keeping : (b : Bool) → is_keeping (mark_of b) ≡ false
never_keeping true = refl
never_keeping false = refl

-- an item as one that has its command and its mark
item_steps : (zone : TimeZone) (editions : FareEditions) (base : State) (front : List Item) (ledger : Option LedgerParts) (item : Item) (a : Asked) → item.entry.command ≡ a
    → step_asks (mark_of item.refused_memory) (machine_at zone editions base front ledger) (asks.Put a) ≡ record { reply = said (item_step editions (replay editions base front) item).reply; after = machine_at zone editions base (front ++ item ∷ []) ledger }
item_steps zone editions base front ledger item a is =
    subst (λ (b : Asked). step_asks (mark_of item.refused_memory) (machine_at zone editions base front ledger) (asks.Put b) ≡ ended) is
    (marked item.refused_memory refl ∙ ap (λ (s : State). record { reply = said (item_step editions (replay editions base front) item).reply; after = record { zone = zone; editions = editions; accounts = s; ledger = ledger } }) (sym (replay_after editions base front (item ∷ []))))
  where
    ended : Step
    ended = record { reply = said (item_step editions (replay editions base front) item).reply; after = machine_at zone editions base (front ++ item ∷ []) ledger }

    marked : (b : Bool) → item.refused_memory ≡ b
        → step_asks (mark_of item.refused_memory) (machine_at zone editions base front ledger) (asks.Put item.entry.command)
        ≡ record { reply = said (item_step editions (replay editions base front) item).reply; after = record { zone = zone; editions = editions; accounts = (item_step editions (replay editions base front) item).after; ledger = ledger } }
    marked true e = rw e refl
    marked false e = rw e refl

true_false : true ≡ false → ⊥
true_false e = cc

-- a marked item is replied to by want of memory
marked_lacks : (editions : FareEditions) (state : State) (item : Item) → tells_failure (said (item_step editions state item).reply) ≡ false → mark_of item.refused_memory ≡ None
marked_lacks editions state item ample = known item.refused_memory refl
  where
    known : (b : Bool) → item.refused_memory ≡ b → mark_of item.refused_memory ≡ None
    known false e = ap mark_of e
    known true e = absurd (true_false (subst (λ b. tells_failure (said (item_step editions state (record { entry = item.entry; refused_memory = b })).reply) ≡ false) e ample))

-- a list whose commands begin with one has a first item of it
record First (back : List Item) (taken : Taken) (later : List (ℕ × Asked)) : Type 0 where
  item : Item
  rest : List Item
  parts : back ≡ item ∷ rest
  ticket : item.entry.ticket ≡ taken.ticket
  command : item.entry.command ≡ taken.asked
  commands : commands_of_items rest ≡ later

first_of : (back : List Item) (taken : Taken) (later : List (ℕ × Asked)) → commands_of_items back ≡ (taken.ticket, taken.asked) ∷ later → First back taken later
first_of [] taken later e = absurd (none e)
  where
    none : ◌≡◌ {A = List (ℕ × Asked)} [] ((taken.ticket, taken.asked) ∷ later) → ⊥
    none e = cc
first_of (item ∷ rest) taken later e =
    let both : (item.entry.ticket, item.entry.command) ≡ (taken.ticket, taken.asked) = heads _ _ _ _ e in
    record { item = item; rest = rest; parts = refl; ticket = ap (λ p. p.0) both; command = ap (λ p. p.1) both; commands = tails _ _ _ _ e }
  where
    heads : (x y : ℕ × Asked) (xs ys : List (ℕ × Asked)) → x ∷ xs ≡ y ∷ ys → x ≡ y
    heads x y xs ys e = cc

    tails : (x y : ℕ × Asked) (xs ys : List (ℕ × Asked)) → x ∷ xs ≡ y ∷ ys → xs ≡ ys
    tails x y xs ys e = cc

-- the answers of a shard's journal, by their places
abbrev pub transcript : ℕ → FareEditions → State → List Item → ℕ → Option Answer
transcript number editions base journal place = slice_get (answers number editions base journal) place

some_is : (x y : Reply) → ◌≡◌ {A = Option Reply} (Some x) (Some y) → x ≡ y
some_is x y e = cc

-- the reply that was said is the transcript's
replied : (Refuses : DeskFault → Type 0) (Late : Type 0) → (Late → ⊥) → (transcript_of : ℕ → Option Answer) (t : Taken) (o : Option Answer) (line : SpelledReply) (reply : Reply)
    → IsReplied Refuses Late o line → IfSome o (IsAnswerTo transcript_of t) → option_map (λ (a : Answer). a.reply) (transcript_of t.ticket) ≡ Some reply → line ≡ said reply
replied Refuses Late never transcript_of t None line reply h i j = absurd (never h.1)
replied Refuses Late never transcript_of t (Some a) line reply h i j = h ∙ ap said (some_is a.reply reply (sym (ap (option_map (λ (a : Answer). a.reply)) i.0) ∙ j))

-- ---- what a desk took

-- With a journal, each of whose entries is at its ticket, as a front and what is after it.
module _ (number : ℕ) (zone : TimeZone) (editions : FareEditions) (base : State) (front back journal : List Item) (placed : AreInPlace 0 journal) (whole : journal ≡ front ++ back) where
  -- The first item after the front is what was taken, and the transcript has the machine's reply to it.
  record IsNext (taken : Taken) (later : List (ℕ × Asked)) : Type 0 where
    next : First back taken later
    there : option_map (λ (a : Answer). a.reply) (transcript number editions base journal taken.ticket) ≡ Some (item_step editions (replay editions base front) next.item).reply

  next_of : (taken : Taken) (later : List (ℕ × Asked)) → commands_of_items back ≡ (taken.ticket, taken.asked) ∷ later → IsNext taken later
  next_of taken later commands =
      let f = first_of back taken later commands in
      let parts : journal ≡ front ++ f.item ∷ f.rest = whole ∙ ap (λ l. front ++ l) f.parts in
      let place : taken.ticket ≡ length front = sym f.ticket ∙ ticket_after 0 front f.item f.rest (subst (AreInPlace 0) parts placed) ∙ zero-add _ in
      record {
        next = f;
        there = ap (λ n. option_map (λ (a : Answer). a.reply) (transcript number editions base journal n)) place ∙ ap (λ l. option_map (λ (a : Answer). a.reply) (transcript number editions base l (length front))) parts
            ∙ reply_after number 0 editions base front f.item f.rest;
      }

  -- the desk took the command
  taken_steps : (ledger : Option LedgerParts) (a : Asked) (event : Event) (later : List (ℕ × Asked)) (Fails : Type 0) (Holds : Option LedgerParts → Type 0) (Refuses : DeskFault → Type 0) (Late : Type 0) (never : Late → ⊥)
      → IsTaken Refuses Late a event → commands_of_items back ≡ commands_of event.put ++ later
      → AreAnswered (transcript number editions base journal) event.put → Holds ledger → StepsTo zone editions base front back ledger (asks.Put a) event later Fails Holds
  taken_steps ledger a event later Fails Holds Refuses Late never is commands said_so holds =
      let taken = is.taken in
      let n = next_of taken later (commands ∙ ap (λ p. commands_of p ++ later) is.once) in
      let f = n.next in
      let one : AreAnswered (transcript number editions base journal) (taken ∷ []) = subst (AreAnswered (transcript number editions base journal)) is.once said_so in
      let told : event.reply ≡ said (item_step editions (replay editions base front) f.item).reply = replied Refuses Late never (transcript number editions base journal) taken taken.answer event.reply _ is.replied one.0 n.there in
      record {
        mark = mark_of f.item.refused_memory;
        own = f.item ∷ [];
        rest = f.rest;
        parts = f.parts;
        commands = f.commands;
        ledger_after = ledger;
        step = item_steps zone editions base front ledger f.item a (f.command ∙ is.same) ∙ ap (λ (r : SpelledReply). record { reply = r; after = machine_at zone editions base (front ++ f.item ∷ []) ledger }) (sym told);
        ample = λ e. marked_lacks editions (replay editions base front) f.item (ap tells_failure (sym told) ∙ e);
        kept = λ _. never_keeping f.item.refused_memory;
        lines = one_kept (is_shard_new (item_step editions (replay editions base front) f.item).reply) f.item a (f.command ∙ is.same)
            ∙ ap (λ b. if b then line_of a else []) (sym (ap is_new told ∙ said_new (item_step editions (replay editions base front) f.item).reply));
        holds = holds;
      }

  -- ---- what was put for a close

  -- These items of the journal are the close's, which change no account, and these are left; the answers are the machine's.
  record IsPutForClose (day : ℕ) (put : List Taken) (later : List (ℕ × Asked)) : Type 0 where
    own : List Item
    rest : List Item
    parts : back ≡ own ++ rest
    commands : commands_of_items rest ≡ later
    same : replay editions base (front ++ own) ≡ replay editions base front
    none_new : lines_new editions (replay editions base front) own ≡ []
    answers_are : AllByRecursion (IsOfMachine editions (replay editions base front) day) put

  -- an item that asks for quotes is answered by them, or by want of memory, and changes no account
  abbrev GivesQuotes : State → ℕ → Item → Type 0
  GivesQuotes state day i = ((item_step editions state i).after ≡ state) × (((item_step editions state i).reply ≡ desk_reply.Quotes (batch editions state day 0 1)) ⊎ ((item_step editions state i).reply ≡ desk_reply.Memory)) × (is_shard_new (item_step editions state i).reply ≡ false)

  asks_quotes : (state : State) (item : Item) (day : ℕ) → item.entry.command ≡ asked.Quotes day 0 1 → GivesQuotes state day item
  asks_quotes state item day is =
      subst (λ (a : Asked). GivesQuotes state day (record { entry = record { lane = item.entry.lane; ticket = item.entry.ticket; command = a }; refused_memory = item.refused_memory })) (sym is)
      (by item.refused_memory)
    where
      by : (b : Bool) → GivesQuotes state day (record { entry = record { lane = item.entry.lane; ticket = item.entry.ticket; command = asked.Quotes day 0 1 }; refused_memory = b })
      by true = (refl, inr refl, refl)
      by false = (refl, inl refl, refl)

  -- the answer that came is the machine's
  answered_so : (Late : Type 0) → (Late → ⊥) → (transcript_of : ℕ → Option Answer) (t : Taken) (o : Option Answer) (reply : Reply) (P : Reply → Type 0) → IfNone o Late → IfSome o (IsAnswerTo transcript_of t)
      → option_map (λ (a : Answer). a.reply) (transcript_of t.ticket) ≡ Some reply → P reply → IsSomeAnd o (λ answer. P answer.reply)
  answered_so Late never transcript_of t None reply P late is there p = absurd (never late)
  answered_so Late never transcript_of t (Some a) reply P late is there p = subst P (sym (some_is a.reply reply (sym (ap (option_map (λ (a : Answer). a.reply)) is.0) ∙ there))) p

  put_for_close : (day : ℕ) (put : List Taken) (later : List (ℕ × Asked)) (Refuses : DeskFault → Type 0) (Late : Type 0) → (Late → ⊥) → AreQuotes day 1 0 put → AreInTime Refuses Late put
      → commands_of_items back ≡ commands_of put ++ later → AreAnswered (transcript number editions base journal) put → IsPutForClose day put later
  put_for_close day [] later Refuses Late never quotes in_time commands said_so = record {
    own = [];
    rest = back;
    parts = refl;
    commands = commands;
    same = ap (replay editions base) (append-nil front);
    none_new = refl;
    answers_are = tt;
  }
  put_for_close day (t ∷ []) later Refuses Late never quotes in_time commands said_so =
      let n = next_of t later commands in
      let f = n.next in
      let state = replay editions base front in
      let does = asks_quotes state f.item day (f.command ∙ quotes.1) in
      record {
        own = f.item ∷ [];
        rest = f.rest;
        parts = f.parts;
        commands = f.commands;
        same = replay_after editions base front (f.item ∷ []) ∙ does.0;
        none_new = ap (λ b. lines_of_items (if b then f.item ∷ [] else [])) does.2;
        answers_are = (answered_so Late never (transcript number editions base journal) t t.answer _ (λ (r : Reply). (r ≡ desk_reply.Quotes (batch editions state day 0 1)) ⊎ (r ≡ desk_reply.Memory)) in_time.0 said_so.0 n.there does.1, tt);
      }
  put_for_close day (t ∷ u ∷ ts) later Refuses Late never quotes in_time commands said_so = absurd (omega (arith, quotes.2.0))

-- ---- what was not taken

-- what was not taken leaves the journal as it is
nothing_taken : (zone : TimeZone) (editions : FareEditions) (base : State) (front back : List Item) (ledger : Option LedgerParts) (a : Asks) (event : Event) (later : List (ℕ × Asked)) (Fails : Type 0) (Holds : Option LedgerParts → Type 0) (mark : Option Failure)
    → event.put ≡ [] → commands_of_items back ≡ commands_of event.put ++ later
    → step_asks mark (machine_at zone editions base front ledger) a ≡ record { reply = event.reply; after = machine_at zone editions base front ledger } → (tells_failure event.reply ≡ false → mark ≡ None) → ((Fails → ⊥) → is_keeping mark ≡ false)
    → [] ≡ line_kept a event.reply → Holds ledger → StepsTo zone editions base front back ledger a event later Fails Holds
nothing_taken zone editions base front back ledger a event later Fails Holds mark none commands step ample kept lines holds = record {
  mark = mark;
  own = [];
  rest = back;
  parts = refl;
  commands = commands ∙ ap (λ p. commands_of p ++ later) none;
  ledger_after = ledger;
  step = step ∙ ap (λ l. record { reply = event.reply; after = machine_at zone editions base l ledger }) (sym (append-nil front));
  ample = ample;
  kept = kept;
  lines = lines;
  holds = holds;
}

-- a refusal of the desk, by what failed
module _ (zone : TimeZone) (editions : FareEditions) (base : State) (front back : List Item) (ledger : Option LedgerParts) (a : Asked) (event : Event) (later : List (ℕ × Asked)) (Fails : Type 0) (Holds : Option LedgerParts → Type 0) (commands : commands_of_items back ≡ commands_of event.put ++ later) (holds : Holds ledger) where
  refused_by : (fault : DeskFault) (failure : Failure) → refusal_of_desk fault ≡ refusal_of_command failure → tells_failure (replies.No (refusal_of_desk fault)) ≡ true → ((Fails → ⊥) → is_keeping (Some failure) ≡ false)
      → event ≡ record { reply = replies.No (refusal_of_desk fault); put = [] } → StepsTo zone editions base front back ledger (asks.Put a) event later Fails Holds
  refused_by fault failure same shows kept told =
      let reply : event.reply ≡ replies.No (refusal_of_desk fault) = ap (λ (e : Event). e.reply) told in
      nothing_taken zone editions base front back ledger (asks.Put a) event later Fails Holds (Some failure) (ap (λ (e : Event). e.put) told) commands
      (ap (λ (r : SpelledReply). record { reply = r; after = machine_at zone editions base front ledger }) (ap replies.No (sym same) ∙ sym reply))
      (λ e. absurd (true_false (sym shows ∙ ap tells_failure (sym reply) ∙ e))) kept (ap (line_kept (asks.Put a)) (sym reply)) holds

  -- the desk refused the command
  refused_steps : (Refuses : DeskFault → Type 0) (Late : Type 0) → ((fault : DeskFault) → Refuses fault → (fault ≡ desk_fault.Memory) ⊎ ((fault ≡ desk_fault.NotKept) × Fails))
      → IsRefused Refuses Late event → StepsTo zone editions base front back ledger (asks.Put a) event later Fails Holds
  refused_steps Refuses Late memory is = elim (memory is.fault is.refuses) [
    | inl lacks ↦ refused_by desk_fault.Memory Memory refl refl (λ _. refl) (is.told ∙ ap (λ (f : DeskFault). record { reply = replies.No (refusal_of_desk f); put = [] }) lacks)
    | inr failed ↦ refused_by desk_fault.NotKept Keeping refl refl (λ never. absurd (never failed.1)) (is.told ∙ ap (λ (f : DeskFault). record { reply = replies.No (refusal_of_desk f); put = [] }) failed.0)
  ]

-- ---- one request

module _ {T : Type 0} (Refuses : DeskFault → Type 0) (Late Fails : Type 0) (Closes : T → ℕ → ℕ → List Taken → Result (List Posting) Refusal → T → Type 0) (Sound : T → Type 0) (MayAnswer : T → Option LedgerParts → Type 0) (plain : IsPlain Refuses Late Fails Closes Sound MayAnswer) where
  -- the till closed a day
  closed_steps : (number : ℕ) (zone : TimeZone) (editions : FareEditions) (base : State) (front back journal : List Item) (ledger : Option LedgerParts) (day : ℕ) (event : Event) (later : List (ℕ × Asked)) (before after : T)
      → AreInPlace 0 journal → journal ≡ front ++ back → IsTillClosed 1 Refuses Late Closes day event before after → commands_of_items back ≡ commands_of event.put ++ later
      → AreAnswered (transcript number editions base journal) event.put → Sound after → MayAnswer before ledger → StepsTo zone editions base front back ledger (asks.Close day) event later Fails (MayAnswer after)
  closed_steps number zone editions base front back journal ledger day event later before after placed whole is commands said_so sound tells =
      let p = put_for_close number zone editions base front back journal placed whole day event.put later Refuses Late plain.never is.close.quotes is.close.in_time commands said_so in
      let m = machine_at zone editions base front ledger in
      let c = plain.closes before after m day event.put is.result is.close.closes is.close.quotes p.answers_are sound tells in
      record {
        mark = c.mark;
        own = p.own;
        rest = p.rest;
        parts = p.parts;
        commands = p.commands;
        ledger_after = c.ledger;
        step = c.step ∙ ap (λ (r : SpelledReply). record { reply = r; after = with_ledger m c.ledger }) (sym is.told)
            ∙ ap (λ (s : State). record { reply = event.reply; after = record { zone = zone; editions = editions; accounts = s; ledger = c.ledger } }) (sym p.same);
        ample = λ e. c.ample (ap tells_failure (sym is.told) ∙ e);
        kept = λ _. c.kept;
        lines = p.none_new ∙ none_kept (is_new event.reply);
        holds = c.holds;
      }

  -- one request, by what it comes to
  pub one_steps : (number : ℕ) (zone : TimeZone) (editions : FareEditions) (base : State) (front back journal : List Item) (ledger : Option LedgerParts) (a : Asks) (event : Event) (later : List (ℕ × Asked)) (before after : T)
      → AreInPlace 0 journal → journal ≡ front ++ back → IsServedAs 1 Refuses Late Closes a event before after → commands_of_items back ≡ commands_of event.put ++ later
      → AreAnswered (transcript number editions base journal) event.put → Sound after → MayAnswer before ledger → StepsTo zone editions base front back ledger a event later Fails (MayAnswer after)
  one_steps number zone editions base front back journal ledger (asks.Put a) event later before after placed whole (inl is, same) commands said_so sound tells =
      taken_steps number zone editions base front back journal placed whole ledger a event later Fails (MayAnswer after) Refuses Late plain.never is commands said_so (subst (λ t. MayAnswer t ledger) (sym same) tells)
  one_steps number zone editions base front back journal ledger (asks.Put a) event later before after placed whole (inr is, same) commands said_so sound tells =
      refused_steps zone editions base front back ledger a event later Fails (MayAnswer after) commands (subst (λ t. MayAnswer t ledger) (sym same) tells) Refuses Late plain.memory is
  one_steps number zone editions base front back journal ledger (asks.Close day) event later before after placed whole is commands said_so sound tells =
      closed_steps number zone editions base front back journal ledger day event later before after placed whole is commands said_so sound tells
  one_steps number zone editions base front back journal ledger asks.Quit event later before after placed whole is commands said_so sound tells =
      nothing_taken zone editions base front back ledger asks.Quit event later Fails (MayAnswer after) None (ap (λ (e : Event). e.put) is.0) commands
      (ap (λ (r : SpelledReply). record { reply = r; after = machine_at zone editions base front ledger }) (ap (λ (e : Event). e.reply) (sym is.0))) (λ e. refl) (λ _. refl) (none_kept (is_new event.reply)) (subst (λ t. MayAnswer t ledger) (sym is.1) tells)
  one_steps number zone editions base front back journal ledger (asks.No why) event later before after placed whole is commands said_so sound tells =
      nothing_taken zone editions base front back ledger (asks.No why) event later Fails (MayAnswer after) None (ap (λ (e : Event). e.put) is.0) commands
      (ap (λ (r : SpelledReply). record { reply = r; after = machine_at zone editions base front ledger }) (ap (λ (e : Event). e.reply) (sym is.0))) (λ e. refl) (λ _. refl) (none_kept (is_new event.reply)) (subst (λ t. MayAnswer t ledger) (sym is.1) tells)

  -- what a till keeps could be told before a request where it can be after it
  pub was_sound : (zone : TimeZone) (a : Asks) (event : Event) (before after : T) → IsServedAs 1 Refuses Late Closes a event before after → Sound after → Sound before
  was_sound zone (asks.Put a) event before after is sound = subst Sound is.1 sound
  was_sound zone (asks.Close day) event before after is sound = plain.was_sound before after day event.put is.result is.close.closes sound
  was_sound zone asks.Quit event before after is sound = subst Sound is.1 sound
  was_sound zone (asks.No why) event before after is sound = subst Sound is.1 sound
