-- What the lines of texts came to that were taken again over a desk.
use Rattle.std.proofs.Common.{◌≡◌, ◌⊎◌, inl, inr, ℕ, ◌+◌, true, false, List, [], ◌∷◌, ◌++◌, map, Option, Some, None, Result, Ok, Err, refl, sym, ap, ◌∙◌, subst, append_assoc, append-nil}
use Rattle.std.specs.Prelude.{IfSome, ⊤}
use Rattle.std.specs.List.{AllByRecursion}
use Rattle.jiff.specs.declared.tz.timezone.TimeZone.{TimeZone}
use Rattle.pay_shard.specs.Words.{DeskParts, NothingIsLost, is_priced}
use Rattle.pay_shard.specs.declared.asked.Asked.{Asked}
use Rattle.pay_shard.specs.declared.desk.DeskFault.{DeskFault}
use Rattle.pay_shard.specs.declared.reply.Answer.{Answer}
use Rattle.pay_shard.specs.declared.reply.Reply.{Reply}
use Rattle.pay_shard.specs.declared.reply.Reply.TheVariants as desk_reply
use Rattle.pay_wire.specs.declared.refusal.Refusal.{Refusal}
use Rattle.pay_wire.specs.declared.refusal.Refusal.TheVariants as refusal
use Rattle.pay_wire.specs.declared.reply.SpelledReply.{SpelledReply}
use Rattle.pay_wire.specs.declared.reply.SpelledReply.TheVariants as replies
use Rattle.pay_session.specs.Words.{line_requests, asks_of, Event, said, all_put, IsReplied, IsTaken, IsServedAs, AreServed}
use Rattle.pay_till.specs.Words.{Taken, commands_of, IsAnswerTo, AreAnswered, MaySometimeRefuse, MaySometimeBeLate}
use Rattle.pay_rules.specs.InTurn.{IsIn}
use Rattle.pay_journal.specs.Words.{is_barred, IsPriced, ClosesNothing}
use Rattle.pay_journal_laws.specs.Texts.{requests_in, asked_in, put_by, Puts}
use Rattle.pay_session.specs.declared.asks.Asks.{Asks}
use Rattle.pay_session.specs.declared.asks.Asks.TheVariants as asks
use Rattle.pay_session.specs.declared.request.Request.{Request}
use Rattle.pay_journal_laws.proofs.KeptAgain.{in_front, in_back, in_either}
use Rattle.pay_serve.specs.Journals.{AreTakenAgain, journal_fault}
use Rattle.pay_serve.specs.declared.fault.ServeFault.{ServeFault}

-- ---- replies

-- what is said of a desk's reply is prices where that is
said_priced : (reply : Reply) (line : SpelledReply) → line ≡ said reply → IsPriced line → is_priced reply ≡ true
said_priced (desk_reply.Priced priced) line is prices = refl
said_priced (desk_reply.No why) line is prices = let e = prices.1 in absurd (cc)
said_priced (desk_reply.Due quote) line is prices = let e = prices.1 in absurd (cc)
said_priced (desk_reply.Shown shown) line is prices = let e = prices.1 in absurd (cc)
said_priced (desk_reply.Quotes batch) line is prices = let e = prices.1 in absurd (cc)
said_priced desk_reply.Memory line is prices = let e = prices.1 in absurd (cc)

refused_unpriced : (why : Refusal) (line : SpelledReply) → line ≡ replies.No why → IsPriced line → ⊥
refused_unpriced why line is prices = let e = prices.1 in cc

-- a command was put to a desk, which answered it by prices
pub record IsPutPriced (transcript : ℕ → Option Answer) (a : Asked) : Type 0 where
  pub ticket : ℕ
  pub answer : Answer
  pub stands : transcript ticket ≡ Some answer
  pub command : answer.command ≡ a
  pub priced : is_priced answer.reply ≡ true

all_after : {X : Type 0} (P : X → Type 0) (xs ys : List X) → AllByRecursion P (xs ++ ys) → AllByRecursion P ys
all_after P [] ys all = all
all_after P (x ∷ xs) ys all = all_after P xs ys all.1

map_both : {X Y : Type 0} (f : X → Y) (xs ys : List X) → map f (xs ++ ys) ≡ map f xs ++ map f ys
map_both f [] ys = refl
map_both f (x ∷ xs) ys = ap (λ l. f x ∷ l) (map_both f xs ys)

asked_both : (zone : TimeZone) (rs qs : List Request) → asked_in zone (rs ++ qs) ≡ asked_in zone rs ++ asked_in zone qs
asked_both zone [] qs = refl
asked_both zone (r ∷ rs) qs = ap (λ l. put_by (asks_of zone r) ++ l) (asked_both zone rs qs) ∙ sym (append_assoc (put_by (asks_of zone r)) (asked_in zone rs) (asked_in zone qs))

-- the commands alone
abbrev commands : List (ℕ × Asked) → List Asked
commands list = map (λ (c : ℕ × Asked). c.1) list

abbrev asked_of : List Taken → List Asked
asked_of put = map (λ (t : Taken). t.asked) put

same_commands : (put : List Taken) → commands (commands_of put) ≡ asked_of put
same_commands [] = refl
same_commands (t ∷ put) = ap (λ l. t.asked ∷ l) (same_commands put)

-- ---- one event

module _ (of : ℕ) (Refuses : DeskFault → Type 0) (Late : Type 0) where
  -- the answer to a command that was taken
  by_answer : (transcript : ℕ → Option Answer) (a : Asked) (e : Event) (t : Taken) (o : Option Answer) → t.asked ≡ a → IsPriced e.reply → IsReplied Refuses Late o e.reply → IfSome o (IsAnswerTo transcript t)
      → IsPutPriced transcript a
  by_answer transcript a e t (Some answer) same prices replied its =
      record { ticket = t.ticket; answer = answer; stands = its.0; command = its.2 ∙ same; priced = said_priced answer.reply e.reply replied prices }
  by_answer transcript a e t None same prices replied its = absurd (refused_unpriced refusal.Late e.reply replied.0 prices)

  by_taken : (transcript : ℕ → Option Answer) (a : Asked) (e : Event) (more : List Taken) → IsTaken Refuses Late a e → IsPriced e.reply → AreAnswered transcript (e.put ++ more) → IsPutPriced transcript a
  by_taken transcript a e more is prices said =
      let own : AreAnswered transcript ((is.taken ∷ []) ++ more) = subst (λ put. AreAnswered transcript (put ++ more)) is.once said in
      by_answer transcript a e is.taken is.taken.answer is.same prices is.replied own.0

  -- what an event of a request that is not barred says, where it was answered by prices
  priced_event : (transcript : ℕ → Option Answer) (asked : Asks) (e : Event) (more : List Taken) (x y : ⊤) → IsServedAs of Refuses Late ClosesNothing asked e x y → is_barred asked ≡ false → IsPriced e.reply
      → AreAnswered transcript (e.put ++ more) → (a : Asked) × (asked ≡ asks.Put a) × IsPutPriced transcript a
  priced_event transcript (asks.Put a) e more x y served allowed prices said = elim served.0 [
    | inl taken ↦ (a, refl, by_taken transcript a e more taken prices said)
    | inr refused ↦ absurd (refused_unpriced _ e.reply (ap (λ (x : Event). x.reply) refused.told) prices)
  ]
  priced_event transcript (asks.Close day) e more x y served allowed prices said = absurd (cc)
  priced_event transcript asks.Quit e more x y served allowed prices said = absurd (cc)
  priced_event transcript (asks.No why) e more x y served allowed prices said = absurd (refused_unpriced why e.reply (ap (λ (x : Event). x.reply) served.0) prices)

  -- a command that was taken for a request that is not barred is what the request puts
  taken_event : (asked : Asks) (e : Event) (t : Taken) (x y : ⊤) → IsServedAs of Refuses Late ClosesNothing asked e x y → is_barred asked ≡ false → IsIn e.put t → asked ≡ asks.Put t.asked
  taken_event (asks.Put a) e t x y served allowed has = elim served.0 [
    | inl taken ↦
        let is : (taken.taken ≡ t) ⊎ IsIn [] t = subst (λ put. IsIn put t) taken.once has in
        elim is [ inl one ↦ ap asks.Put (sym taken.same ∙ ap (λ (x : Taken). x.asked) one) | inr none ↦ absurd none ]
    | inr refused ↦ absurd (subst (λ (x : Event). IsIn x.put t) refused.told has)
  ]
  taken_event (asks.Close day) e t x y served allowed has = absurd (cc)
  taken_event asks.Quit e t x y served allowed has = absurd (cc)
  taken_event (asks.No why) e t x y served allowed has = absurd (subst (λ (x : Event). IsIn x.put t) served.0 has)

  -- an event that was answered by prices has put just what its request puts
  put_event : (asked : Asks) (e : Event) (x y : ⊤) → IsServedAs of Refuses Late ClosesNothing asked e x y → is_barred asked ≡ false → IsPriced e.reply → asked_of e.put ≡ put_by asked
  put_event (asks.Put a) e x y served allowed prices = elim served.0 [
    | inl taken ↦ ap asked_of taken.once ∙ ap (λ b. b ∷ []) taken.same
    | inr refused ↦ absurd (refused_unpriced _ e.reply (ap (λ (x : Event). x.reply) refused.told) prices)
  ]
  put_event (asks.Close day) e x y served allowed prices = absurd (cc)
  put_event asks.Quit e x y served allowed prices = absurd (cc)
  put_event (asks.No why) e x y served allowed prices = absurd (refused_unpriced why e.reply (ap (λ (x : Event). x.reply) served.0) prices)

  -- ---- all of a text

  module _ (zone : TimeZone) where
    priced_requests : (transcript : ℕ → Option Answer) (rs : List Request) (es : List Event) (x y : ⊤) → AreServed of Refuses Late ClosesNothing zone x rs es y → AllByRecursion (λ (q : Request). is_barred (asks_of zone q) ≡ false) rs
        → AllByRecursion (λ (e : Event). IsPriced e.reply) es → AreAnswered transcript (all_put es) → (r : Request) → IsIn rs r → (a : Asked) × Puts zone r a × IsPutPriced transcript a
    priced_requests transcript [] es x y served allowed prices said r has = absurd has
    priced_requests transcript (q ∷ rs) [] x y served allowed prices said r has = absurd served
    priced_requests transcript (q ∷ rs) (e ∷ es) x y served allowed prices said r (inl is) =
        let it = priced_event transcript (asks_of zone q) e (all_put es) x served.0 served.1 allowed.0 prices.0 said in
        (it.0, ap (asks_of zone) (sym is) ∙ it.1, it.2)
    priced_requests transcript (q ∷ rs) (e ∷ es) x y served allowed prices said r (inr later) =
        priced_requests transcript rs es served.0 y served.2 allowed.1 prices.1 (all_after (λ (t : Taken). IfSome t.answer (IsAnswerTo transcript t)) e.put (all_put es) said) r later

    taken_requests : (rs : List Request) (es : List Event) (x y : ⊤) → AreServed of Refuses Late ClosesNothing zone x rs es y → AllByRecursion (λ (q : Request). is_barred (asks_of zone q) ≡ false) rs
        → (t : Taken) → IsIn (all_put es) t → (r : Request) × IsIn rs r × Puts zone r t.asked
    taken_requests [] [] x y served allowed t has = absurd has
    taken_requests [] (e ∷ es) x y served allowed t has = absurd served
    taken_requests (q ∷ rs) [] x y served allowed t has = absurd has
    taken_requests (q ∷ rs) (e ∷ es) x y served allowed t has = elim (in_either e.put (all_put es) t has) [
      | inl here ↦ (q, inl refl, taken_event (asks_of zone q) e t x served.0 served.1 allowed.0 here)
      | inr later ↦ let it = taken_requests rs es served.0 y served.2 allowed.1 t later in (it.0, inr it.1, it.2)
    ]

    put_requests : (rs : List Request) (es : List Event) (x y : ⊤) → AreServed of Refuses Late ClosesNothing zone x rs es y → AllByRecursion (λ (q : Request). is_barred (asks_of zone q) ≡ false) rs
        → AllByRecursion (λ (e : Event). IsPriced e.reply) es → asked_of (all_put es) ≡ asked_in zone rs
    put_requests [] [] x y served allowed prices = refl
    put_requests [] (e ∷ es) x y served allowed prices = absurd served
    put_requests (q ∷ rs) [] x y served allowed prices = absurd served
    put_requests (q ∷ rs) (e ∷ es) x y served allowed prices =
        let here = put_event (asks_of zone q) e x served.0 served.1 allowed.0 prices.0 in
        let later = put_requests rs es served.0 y served.2 allowed.1 prices.1 in
        map_both (λ (t : Taken). t.asked) e.put (all_put es) ∙ (λ i. here i ++ later i)

-- ---- texts

commands_in : (put : List Taken) (c : ℕ × Asked) → IsIn (commands_of put) c → (t : Taken) × IsIn put t × (t.asked ≡ c.1)
commands_in [] c has = absurd has
commands_in (t ∷ put) c (inl is) = (t, inl refl, ap (λ (x : ℕ × Asked). x.1) is)
commands_in (t ∷ put) c (inr later) = let it = commands_in put c later in (it.0, inr it.1, it.2)

not_taken : {P : Type 0} (journal : ℕ) (fault : ServeFault) → ◌≡◌ {A = Result ⊤ ServeFault} (Ok tt) (Err fault) → P
not_taken journal fault e = absurd (cc)

module _ {D O : Type 0} (zone : TimeZone) (parts : D → DeskParts O) where
  -- no answer was lost
  pub still_answered : (journal : ℕ) (texts : List (List ℕ)) (before after : D) → AreTakenAgain zone parts journal texts (before, after) (Ok tt) → NothingIsLost (parts before).transcript (parts after).transcript
  still_answered journal [] before after same = λ ticket answer stands. subst (λ d. (parts d).transcript ticket ≡ Some answer) (sym same) stands
  still_answered journal (text ∷ texts) before after (inl (between, it, replayed, kept, later)) = λ ticket answer stands. still_answered (journal + 1) texts between after later ticket answer (kept ticket answer stands)
  still_answered journal (text ∷ texts) before after (inr (why, ended, same)) = not_taken journal (journal_fault journal why) same

  -- each line was put, and answered by prices
  pub put_priced : (journal : ℕ) (texts : List (List ℕ)) (before after : D) → AreTakenAgain zone parts journal texts (before, after) (Ok tt) → (r : Request) → IsIn (requests_in texts) r
      → (a : Asked) × Puts zone r a × IsPutPriced (parts after).transcript a
  put_priced journal [] before after same r has = absurd has
  put_priced journal (text ∷ texts) before after (inl (between, it, replayed, kept, later)) r has = elim (in_either (line_requests text) (requests_in texts) r has) [
    | inl here ↦
        let session = replayed.accepted.0 in
        let s = (parts before).standing in
        let found = priced_requests s.shards (MaySometimeRefuse parts s) (MaySometimeBeLate parts s) zone (parts between).transcript (line_requests text) replayed.events tt tt session.served replayed.accepted.1 replayed.accepted.2 session.said r here in
        let put = found.2 in (
          found.0,
          found.1,
          record {
            ticket = put.ticket;
            answer = put.answer;
            stands = still_answered (journal + 1) texts between after later put.ticket put.answer put.stands;
            command = put.command;
            priced = put.priced;
          },
        )
    | inr beyond ↦ put_priced (journal + 1) texts between after later r beyond
  ]
  put_priced journal (text ∷ texts) before after (inr (why, ended, same)) r has = not_taken journal (journal_fault journal why) same

  -- and the desk took nothing else
  pub asked_by_line : (journal : ℕ) (texts : List (List ℕ)) (before after : D) → AreTakenAgain zone parts journal texts (before, after) (Ok tt) → (c : ℕ × Asked) → IsIn (parts after).taken c
      → IsIn (parts before).taken c ⊎ ((r : Request) × IsIn (requests_in texts) r × Puts zone r c.1)
  asked_by_line journal [] before after same c has = inl (subst (λ d. IsIn (parts d).taken c) same has)
  asked_by_line journal (text ∷ texts) before after (inl (between, it, replayed, kept, later)) c has = elim (asked_by_line (journal + 1) texts between after later c has) [
    | inl was ↦
        let session = replayed.accepted.0 in
        let s = (parts before).standing in
        elim (in_either (parts before).taken (commands_of (all_put replayed.events)) c (subst (λ l. IsIn l c) session.taken was)) [
          | inl first ↦ inl first
          | inr here ↦
              let t = commands_in (all_put replayed.events) c here in
              let found = taken_requests s.shards (MaySometimeRefuse parts s) (MaySometimeBeLate parts s) zone (line_requests text) replayed.events tt tt session.served replayed.accepted.1 t.0 t.1 in
              inr (found.0, in_front (line_requests text) (requests_in texts) found.0 found.1, subst (λ a. Puts zone found.0 a) t.2 found.2)
        ]
    | inr beyond ↦ inr (beyond.0, in_back (line_requests text) (requests_in texts) beyond.0 beyond.1, beyond.2)
  ]
  asked_by_line journal (text ∷ texts) before after (inr (why, ended, same)) c has = not_taken journal (journal_fault journal why) same

  -- in order, and each once
  pub asked_exactly : (journal : ℕ) (texts : List (List ℕ)) (before after : D) → AreTakenAgain zone parts journal texts (before, after) (Ok tt)
      → commands (parts after).taken ≡ commands (parts before).taken ++ asked_in zone (requests_in texts)
  asked_exactly journal [] before after same = ap (λ d. commands (parts d).taken) same ∙ sym (append-nil (commands (parts before).taken))
  asked_exactly journal (text ∷ texts) before after (inl (between, it, replayed, kept, later)) =
      let session = replayed.accepted.0 in
      let s = (parts before).standing in
      let put = put_requests s.shards (MaySometimeRefuse parts s) (MaySometimeBeLate parts s) zone (line_requests text) replayed.events tt tt session.served replayed.accepted.1 replayed.accepted.2 in
      let first = commands (parts before).taken in
      let here = ap commands session.taken ∙ (map_both (λ (c : ℕ × Asked). c.1) (parts before).taken (commands_of (all_put replayed.events)) ∙ ap (λ l. first ++ l) (same_commands (all_put replayed.events) ∙ put)) in
      asked_exactly (journal + 1) texts between after later
      ∙ (ap (λ l. l ++ asked_in zone (requests_in texts)) here
      ∙ (append_assoc first (asked_in zone (line_requests text)) (asked_in zone (requests_in texts)) ∙ ap (λ l. first ++ l) (sym (asked_both zone (line_requests text) (requests_in texts)))))
  asked_exactly journal (text ∷ texts) before after (inr (why, ended, same)) = not_taken journal (journal_fault journal why) same
