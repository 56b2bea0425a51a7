-- Commands that wait: an answer that came, a command that was put, a reply that was got.
use Rattle.std.proofs.Common.{◌≡◌, inl, inr, ℕ, zero, suc, ◌+◌, ◌<◌, ◌≤◌, ◌==◌, Bool, true, false, not, cond, List, [], ◌∷◌, ◌++◌, All, length, take, drop, nat_lt, Option, Some, None, refl, sym, ap, ◌∙◌, subst, append_assoc, append-nil, ltb-true, arith}
use Rattle.std.specs.List.{AllByRecursion, IsDistinct, find, position, position_or_len, remove, refill, slice_index_or, slice_set}
use Rattle.std.specs.Option.{is_none}
use Rattle.std.proofs.lemmas.Bool.{lt-ltb, eqb-true, eq-eqb}
use Rattle.std.proofs.lemmas.List.Elements.{All-head, All-tail}
use Rattle.pay_rules.specs.InTurn.{IsIn}
use Rattle.pay_shard.specs.Words.{IsNoneOf, without, command_under, IsReplyTo, NothingIsLost}
use Rattle.pay_shard.specs.declared.asked.Asked.{Asked}
use Rattle.pay_shard.specs.declared.reply.Answer.{Answer}
use Rattle.pay_shard.specs.declared.reply.Reply.{Reply}
use Rattle.pay_lanes.specs.Parts.{LaneParts, shard_of, next_above, having_asked, having_taken}
use Rattle.pay_lanes.specs.Words.{IsOwn, all_sent}
use Rattle.pay_office.specs.Waits.{commands_below, commands_sent, AreBelow, answer_to, having_taken_all, HasTaken, tickets_of, IsWaiting, AreDistinct, AreWaiting, first_of, having_answer, waiting_without, IsToldOf, IsUntoldOf}
use Rattle.pay_office.specs.declared.waiting.Waiting.{Waiting}
use Rattle.pay_office.proofs.Commands.{other, other_too, find_none, find_kept, find_passes, not_its, own_below, sent_below, below_later, commands_put, commands_later, after_all, under_kept, under_last}

-- ---- an answer came

next_grows : (next : ℕ) (a : Answer) → next ≤ next_above next a
next_grows next a = omega arith

pub same_commands : (l : LaneParts) (a : Answer) → AreBelow l.next (all_sent l.shards) → commands_sent (having_taken l a) ≡ commands_sent l
same_commands l a below = commands_later l.next (next_above l.next a) (all_sent l.shards) below (next_grows l.next a)

append_find : (test : Answer → Bool) (xs : List Answer) (a : Answer) → find test xs ≡ None → find test (xs ++ a ∷ []) ≡ find test (a ∷ [])
append_find test [] a none = refl
append_find test (x ∷ xs) a none = by (test x) (append_find test xs a) none
  where
    by : (b : Bool) → (find test xs ≡ None → find test (xs ++ a ∷ []) ≡ find test (a ∷ [])) → cond b (Some x) (find test xs) ≡ None → cond b (Some x) (find test (xs ++ a ∷ [])) ≡ find test (a ∷ [])
    by true rest none = absurd (cc)
    by false rest none = rest none

-- an answer to another ticket
answer_other : (ticket : ℕ) (got : List Answer) (a : Answer) → (a.ticket == ticket) ≡ false → answer_to ticket (got ++ a ∷ []) ≡ answer_to ticket got
answer_other ticket [] a off = ap (λ b. cond b (Some a) None) off
answer_other ticket (x ∷ got) a off = ap (λ o. cond (x.ticket == ticket) (Some x) o) (answer_other ticket got a off)

-- the first answer to a ticket
answer_first : (ticket : ℕ) (got : List Answer) (a : Answer) (o : Option Answer) → o ≡ answer_to ticket got → (a.ticket == ticket) ≡ true → Some (first_of o a) ≡ answer_to ticket (got ++ a ∷ [])
answer_first ticket got a None e its = sym (append_find (λ (x : Answer). x.ticket == ticket) got a (sym e) ∙ ap (λ b. cond b (Some a) None) its)
answer_first ticket got a (Some x) e its = sym (find_kept (λ (y : Answer). y.ticket == ticket) got (a ∷ []) x (sym e))

module _ (l : LaneParts) (a : Answer) (below : AreBelow l.next (all_sent l.shards)) where
  still : (w : Waiting) → IsWaiting l w → (w.ticket == a.ticket) ≡ false → IsWaiting (having_taken l a) w
  still w is off = record {
    given = let g = is.given in let more = next_grows l.next a in omega (arith, g, more);
    command = ap (command_under w.ticket) (same_commands l a below) ∙ is.command;
    answer = is.answer ∙ sym (answer_other w.ticket l.answers.got a (not_its w.ticket a.ticket off));
  }

  others_still : (ws : List Waiting) → AllByRecursion (IsWaiting l) ws → AllByRecursion (λ t. (t == a.ticket) ≡ false) (tickets_of ws) → AllByRecursion (IsWaiting (having_taken l a)) ws
  others_still [] all off = tt
  others_still (w ∷ ws) all off = (still w all.0 off.0, others_still ws all.1 off.1)

  answered : (w : Waiting) → IsWaiting l w → (w.ticket == a.ticket) ≡ true → IsWaiting (having_taken l a) (record { ticket = w.ticket; command = w.command; answer = Some (first_of w.answer a) })
  answered w is its = record {
    given = let g = is.given in let more = next_grows l.next a in omega (arith, g, more);
    command = ap (command_under w.ticket) (same_commands l a below) ∙ is.command;
    answer = answer_first w.ticket l.answers.got a w.answer is.answer (eq-eqb a.ticket w.ticket (sym (eqb-true w.ticket a.ticket its)));
  }

  all_answered : (ws : List Waiting) → AllByRecursion (IsWaiting l) ws → AreDistinct (tickets_of ws) → AllByRecursion (IsWaiting (having_taken l a)) (having_answer a ws)
  unfolding IsDistinct
  all_answered [] all distinct = tt
  all_answered (w ∷ ws) all distinct = by (w.ticket == a.ticket) refl (all_answered ws all.1 distinct.1)
    where
      by : (b : Bool) → (w.ticket == a.ticket) ≡ b → AllByRecursion (IsWaiting (having_taken l a)) (having_answer a ws)
          → AllByRecursion (IsWaiting (having_taken l a)) (cond b (record { ticket = w.ticket; command = w.command; answer = Some (first_of w.answer a) } ∷ ws) (w ∷ having_answer a ws))
      by true its rest = (answered w all.0 its, others_still ws all.1 (subst (λ t. AllByRecursion (λ y. (y == t) ≡ false) (tickets_of ws)) (eqb-true w.ticket a.ticket its) distinct.0))
      by false off rest = (still w all.0 off, rest)

pub tickets_stay : (a : Answer) (ws : List Waiting) → tickets_of (having_answer a ws) ≡ tickets_of ws
tickets_stay a [] = refl
tickets_stay a (w ∷ ws) = by (w.ticket == a.ticket) (tickets_stay a ws)
  where
    by : (b : Bool) → tickets_of (having_answer a ws) ≡ tickets_of ws → tickets_of (cond b (record { ticket = w.ticket; command = w.command; answer = Some (first_of w.answer a) } ∷ ws) (w ∷ having_answer a ws)) ≡ w.ticket ∷ tickets_of ws
    by true rest = refl
    by false rest = ap (λ ts. w.ticket ∷ ts) rest

pub waiting_taken : (l now : LaneParts) (a : Answer) (ws left : List Waiting) → AreWaiting l ws → now ≡ having_taken l a → left ≡ having_answer a ws → AreWaiting now left
waiting_taken l now a ws left are is kept =
    subst (λ m. AreWaiting m left) (sym is)
    (subst (AreWaiting (having_taken l a)) (sym kept) (record {
      sent = below_later l.next (next_above l.next a) (all_sent l.shards) (next_grows l.next a) are.sent;
      each = all_answered l a are.sent ws are.each are.distinct;
      distinct = subst AreDistinct (sym (tickets_stay a ws)) are.distinct;
    }))

-- ---- nothing waits

pub none_waits : (l : LaneParts) (ws : List Waiting) → All (IsOwn l.number l.next) l.shards → ws ≡ [] → AreWaiting l ws
unfolding IsDistinct
none_waits l ws own none = subst (AreWaiting l) (sym none) (record { sent = own_below l own; each = tt; distinct = tt })

-- ---- more answers came

pub taken_one : (l now : LaneParts) (a : Answer) → now ≡ having_taken l a → HasTaken l now
taken_one l now a is = (a ∷ [], is)

taken_both : (l : LaneParts) (first more : List Answer) → having_taken_all l (first ++ more) ≡ having_taken_all (having_taken_all l first) more
taken_both l [] more = refl
taken_both l (a ∷ first) more = taken_both (having_taken l a) first more

pub taken_more : (l m n : LaneParts) → HasTaken l m → HasTaken m n → HasTaken l n
taken_more l m n first more = (first.0 ++ more.0, more.1 ∙ (ap (λ k. having_taken_all k more.0) first.1 ∙ sym (taken_both l first.0 more.0)))

-- ---- what stays of a lane that took some more

pub record Stays (l m : LaneParts) : Type 0 where
  pub shards : m.shards ≡ l.shards
  pub tickets : m.tickets ≡ l.tickets
  pub more : (rest : List Answer) × (m.answers.got ≡ l.answers.got ++ rest)
  pub later : l.next ≤ m.next

stays_one : (l : LaneParts) (a : Answer) → Stays l (having_taken l a)
stays_one l a = record { shards = refl; tickets = refl; more = (a ∷ [], refl); later = next_grows l.next a }

stays_then : (l m n : LaneParts) → Stays l m → Stays m n → Stays l n
stays_then l m n a b = record {
  shards = b.shards ∙ a.shards;
  tickets = b.tickets ∙ a.tickets;
  more = (a.more.0 ++ b.more.0, b.more.1 ∙ (ap (λ g. g ++ b.more.0) a.more.1 ∙ append_assoc l.answers.got a.more.0 b.more.0));
  later = let x = a.later in let y = b.later in omega (arith, x, y);
}

stays_all : (l : LaneParts) (came : List Answer) → Stays l (having_taken_all l came)
stays_all l [] = record { shards = refl; tickets = refl; more = ([], sym (append-nil l.answers.got)); later = omega arith }
stays_all l (a ∷ came) = stays_then l (having_taken l a) (having_taken_all (having_taken l a) came) (stays_one l a) (stays_all (having_taken l a) came)

pub stays : (l m : LaneParts) → HasTaken l m → Stays l m
stays l m taken = subst (Stays l) (sym taken.1) (stays_all l taken.0)

pub commands_stay : (l m : LaneParts) → Stays l m → AreBelow l.next (all_sent l.shards) → commands_sent m ≡ commands_sent l
commands_stay l m s below = ap (λ x. commands_below m.next (all_sent x)) s.shards ∙ commands_later l.next m.next (all_sent l.shards) below s.later

pub answers_stay : (l m : LaneParts) → Stays l m → NothingIsLost (λ ticket. answer_to ticket l.answers.got) (λ ticket. answer_to ticket m.answers.got)
answers_stay l m s ticket a e = ap (answer_to ticket) s.more.1 ∙ find_kept (λ (x : Answer). x.ticket == ticket) l.answers.got s.more.0 a e

-- ---- a command was put

distinct_more : (tickets : List ℕ) (ticket : ℕ) → AreDistinct tickets → AllByRecursion (λ t. (ticket == t) ≡ false) tickets → AreDistinct (tickets ++ ticket ∷ [])
unfolding IsDistinct
distinct_more [] ticket distinct off = (tt, tt)
distinct_more (t ∷ tickets) ticket distinct off = (all_and (λ y. (y == t) ≡ false) tickets ticket distinct.0 off.0, distinct_more tickets ticket distinct.1 off.1)
  where
    all_and : (P : ℕ → Type 0) (xs : List ℕ) (x : ℕ) → AllByRecursion P xs → P x → AllByRecursion P (xs ++ x ∷ [])
    all_and P [] x all here = (here, tt)
    all_and P (y ∷ xs) x all here = (all.0, all_and P xs x all.1 here)

new_ticket : (l : LaneParts) (ws : List Waiting) → AllByRecursion (IsWaiting l) ws → AllByRecursion (λ t. (l.next == t) ≡ false) (tickets_of ws)
new_ticket l [] all = tt
new_ticket l (w ∷ ws) all = (other_too l.next w.ticket all.0.given, new_ticket l ws all.1)

pub none_of : (l : LaneParts) (ticket : ℕ) (ws : List Waiting) → AllByRecursion (IsWaiting l) ws → ticket ≡ l.next → IsNoneOf ticket (tickets_of ws)
none_of l ticket [] all is = tt
none_of l ticket (w ∷ ws) all is = (other w.ticket ticket (subst (λ n. w.ticket < n) (sym is) all.0.given), none_of l ticket ws all.1 is)

map_and : (ws : List Waiting) (w : Waiting) → tickets_of (ws ++ w ∷ []) ≡ tickets_of ws ++ w.ticket ∷ []
map_and [] w = refl
map_and (x ∷ ws) w = ap (λ ts. x.ticket ∷ ts) (map_and ws w)

none_yet : (next : ℕ) (got : List Answer) → All (λ (a : Answer). a.ticket < next) got → answer_to next got ≡ None
none_yet next got all = find_none (λ (a : Answer). a.ticket == next) got (by got all)
  where
    by : (xs : List Answer) → All (λ (a : Answer). a.ticket < next) xs → AllByRecursion (λ (a : Answer). (a.ticket == next) ≡ false) xs
    by [] all = tt
    by (x ∷ xs) all = (other x.ticket next (All-head (λ (a : Answer). a.ticket < next) x xs all), by xs (All-tail (λ (a : Answer). a.ticket < next) x xs all))

module _ (l : LaneParts) (a : Asked) (there : shard_of (length l.shards) a < length l.shards) (below : AreBelow l.next (all_sent l.shards)) where
  asked_still : (ws : List Waiting) → AllByRecursion (IsWaiting l) ws → AllByRecursion (IsWaiting (having_asked l a)) ws
  asked_still [] all = tt
  asked_still (w ∷ ws) all = (
    record {
      given = let g = all.0.given in omega (arith, g);
      command = ap (command_under w.ticket) (commands_put l a there below) ∙ under_kept w.ticket (commands_sent l) ((l.next, a) ∷ []) w.command all.0.command;
      answer = all.0.answer;
    },
    asked_still ws all.1,
  )

  pub waiting_put : (ws now : List Waiting) (m : LaneParts) (ticket : ℕ) (none : Option Answer) → AreWaiting l ws → All (λ (x : Answer). x.ticket < l.next) l.answers.got → ticket ≡ l.next → none ≡ None → m ≡ having_asked l a
      → now ≡ ws ++ record { ticket = ticket; command = a; answer = none } ∷ [] → AreWaiting m now
  waiting_put ws now m ticket none are old is empty asked added =
      let w : Waiting = record { ticket = ticket; command = a; answer = none } in
      let its : IsWaiting (having_asked l a) w = record {
        given = omega (arith, is);
        command = ap (command_under ticket) (commands_put l a there below) ∙ subst (λ t. command_under t (commands_sent l ++ (l.next, a) ∷ []) ≡ Some a) (sym is) (under_last l.next a (commands_sent l) (after_all l.next (all_sent l.shards)));
        answer = empty ∙ sym (ap (λ t. answer_to t l.answers.got) is ∙ none_yet l.next l.answers.got old);
      } in
      subst (λ k. AreWaiting k now) (sym asked)
      (subst (AreWaiting (having_asked l a)) (sym added) (record {
        sent = sent_below l a there below;
        each = all_more ws w (asked_still ws are.each) its;
        distinct = subst AreDistinct (sym (map_and ws w)) (distinct_more (tickets_of ws) ticket are.distinct (subst (λ t. AllByRecursion (λ y. (t == y) ≡ false) (tickets_of ws)) (sym is) (new_ticket l ws are.each)));
      }))
    where
      all_more : (xs : List Waiting) (x : Waiting) → AllByRecursion (IsWaiting (having_asked l a)) xs → IsWaiting (having_asked l a) x → AllByRecursion (IsWaiting (having_asked l a)) (xs ++ x ∷ [])
      all_more [] x all here = (here, tt)
      all_more (y ∷ xs) x all here = (all.0, all_more xs x all.1 here)

-- ---- a reply was got

module _ (ticket : ℕ) where
  abbrev pub is_its : Waiting → Bool
  is_its w = w.ticket == ticket

  pub before : (ws : List Waiting) → IsIn (tickets_of ws) ticket → position_or_len is_its ws < length ws
  before [] waits = absurd waits
  before (w ∷ ws) waits = by (w.ticket == ticket) refl (before ws)
    where
      by : (b : Bool) → (w.ticket == ticket) ≡ b → (IsIn (tickets_of ws) ticket → position_or_len is_its ws < length ws) → cond (not b) (1 + position_or_len is_its ws) 0 < suc (length ws)
      by true is rest = omega arith
      by false off rest = elim waits [ inl same ↦ (let here = eq-eqb w.ticket ticket same in absurd (cc)) | inr later ↦ (let less = rest later in omega (arith, less)) ]

  pub some_stands : (ws : List Waiting) → IsIn (tickets_of ws) ticket → position is_its ws ≡ None → ⊥
  some_stands ws waits none =
      let n = position_or_len is_its ws in
      let here = ap (λ (b : Bool). cond b (Some n) None) (lt-ltb n (length ws) (before ws waits)) in
      absurd (cc)

  place_is : (b : Bool) (n place : ℕ) → cond b (Some n) None ≡ Some place → n ≡ place
  place_is true n place e = cc
  place_is false n place e = absurd (cc)

  place_within : (b : Bool) (n m place : ℕ) → nat_lt n m ≡ b → cond b (Some n) None ≡ Some place → n < m
  place_within true n m place is e = ltb-true n m is
  place_within false n m place is e = absurd (cc)

  one_more : (n : ℕ) → 1 + n ≡ suc n
  one_more n = omega arith

  removed : (ws : List Waiting) → remove ws (position_or_len is_its ws) ≡ waiting_without ticket ws
  removed [] = refl
  removed (w ∷ ws) = by (w.ticket == ticket) (removed ws)
    where
      by : (b : Bool) → remove ws (position_or_len is_its ws) ≡ waiting_without ticket ws → remove (w ∷ ws) (cond (not b) (1 + position_or_len is_its ws) 0) ≡ cond b ws (w ∷ waiting_without ticket ws)
      by true rest = refl
      by false rest = ap (remove (w ∷ ws)) (one_more (position_or_len is_its ws)) ∙ ap (λ l. w ∷ l) rest

  pub removed_at : (ws : List Waiting) (place : ℕ) → position is_its ws ≡ Some place → remove ws place ≡ waiting_without ticket ws
  removed_at ws place e = ap (remove ws) (sym (place_is (nat_lt (position_or_len is_its ws) (length ws)) (position_or_len is_its ws) place e)) ∙ removed ws

  found : (ws : List Waiting) (r : Waiting) → position_or_len is_its ws < length ws → r ≡ slice_index_or ws (position_or_len is_its ws) r → find is_its ws ≡ Some r
  found [] r here e = absurd (omega (arith, here))
  found (w ∷ ws) r here e = by (w.ticket == ticket) (found ws r) here e
    where
      by : (b : Bool) → (position_or_len is_its ws < length ws → r ≡ slice_index_or ws (position_or_len is_its ws) r → find is_its ws ≡ Some r)
          → cond (not b) (1 + position_or_len is_its ws) 0 < suc (length ws) → r ≡ slice_index_or (w ∷ ws) (cond (not b) (1 + position_or_len is_its ws) 0) r → cond b (Some w) (find is_its ws) ≡ Some r
      by true rest here e = ap Some (sym e)
      by false rest here e = rest (omega (arith, here)) (e ∙ ap (λ n. slice_index_or (w ∷ ws) n r) (one_more (position_or_len is_its ws)))

  pub found_at : (ws : List Waiting) (place : ℕ) (r : Waiting) → position is_its ws ≡ Some place → r ≡ slice_index_or ws place r → find is_its ws ≡ Some r
  found_at ws place r e is =
      let n = position_or_len is_its ws in
      found ws r (place_within (nat_lt n (length ws)) n (length ws) place refl e) (is ∙ ap (λ p. slice_index_or ws p r) (sym (place_is (nat_lt n (length ws)) n place e)))

  all_left : (P : Waiting → Type 0) (ws : List Waiting) → AllByRecursion P ws → AllByRecursion P (waiting_without ticket ws)
  all_left P [] all = tt
  all_left P (w ∷ ws) all = by (w.ticket == ticket) (all_left P ws all.1)
    where
      by : (b : Bool) → AllByRecursion P (waiting_without ticket ws) → AllByRecursion P (cond b ws (w ∷ waiting_without ticket ws))
      by true rest = all.1
      by false rest = (all.0, rest)

  tickets_still : (P : ℕ → Type 0) (ws : List Waiting) → AllByRecursion P (tickets_of ws) → AllByRecursion P (tickets_of (waiting_without ticket ws))
  tickets_still P [] all = tt
  tickets_still P (w ∷ ws) all = by (w.ticket == ticket) (tickets_still P ws all.1)
    where
      by : (b : Bool) → AllByRecursion P (tickets_of (waiting_without ticket ws)) → AllByRecursion P (tickets_of (cond b ws (w ∷ waiting_without ticket ws)))
      by true rest = all.1
      by false rest = (all.0, rest)

  distinct_still : (ws : List Waiting) → AreDistinct (tickets_of ws) → AreDistinct (tickets_of (waiting_without ticket ws))
  unfolding IsDistinct
  distinct_still [] distinct = tt
  distinct_still (w ∷ ws) distinct = by (w.ticket == ticket) (distinct_still ws distinct.1)
    where
      by : (b : Bool) → AreDistinct (tickets_of (waiting_without ticket ws)) → AreDistinct (tickets_of (cond b ws (w ∷ waiting_without ticket ws)))
      by true rest = distinct.1
      by false rest = (tickets_still (λ y. (y == w.ticket) ≡ false) ws distinct.0, rest)

  pub waiting_left : (l : LaneParts) (ws left : List Waiting) → AreWaiting l ws → left ≡ waiting_without ticket ws → AreWaiting l left
  waiting_left l ws left are is = subst (AreWaiting l) (sym is) (record { sent = are.sent; each = all_left (IsWaiting l) ws are.each; distinct = distinct_still ws are.distinct })

  none_left : (tickets : List ℕ) → AllByRecursion (λ y. (y == ticket) ≡ false) tickets → tickets ≡ without ticket tickets
  none_left [] off = refl
  none_left (t ∷ tickets) off = by (t == ticket) off.0 (none_left tickets off.1)
    where
      by : (b : Bool) → b ≡ false → tickets ≡ without ticket tickets → t ∷ tickets ≡ cond (not b) (t ∷ without ticket tickets) (without ticket tickets)
      by true e rest = absurd (cc)
      by false e rest = ap (λ l. t ∷ l) rest

  pub tickets_left : (ws : List Waiting) → AreDistinct (tickets_of ws) → tickets_of (waiting_without ticket ws) ≡ without ticket (tickets_of ws)
  unfolding IsDistinct
  tickets_left [] distinct = refl
  tickets_left (w ∷ ws) distinct = by (w.ticket == ticket) refl (tickets_left ws distinct.1)
    where
      by : (b : Bool) → (w.ticket == ticket) ≡ b → tickets_of (waiting_without ticket ws) ≡ without ticket (tickets_of ws) → tickets_of (cond b ws (w ∷ waiting_without ticket ws)) ≡ cond (not b) (w.ticket ∷ without ticket (tickets_of ws)) (without ticket (tickets_of ws))
      by true is rest = none_left (tickets_of ws) (subst (λ n. AllByRecursion (λ y. (y == n) ≡ false) (tickets_of ws)) (eqb-true w.ticket ticket is) distinct.0)
      by false off rest = ap (λ l. w.ticket ∷ l) rest

  found_of : (P : Waiting → Type 0) (ws : List Waiting) (w : Waiting) → AllByRecursion P ws → find is_its ws ≡ Some w → P w
  found_of P [] w all e = absurd (cc)
  found_of P (x ∷ ws) w all e = by (x.ticket == ticket) (found_of P ws w all.1) e
    where
      some_is : (a b : Waiting) → ◌≡◌ {A = Option Waiting} (Some a) (Some b) → a ≡ b
      some_is a b e = cc

      by : (b : Bool) → (find is_its ws ≡ Some w → P w) → cond b (Some x) (find is_its ws) ≡ Some w → P w
      by true rest e = subst P (some_is x w e) all.0
      by false rest e = rest e

  -- the reply of the answer that was taken out
  pub reply_told : (l : LaneParts) (ws : List Waiting) (a : Answer) → AllByRecursion (IsWaiting l) ws → IsToldOf ticket ws a → IsReplyTo ticket (commands_sent l) (λ t. answer_to t l.answers.got) a.reply
  reply_told l ws a all told =
      let w = told.0 in
      let here : IsWaiting l w = found_of (IsWaiting l) ws w all told.1 in
      let its : w.ticket ≡ ticket = eqb-true w.ticket ticket (find_passes is_its ws w told.1) in
      let stands : answer_to ticket l.answers.got ≡ Some a = ap (λ t. answer_to t l.answers.got) (sym its) ∙ (sym here.answer ∙ told.2) in record {
        answer = a;
        stands = stands;
        of_ticket = eqb-true a.ticket ticket (find_passes (λ (x : Answer). x.ticket == ticket) l.answers.got a stands);
        of_command = ap (λ t. command_under t (commands_sent l)) (sym its) ∙ (here.command ∙ ap Some (sym told.3));
        told = refl;
      }

  some_waits : (ws : List Waiting) → IsIn (tickets_of ws) ticket → (w : Waiting) × (find is_its ws ≡ Some w)
  some_waits [] waits = absurd waits
  some_waits (w ∷ ws) waits = by (w.ticket == ticket) refl (some_waits ws)
    where
      by : (b : Bool) → (w.ticket == ticket) ≡ b → (IsIn (tickets_of ws) ticket → (x : Waiting) × (find is_its ws ≡ Some x)) → (x : Waiting) × (cond b (Some w) (find is_its ws) ≡ Some x)
      by true is rest = (w, refl)
      by false off rest = elim waits [ inl same ↦ (let here = eq-eqb w.ticket ticket same in absurd (cc)) | inr later ↦ rest later ]

  -- what is told is told of the first under the ticket
  its_own : (ws : List Waiting) (r : Waiting) (a : Answer) → find is_its ws ≡ Some r → IsToldOf ticket ws a → (r.answer ≡ Some a) × (a.command ≡ r.command)
  its_own ws r a is told =
      let same : told.0 ≡ r = some_is told.0 r (sym told.1 ∙ is) in
      subst (λ (w : Waiting). (w.answer ≡ Some a) × (a.command ≡ w.command)) same (told.2, told.3)
    where
      some_is : (x y : Waiting) → ◌≡◌ {A = Option Waiting} (Some x) (Some y) → x ≡ y
      some_is x y e = cc

  -- no answer came to it
  pub no_answer : (ws : List Waiting) (r : Waiting) → find is_its ws ≡ Some r → r.answer ≡ None → IsUntoldOf ticket ws
  no_answer ws r is none a told = let its = (its_own ws r a is told).0 in absurd (cc)

  -- its answer is to another command
  pub other_answer : (ws : List Waiting) (r : Waiting) (b : Answer) → find is_its ws ≡ Some r → r.answer ≡ Some b → (b.command ≡ r.command → ⊥) → IsUntoldOf ticket ws
  other_answer ws r b is some apart a told =
      let its = its_own ws r a is told in
      apart (ap (λ (x : Answer). x.command) (same a b (sym its.0 ∙ some)) ∙ its.1)
    where
      same : (x y : Answer) → ◌≡◌ {A = Option Answer} (Some x) (Some y) → y ≡ x
      same x y e = cc

  -- a reply that stands is that of the answer of what waits, which is to its command
  pub none_told : (l : LaneParts) (ws : List Waiting) → AllByRecursion (IsWaiting l) ws → IsIn (tickets_of ws) ticket → IsUntoldOf ticket ws → (reply : Reply) → IsReplyTo ticket (commands_sent l) (λ t. answer_to t l.answers.got) reply → ⊥
  none_told l ws all waits untold reply is =
      let there = some_waits ws waits in
      let here : IsWaiting l there.0 = found_of (IsWaiting l) ws there.0 all there.1 in
      let its : there.0.ticket ≡ ticket = eqb-true there.0.ticket ticket (find_passes is_its ws there.0 there.1) in
      untold is.answer (
        there.0,
        there.1,
        here.answer ∙ (ap (λ t. answer_to t l.answers.got) its ∙ is.stands),
        same is.answer.command there.0.command (sym is.of_command ∙ (ap (λ t. command_under t (commands_sent l)) (sym its) ∙ here.command)),
      )
    where
      same : (x y : Asked) → ◌≡◌ {A = Option Asked} (Some x) (Some y) → x ≡ y
      same x y e = cc

-- ---- an answer at its place

abbrev pub with_answer : Waiting → Option Answer → Waiting
with_answer w o = record { ticket = w.ticket; command = w.command; answer = o }

module _ (a : Answer) where
  abbrev first : List Waiting → ℕ
  first ws = position_or_len (is_its a.ticket) ws

  none_stands : (ws : List Waiting) → (first ws < length ws → ⊥) → having_answer a ws ≡ ws
  none_stands [] out = refl
  none_stands (w ∷ ws) out = by (w.ticket == a.ticket) (none_stands ws) out
    where
      by : (b : Bool) → ((first ws < length ws → ⊥) → having_answer a ws ≡ ws) → (cond (not b) (1 + first ws) 0 < suc (length ws) → ⊥) → cond b (with_answer w (Some (first_of w.answer a)) ∷ ws) (w ∷ having_answer a ws) ≡ w ∷ ws
      by true rest out = absurd (out (omega arith))
      by false rest out = ap (λ l. w ∷ l) (rest (λ less. out (omega (arith, less))))

  pub none_there : (ws : List Waiting) → position (is_its a.ticket) ws ≡ None → ws ≡ having_answer a ws
  none_there ws none = sym (none_stands ws (λ less. let here = ap (λ (b : Bool). cond b (Some (first ws)) None) (lt-ltb (first ws) (length ws) less) in absurd (cc)))

  -- the first under the ticket gets an answer
  set_first : (ws : List Waiting) (r : Waiting) (o : Option Answer) → first ws < length ws → r ≡ slice_index_or ws (first ws) r → o ≡ Some (first_of r.answer a) → slice_set ws (first ws) (with_answer r o) ≡ having_answer a ws
  set_first [] r o less is gets = absurd (omega (arith, less))
  set_first (w ∷ ws) r o less is gets = by (w.ticket == a.ticket) (set_first ws r o) less is
    where
      by : (b : Bool) → (first ws < length ws → r ≡ slice_index_or ws (first ws) r → o ≡ Some (first_of r.answer a) → slice_set ws (first ws) (with_answer r o) ≡ having_answer a ws)
          → cond (not b) (1 + first ws) 0 < suc (length ws) → r ≡ slice_index_or (w ∷ ws) (cond (not b) (1 + first ws) 0) r
          → slice_set (w ∷ ws) (cond (not b) (1 + first ws) 0) (with_answer r o) ≡ cond b (with_answer w (Some (first_of w.answer a)) ∷ ws) (w ∷ having_answer a ws)
      by true rest less is = ap (λ p. p ∷ ws) (ap (λ q. with_answer r q) gets ∙ ap (λ (x : Waiting). with_answer x (Some (first_of x.answer a))) is)
      by false rest less is =
          ap (λ n. slice_set (w ∷ ws) n (with_answer r o)) (one_more a.ticket (first ws))
          ∙ ap (λ l. w ∷ l) (rest (omega (arith, less)) (is ∙ ap (λ n. slice_index_or (w ∷ ws) n r) (one_more a.ticket (first ws))) gets)

  pub set_there : (ws : List Waiting) (place : ℕ) (r : Waiting) (o : Option Answer) → position (is_its a.ticket) ws ≡ Some place → r ≡ slice_index_or ws place r → o ≡ Some (first_of r.answer a)
      → slice_set ws place (with_answer r o) ≡ having_answer a ws
  set_there ws place r o e is gets =
      let n = first ws in
      let here : n ≡ place = place_is a.ticket (nat_lt n (length ws)) n place e in
      ap (λ p. slice_set ws p (with_answer r o)) (sym here)
      ∙ set_first ws r o (place_within a.ticket (nat_lt n (length ws)) n (length ws) place refl e) (is ∙ ap (λ p. slice_index_or ws p r) (sym here)) gets

length_set : (ws : List Waiting) (place : ℕ) (w : Waiting) → length (slice_set ws place w) ≡ length ws
length_set [] place w = refl
length_set (x ∷ ws) zero w = refl
length_set (x ∷ ws) (suc place) w = ap suc (length_set ws place w)

refilled : (ws now : List Waiting) → length now ≡ length ws → refill (length ws) ws now ≡ now
refilled ws now same = ap (λ n. take (length ws) (now ++ drop n ws)) same ∙ (ap (λ l. take (length ws) (now ++ l)) (none ws) ∙ (ap (λ l. take (length ws) l) (append-nil now) ∙ (ap (λ n. take n now) (sym same) ∙ whole now)))
  where
    none : (xs : List Waiting) → drop (length xs) xs ≡ []
    none [] = refl
    none (x ∷ xs) = none xs

    whole : (xs : List Waiting) → take (length xs) xs ≡ xs
    whole [] = refl
    whole (x ∷ xs) = ap (λ l. x ∷ l) (whole xs)

-- what was changed in place, where the answer was put in or one was there
pub kept : (a : Answer) (ws given : List Waiting) (place : ℕ) (d : Waiting) (o : Option Answer) → given ≡ ws → position (is_its a.ticket) ws ≡ Some place → d ≡ slice_index_or given place d → o ≡ Some (first_of d.answer a)
    → refill (length ws) ws (slice_set given place (with_answer (slice_index_or given place d) o)) ≡ having_answer a ws
kept a ws given place d o same there is gets =
    ap (λ w. refill (length ws) ws (slice_set given place (with_answer w o))) (sym is)
    ∙ (ap (λ g. refill (length ws) ws (slice_set g place (with_answer d o))) same
    ∙ (refilled ws (slice_set ws place (with_answer d o)) (length_set ws place (with_answer d o))
    ∙ set_there a ws place d o there (is ∙ ap (λ g. slice_index_or g place d) same) gets))

pub none_first : (o : Option Answer) (a : Answer) → is_none o ≡ true → Some a ≡ Some (first_of o a)
none_first None a e = refl
none_first (Some b) a e = absurd (cc)

pub some_first : (o : Option Answer) (a : Answer) → is_none o ≡ false → o ≡ Some (first_of o a)
some_first None a e = absurd (cc)
some_first (Some b) a e = refl
