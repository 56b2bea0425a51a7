-- The answers that a lane took from a shard, in the order of the journal, and what stands there before each.
use Rattle.std.proofs.Common.{◌≡◌, ℕ, ◌+◌, ◌<◌, ◌≤◌, eqb, Bool, true, false, if◌then◌else◌, List, [], ◌∷◌, ◌++◌, All, map, length, refl, sym, ap, ◌∙◌, subst, arith}
use Rattle.std.specs.List.{AllZip}
use Rattle.std.proofs.lemmas.List.Elements.{All-nil, All-cons, All-head, All-tail, All-weaker}
use Rattle.pay_mailbox.specs.Words.{SenderParts, of}
use Rattle.pay_tables.specs.Words.{FareEditions}
use Rattle.pay_rules.specs.State.{State}
use Rattle.pay_shard.specs.Words.{answer_at, answers_from, item_step, replay}
use Rattle.pay_shard.specs.declared.item.Entry.{Entry}
use Rattle.pay_shard.specs.declared.item.Item.{Item}
use Rattle.pay_shard.specs.declared.reply.Answer.{Answer}
use Rattle.pay_lanes.specs.Ends.{arrived, IsAnswered}
use Rattle.pay_lanes.specs.Laws.{Rise, SeesEarlier, PlacesRise, AnswersSeeEarlier}
use Rattle.pay_lanes.specs.Parts.{LaneParts, WorkerParts}
use Rattle.pay_lanes.specs.Turns.{by_lane, by_shard}
use Rattle.pay_lanes.specs.Working.{entries_of, at_lane}

-- ---- the first of a list

front_all : {X : Type 0} (P : X → Type 0) (xs ys : List X) → All P (xs ++ ys) → All P xs
front_all P [] ys all = All-nil P
front_all P (x ∷ xs) ys all = All-cons P x xs (All-head P x (xs ++ ys) all) (front_all P xs ys (All-tail P x (xs ++ ys) all))

rise_front : (xs ys : List Answer) → Rise (xs ++ ys) → Rise xs
rise_front [] ys rise = tt
rise_front (a ∷ xs) ys rise = (front_all (λ (b : Answer). a.place < b.place) xs ys rise.0, rise_front xs ys rise.1)

-- ---- an item of the lane, or not

module _ (lane : ℕ) where
  chosen : (item : Item) (items : List Item) (a : Answer) (answers : List Answer) → eqb item.entry.lane lane ≡ true → at_lane lane (item ∷ items) (a ∷ answers) ≡ a ∷ at_lane lane items answers
  chosen item items a answers is = ap (λ b. if b then a ∷ at_lane lane items answers else at_lane lane items answers) is

  passed : (item : Item) (items : List Item) (a : Answer) (answers : List Answer) → eqb item.entry.lane lane ≡ false → at_lane lane (item ∷ items) (a ∷ answers) ≡ at_lane lane items answers
  passed item items a answers is = ap (λ b. if b then a ∷ at_lane lane items answers else at_lane lane items answers) is

  entry_chosen : (e : Entry) (es : List Entry) → eqb e.lane lane ≡ true → of by_lane lane (e ∷ es) ≡ e ∷ of by_lane lane es
  entry_chosen e es is = ap (λ b. if b then e ∷ of by_lane lane es else of by_lane lane es) is

  entry_passed : (e : Entry) (es : List Entry) → eqb e.lane lane ≡ false → of by_lane lane (e ∷ es) ≡ of by_lane lane es
  entry_passed e es is = ap (λ b. if b then e ∷ of by_lane lane es else of by_lane lane es) is

-- ---- places

module _ (shard lane : ℕ) (editions : FareEditions) where
  abbrev From : ℕ → State → List Item → List Answer
  From place state items = at_lane lane items (answers_from shard place editions state items)

  abbrev IsFrom : ℕ → Answer → Type 0
  IsFrom n a = n ≤ a.place

  are_from : (n place : ℕ) (state : State) (items : List Item) → n ≤ place → All (IsFrom n) (From place state items)
  are_from n place state [] less = All-nil (IsFrom n)
  are_from n place state (item ∷ items) less = by (are_from n (place + 1) (item_step editions state item).after items (omega (arith, less))) (eqb item.entry.lane lane) refl
    where
      by : All (IsFrom n) (From (place + 1) (item_step editions state item).after items) → (b : Bool) → eqb item.entry.lane lane ≡ b → All (IsFrom n) (From place state (item ∷ items))
      by rest true is = subst (All (IsFrom n)) (sym (chosen lane item items _ _ is)) (All-cons (IsFrom n) _ _ less rest)
      by rest false is = subst (All (IsFrom n)) (sym (passed lane item items _ _ is)) rest

  rises : (place : ℕ) (state : State) (items : List Item) → Rise (From place state items)
  rises place state [] = tt
  rises place state (item ∷ items) = by (rises (place + 1) (item_step editions state item).after items) (eqb item.entry.lane lane) refl
    where
      by : Rise (From (place + 1) (item_step editions state item).after items) → (b : Bool) → eqb item.entry.lane lane ≡ b → Rise (From place state (item ∷ items))
      by rest true is =
          subst Rise (sym (chosen lane item items _ _ is)) (
            All-weaker (IsFrom (place + 1)) (λ (b : Answer). place < b.place) (λ b from. omega (arith, from)) _ (are_from (place + 1) (place + 1) (item_step editions state item).after items (omega arith)),
            rest,
          )
      by rest false is = subst Rise (sym (passed lane item items _ _ is)) rest

  -- ---- what stands before

  -- the same of items from a place on
  record Sees (place : ℕ) (state : State) (items : List Item) (sent : List Entry) (a : Answer) : Type 0 where
    front : List Item
    item : Item
    back : List Item
    journal : items ≡ front ++ item ∷ back
    at : a.place ≡ place + length front
    ticket : a.ticket ≡ item.entry.ticket
    command : a.command ≡ item.entry.command
    reply : a.reply ≡ (item_step editions (replay editions state front) item).reply
    later : List Entry
    earlier : sent ≡ of by_lane lane (entries_of front) ++ item.entry ∷ later

  sees_first : (place : ℕ) (state : State) (item : Item) (items : List Item) (left : List Entry) → eqb item.entry.lane lane ≡ true
      → Sees place state (item ∷ items) (of by_lane lane (entries_of (item ∷ items) ++ left)) (answer_at shard place editions state item)
  sees_first place state item items left is = record {
    front = [];
    item = item;
    back = items;
    journal = refl;
    at = omega arith;
    ticket = refl;
    command = refl;
    reply = refl;
    later = of by_lane lane (entries_of items ++ left);
    earlier = entry_chosen lane item.entry (entries_of items ++ left) is;
  }

  sees_then : (place : ℕ) (state : State) (item : Item) (items : List Item) (left : List Entry) (b : Bool) → eqb item.entry.lane lane ≡ b → (a : Answer)
      → Sees (place + 1) (item_step editions state item).after items (of by_lane lane (entries_of items ++ left)) a → Sees place state (item ∷ items) (of by_lane lane (entries_of (item ∷ items) ++ left)) a
  sees_then place state item items left b is a sees = record {
    front = item ∷ sees.front;
    item = sees.item;
    back = sees.back;
    journal = ap (λ l. item ∷ l) sees.journal;
    at = (let at = sees.at in omega (arith, at));
    ticket = sees.ticket;
    command = sees.command;
    reply = sees.reply;
    later = sees.later;
    earlier = by b is;
  }
    where
      by : (b : Bool) → eqb item.entry.lane lane ≡ b → of by_lane lane (entries_of (item ∷ items) ++ left) ≡ of by_lane lane (entries_of (item ∷ sees.front)) ++ sees.item.entry ∷ sees.later
      by true is =
          entry_chosen lane item.entry (entries_of items ++ left) is
          ∙ (ap (λ l. item.entry ∷ l) sees.earlier ∙ ap (λ l. l ++ sees.item.entry ∷ sees.later) (sym (entry_chosen lane item.entry (entries_of sees.front) is)))
      by false is =
          entry_passed lane item.entry (entries_of items ++ left) is
          ∙ (sees.earlier ∙ ap (λ l. l ++ sees.item.entry ∷ sees.later) (sym (entry_passed lane item.entry (entries_of sees.front) is)))

  abbrev Seen : ℕ → State → List Item → List Entry → Answer → Type 0
  Seen place state items left a = Sees place state items (of by_lane lane (entries_of items ++ left)) a

  all_see : (place : ℕ) (state : State) (items : List Item) (left : List Entry) → All (Seen place state items left) (From place state items)
  all_see place state [] left = All-nil (Seen place state [] left)
  all_see place state (item ∷ items) left = by (all_see (place + 1) (item_step editions state item).after items left) (eqb item.entry.lane lane) refl
    where
      later : (b : Bool) → eqb item.entry.lane lane ≡ b → All (Seen (place + 1) (item_step editions state item).after items left) (From (place + 1) (item_step editions state item).after items)
          → All (Seen place state (item ∷ items) left) (From (place + 1) (item_step editions state item).after items)
      later b is rest = All-weaker (Seen (place + 1) (item_step editions state item).after items left) (Seen place state (item ∷ items) left) (sees_then place state item items left b is) _ rest

      by : All (Seen (place + 1) (item_step editions state item).after items left) (From (place + 1) (item_step editions state item).after items) → (b : Bool) → eqb item.entry.lane lane ≡ b
          → All (Seen place state (item ∷ items) left) (From place state (item ∷ items))
      by rest true is =
          subst (All (Seen place state (item ∷ items) left)) (sym (chosen lane item items _ _ is))
          (All-cons (Seen place state (item ∷ items) left) _ _ (sees_first place state item items left is) (later true is rest))
      by rest false is = subst (All (Seen place state (item ∷ items) left)) (sym (passed lane item items _ _ is)) (later false is rest)

-- ---- what a lane took

pub places_rise : PlacesRise
places_rise l w answered =
    rise_front (of by_shard w.shard.number l.answers.got) answered.0 (subst Rise (sym answered.1) (rises w.shard.number l.number w.shard.editions 0 w.shard.base w.shard.journal))

sees_earlier : (l : LaneParts) (w : WorkerParts) (left sent : List Entry) → IsAnswered l w → of by_lane l.number (entries_of w.shard.journal ++ left) ≡ sent → All (SeesEarlier w.shard l.number sent) (of by_shard w.shard.number l.answers.got)
sees_earlier l w left sent answered is =
    All-weaker (Seen w.shard.number l.number w.shard.editions 0 w.shard.base w.shard.journal left) (SeesEarlier w.shard l.number sent) told _
    (front_all (Seen w.shard.number l.number w.shard.editions 0 w.shard.base w.shard.journal left) (of by_shard w.shard.number l.answers.got) answered.0
    (subst (All (Seen w.shard.number l.number w.shard.editions 0 w.shard.base w.shard.journal left)) (sym answered.1) (all_see w.shard.number l.number w.shard.editions 0 w.shard.base w.shard.journal left)))
  where
    told : (a : Answer) → Seen w.shard.number l.number w.shard.editions 0 w.shard.base w.shard.journal left a → SeesEarlier w.shard l.number sent a
    told a sees = record {
      front = sees.front;
      item = sees.item;
      back = sees.back;
      journal = sees.journal;
      place = (let at = sees.at in omega (arith, at));
      ticket = sees.ticket;
      command = sees.command;
      reply = sees.reply;
      later = sees.later;
      earlier = sym is ∙ sees.earlier;
    }

each_sees : (l : LaneParts) (ws : List WorkerParts) (left : List (List Entry)) (ss : List (SenderParts Entry)) → length left ≡ length ws → All (IsAnswered l) ws
    → arrived l.number ws left ≡ map (λ (s : SenderParts Entry). s.sent) ss
    → AllZip (λ (w : WorkerParts) (s : SenderParts Entry). All (SeesEarlier w.shard l.number s.sent) (of by_shard w.shard.number l.answers.got)) ws ss
each_sees l [] [] [] same answered are = tt
each_sees l [] [] (s ∷ ss) same answered are = cc
each_sees l [] (x ∷ left) ss same answered are = cc
each_sees l (w ∷ ws) [] ss same answered are = cc
each_sees l (w ∷ ws) (x ∷ left) [] same answered are = cc
each_sees l (w ∷ ws) (x ∷ left) (s ∷ ss) same answered are =
    let first : of by_lane l.number (entries_of w.shard.journal ++ x) ≡ s.sent = cc in
    let rest : arrived l.number ws left ≡ map (λ (t : SenderParts Entry). t.sent) ss = cc in (
      sees_earlier l w x s.sent (All-head (IsAnswered l) w ws answered) first,
      each_sees l ws left ss (omega (arith, same)) (All-tail (IsAnswered l) w ws answered) rest,
    )

pub answers_see_earlier : AnswersSeeEarlier
answers_see_earlier l ws left same answered are = each_sees l ws left l.shards same answered are
