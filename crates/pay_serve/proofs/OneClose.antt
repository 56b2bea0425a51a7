-- A close over the last lane of an office is the close of one machine.
use Rattle.std.proofs.Common.{◌≡◌, inl, inr, ℕ, zero, suc, ◌+◌, ◌<◌, ◌≤◌, ◌==◌, eqb, Bool, true, false, cond, if◌then◌else◌, List, [], ◌∷◌, ◌++◌, All, map, length, get_or, slice_get, Option, Some, None, refl, sym, ap, ◌∙◌, subst, arith, eq-eqb}
use Rattle.std.proofs.lemmas.Bool.{eqb-true}
use Rattle.std.specs.Prelude.{◌⊎◌, IfSome, ⊤}
use Rattle.std.specs.FinMap.{empty}
use Rattle.std.specs.List.{AllZip, find, range_with_len}
use Rattle.std.proofs.lemmas.List.Elements.{All-head, All-tail, AllZip-get_or, length_all_zip}
use mathlib.Core.List.{IsPrefix}
use Rattle.pay_tables.specs.Words.{FareEditions}
use Rattle.pay_mailbox.specs.Words.{SenderParts, of}
use Rattle.pay_rules.specs.State.{State}
use Rattle.pay_shard.specs.Words.{replay, batch, items_of, IsAskedOf, AreAskedOf, NothingIsLost}
use Rattle.pay_shard.specs.Runs.{answer_at, answers_from}
use Rattle.pay_shard.specs.Machine.{step, marked_step, item_step}
use Rattle.pay_shard.specs.declared.asked.Asked.{Asked}
use Rattle.pay_shard.specs.declared.asked.Asked.TheVariants as asked
use Rattle.pay_shard.specs.declared.item.Entry.{Entry}
use Rattle.pay_shard.specs.declared.item.Item.{Item}
use Rattle.pay_shard.specs.declared.reply.Answer.{Answer}
use Rattle.pay_shard.specs.declared.reply.Reply.{Reply}
use Rattle.pay_shard.specs.declared.reply.Reply.TheVariants as replies
use Rattle.pay_lanes.specs.Words.{LaneParts, WorkerParts, by_shard, at_lane, answers_for, shard_numbers, IsSameWorker, IsOfShards, IsAnswered, AreJournalsFrom}
use Rattle.pay_lanes.specs.Ends.{IsLaneOf}
use Rattle.std.proofs.lemmas.List.{length-map}
use Rattle.pay_office.specs.Words.{answer_to}
use Rattle.pay_till.specs.Words.{AreQuotes, gives_quotes, brings_quotes, IsAnswerTo, AreAnswered, Taken}
use Rattle.pay_close.specs.Words.{AreBrought, IsWhole, Brings, AreOfShards, ShardsCloseAsMerge}
use Rattle.pay_serve.specs.Machines.{AreFronts, IsOneClose, IsAskedAfter, AreAskedAfter, IsOneCloseOf, IsNewOffice, IsOver, IsOverAsOne, ClosesAreOne}
use Rattle.pay_serve.specs.Lanes.{AreAllWith}
use Rattle.pay_serve.proofs.Begun.{of_last}

-- ---- what stands in a list

abbrev Has : {X : Type 0} → List X → X → Type 0
Has [] x = ⊥
Has (y ∷ ys) x = (y ≡ x) ⊎ Has ys x

module _ {X : Type 0} where
  found_in : (test : X → Bool) (xs : List X) (x : X) → find test xs ≡ Some x → Has xs x
  found_in test [] x e = cc
  found_in test (y ∷ xs) x e = by (test y) (found_in test xs x) e
    where
      by : (b : Bool) → (find test xs ≡ Some x → Has xs x) → cond b (Some y) (find test xs) ≡ Some x → (y ≡ x) ⊎ Has xs x
      by true rest e = let same : y ≡ x = cc in inl same
      by false rest e = inr (rest e)

  chosen_in : (sender : X → ℕ) (p : ℕ) (xs : List X) (x : X) → sender x ≡ p → Has xs x → Has (of sender p xs) x
  chosen_in sender p [] x its has = has
  chosen_in sender p (y ∷ xs) x its (inl same) = by (eqb (sender y) p) (eq-eqb (sender y) p (ap sender same ∙ its))
    where
      by : (b : Bool) → b ≡ true → Has (if b then y ∷ of sender p xs else of sender p xs) x
      by true e = inl same
      by false e = cc
  chosen_in sender p (y ∷ xs) x its (inr later) = by (eqb (sender y) p) (chosen_in sender p xs x its later)
    where
      by : (b : Bool) → Has (of sender p xs) x → Has (if b then y ∷ of sender p xs else of sender p xs) x
      by true has = inr has
      by false has = has

  in_more : (xs ys : List X) (x : X) → Has xs x → Has (xs ++ ys) x
  in_more [] ys x has = absurd has
  in_more (y ∷ xs) ys x (inl same) = inl same
  in_more (y ∷ xs) ys x (inr later) = inr (in_more xs ys x later)

  in_whole : (xs ys : List X) (x : X) → IsPrefix xs ys → Has xs x → Has ys x
  in_whole xs ys x first has = subst (λ zs. Has zs x) first.1 (in_more xs first.0 x has)

  of_one : (P : X → Type 0) (xs : List X) (x : X) → All P xs → Has xs x → P x
  of_one P [] x all has = absurd has
  of_one P (y ∷ xs) x all (inl same) = subst P same (All-head P y xs all)
  of_one P (y ∷ xs) x all (inr later) = of_one P xs x (All-tail P y xs all) later

  of_middle : (P : X → Type 0) (front : List X) (x : X) (back : List X) → All P (front ++ x ∷ back) → P x
  of_middle P [] x back all = All-head P x back all
  of_middle P (y ∷ front) x back all = of_middle P front x back (All-tail P y (front ++ x ∷ back) all)

-- ---- an answer to a lane's item

-- an answer of a shard is that to an item of a lane at some place of its journal, after what stands before it
record Answers (lane : ℕ) (editions : FareEditions) (state : State) (items : List Item) (a : Answer) : Type 0 where
  front : List Item
  item : Item
  back : List Item
  parts : front ++ item ∷ back ≡ items
  own : item.entry.lane ≡ lane
  ticket : item.entry.ticket ≡ a.ticket
  command : item.entry.command ≡ a.command
  reply : (item_step editions (replay editions state front) item).reply ≡ a.reply

answers_one : (shard lane place : ℕ) (editions : FareEditions) (state : State) (items : List Item) (a : Answer) → Has (at_lane lane items (answers_from shard place editions state items)) a → Answers lane editions state items a
answers_one shard lane place editions state [] a has = absurd has
answers_one shard lane place editions state (item ∷ items) a has = by (eqb item.entry.lane lane) refl (answers_one shard lane (place + 1) editions (item_step editions state item).after items a) has
  where
    later : Answers lane editions (item_step editions state item).after items a → Answers lane editions state (item ∷ items) a
    later is = record { front = item ∷ is.front; item = is.item; back = is.back; parts = ap (λ l. item ∷ l) is.parts; own = is.own; ticket = is.ticket; command = is.command; reply = is.reply }

    here : eqb item.entry.lane lane ≡ true → answer_at shard place editions state item ≡ a → Answers lane editions state (item ∷ items) a
    here its same = record {
      front = [];
      item = item;
      back = items;
      parts = refl;
      own = eqb-true item.entry.lane lane its;
      ticket = ap (λ (x : Answer). x.ticket) same;
      command = ap (λ (x : Answer). x.command) same;
      reply = ap (λ (x : Answer). x.reply) same;
    }

    by : (b : Bool) → eqb item.entry.lane lane ≡ b → (Has (at_lane lane items (answers_from shard (place + 1) editions (item_step editions state item).after items)) a → Answers lane editions (item_step editions state item).after items a)
        → Has (if b then answer_at shard place editions state item ∷ at_lane lane items (answers_from shard (place + 1) editions (item_step editions state item).after items) else at_lane lane items (answers_from shard (place + 1) editions (item_step editions state item).after items)) a
        → Answers lane editions state (item ∷ items) a
    by true its rest (inl same) = here its same
    by true its rest (inr more) = later (rest more)
    by false its rest more = later (rest more)

-- an item that asks for the quotes of a day, and was answered by quotes
quoted : (editions : FareEditions) (state : State) (refused : Bool) (command : Asked) (day shard of : ℕ) (reply : Reply) → command ≡ asked.Quotes day shard of
    → (marked_step refused editions state command).reply ≡ reply → gives_quotes reply ≡ true → reply ≡ replies.Quotes (batch editions state day shard of)
quoted editions state true command day shard of reply its told gives = let none : gives_quotes replies.Memory ≡ true = ap gives_quotes told ∙ gives in cc
quoted editions state false command day shard of reply its told gives = sym told ∙ ap (λ c. (step editions state c).reply) its

-- ---- workers at their places

place_of : {X : Type 0} (number : X → ℕ) (a : ℕ) (xs : List X) (n k : ℕ) (d : X) → map number xs ≡ range_with_len a n → k < length xs → number (get_or xs k d) ≡ a + k
place_of number a [] n k d e less = absurd (omega (arith, less))
place_of number a (x ∷ xs) zero k d e less = cc
place_of number a (x ∷ xs) (suc n) zero d e less = let here : number x ≡ a = cc in omega (arith, here)
place_of number a (x ∷ xs) (suc n) (suc k) d e less =
    let rest : map number xs ≡ range_with_len (a + 1) n = cc in
    let there : number (get_or xs k d) ≡ (a + 1) + k = place_of number (a + 1) xs n k d rest (omega (arith, less)) in
    omega (arith, there)

same_numbers : (ws vs : List WorkerParts) → AllZip IsSameWorker ws vs → shard_numbers vs ≡ shard_numbers ws
same_numbers [] [] same = refl
same_numbers [] (v ∷ vs) same = absurd same
same_numbers (w ∷ ws) [] same = absurd same
same_numbers (w ∷ ws) (v ∷ vs) same = let first = same.0.number in let rest = same_numbers ws vs same.1 in cc

-- what stands in the journal at a place was asked of that shard
asked_at : (count : ℕ) (a : ℕ) (ws : List WorkerParts) (k n : ℕ) (d : WorkerParts) → AreJournalsFrom count a (map (λ (w : WorkerParts). w.shard.journal) ws) → k < length ws → n ≡ a + k
    → All (λ (i : Item). IsAskedOf count n i.entry.command) (get_or ws k d).shard.journal
asked_at count a [] k n d asked less is = absurd (omega (arith, less))
asked_at count a (w ∷ ws) zero n d asked less is = subst (λ m. All (λ (i : Item). IsAskedOf count m i.entry.command) w.shard.journal) (omega (arith, is)) asked.0
asked_at count a (w ∷ ws) (suc k) n d asked less is = asked_at count (a + 1) ws k n d asked.1 (omega (arith, less)) (omega (arith, is))

-- ---- quotes that the shards of an office gave to a lane

module _ (fares : FareEditions) (office workers : List WorkerParts) (l : LaneParts) (d : WorkerParts) (day shards : ℕ)
    (new : IsNewOffice fares office) (same : AllZip IsSameWorker office workers) (answered : All (IsAnswered l) workers)
    (was_asked : AreJournalsFrom (length workers) 0 (map (λ (w : WorkerParts). w.shard.journal) workers))
    (own : IsOfShards l) (many : length l.shards ≡ length workers) (count : shards ≡ length workers) where
  abbrev at : ℕ → WorkerParts
  at k = get_or workers k d

  number_at : (k : ℕ) → k < length workers → (at k).shard.number ≡ k
  number_at k less =
      let n = length office in
      let is = place_of (λ (w : WorkerParts). w.shard.number) 0 workers n k d (same_numbers office workers same ∙ new.numbers) less in omega (arith, is)

  as_many : length office ≡ length workers
  as_many = length_all_zip IsSameWorker office workers same

  tables_at : (k : ℕ) → k < length workers → (at k).shard.editions ≡ fares
  tables_at k less = (AllZip-get_or IsSameWorker office workers k d d same (subst (λ n. k < n) (sym as_many) less)).editions ∙ new.editions k d (subst (λ n. k < n) (sym as_many) less)

  base_at : (k : ℕ) → k < length workers → (at k).shard.base ≡ empty
  base_at k less = (AllZip-get_or IsSameWorker office workers k d d same (subst (λ n. k < n) (sym as_many) less)).base ∙ new.bases k d (subst (λ n. k < n) (sym as_many) less)

  -- an answer that the lane took is to an item in the journal of its shard
  answer_of : (a : Answer) → Has l.answers.got a → (a.shard < length workers) × Answers l.number fares empty (at a.shard).shard.journal a
  answer_of a has =
      let less : a.shard < length workers = subst (λ n. a.shard < n) many (of_one (λ (x : Answer). x.shard < length l.shards) l.answers.got a own.taken has) in
      (less, by (at a.shard) (number_at a.shard less) (tables_at a.shard less) (base_at a.shard less) (answered a.shard d less))
    where
      by : (w : WorkerParts) → w.shard.number ≡ a.shard → w.shard.editions ≡ fares → w.shard.base ≡ empty → IsAnswered l w → Answers l.number fares empty w.shard.journal a
      by w number editions base is =
          let stands = in_whole (of by_shard w.shard.number l.answers.got) (answers_for l.number w.shard) a is (chosen_in by_shard w.shard.number l.answers.got a (sym number) has) in
          let found = answers_one w.shard.number l.number 0 w.shard.editions w.shard.base w.shard.journal a stands in
          subst (λ b. Answers l.number fares b w.shard.journal a) base (subst (λ t. Answers l.number t w.shard.base w.shard.journal a) editions found)

  -- a shard gave its quotes after a front of its journal
  record HasBrought (k : ℕ) (t : Taken) : Type 0 where
    front : List Item
    first : IsPrefix front (at k).shard.journal
    asked : IsAskedAfter front l.number (at k) t
    brings : Brings (batch fares (replay fares empty front) day k shards) t.answer

  abbrev transcript : ℕ → Option Answer
  transcript ticket = answer_to ticket l.answers.got

  has_brought : (k : ℕ) (t : Taken) (o : Option Answer) → o ≡ t.answer → t.asked ≡ asked.Quotes day k shards → brings_quotes o ≡ true → IfSome o (IsAnswerTo transcript t) → HasBrought k t
  has_brought k t None is asks gives its = cc
  has_brought k t (Some a) is asks gives its =
      let there = answer_of a (found_in (λ (x : Answer). x.ticket == t.ticket) l.answers.got a its.0) in
      let found = there.1 in
      let command : found.item.entry.command ≡ asked.Quotes day k shards = found.command ∙ (its.2 ∙ asks) in
      let stands = subst (All (λ (i : Item). IsAskedOf (length workers) a.shard i.entry.command)) (sym found.parts) (asked_at (length workers) 0 workers a.shard a.shard d was_asked there.0 (omega arith)) in
      let mine = of_middle (λ (i : Item). IsAskedOf (length workers) a.shard i.entry.command) found.front found.item found.back stands in
      let named : k ≡ a.shard = (subst (λ c. IsAskedOf (length workers) a.shard c) command mine).0 in
      record {
        front = found.front;
        first = subst (λ n. IsPrefix found.front (at n).shard.journal) (sym named) (found.item ∷ found.back, found.parts);
        asked =
            subst (λ n. IsAskedAfter found.front l.number (at n) t) (sym named)
            (record { item = found.item; later = found.back; journal = sym found.parts; own = found.own; ticket = found.ticket ∙ its.1; command = found.command ∙ its.2 });
        brings = subst (λ p. Brings (batch fares (replay fares empty found.front) day k shards) p) is
            (quoted fares (replay fares empty found.front) found.item.refused_memory found.item.entry.command day k shards a.reply command found.reply gives);
      }

  -- each shard from one on did
  abbrev AllBrought : ℕ → List Taken → Type 0
  AllBrought k [] = ⊤
  AllBrought k (t ∷ ts) = HasBrought k t × AllBrought (suc k) ts

  all_brought : (k : ℕ) (ts : List Taken) → AreQuotes day shards k ts → AreBrought ts → AreAnswered transcript ts → AllBrought k ts
  all_brought k [] quotes brought its = tt
  all_brought k (t ∷ ts) quotes brought its = (has_brought k t t.answer refl quotes.1 brought.0 its.0, all_brought (suc k) ts quotes.2 brought.1 its.1)

  abbrev front_at : (k n : ℕ) (ts : List Taken) → AllBrought k ts → List Item
  front_at k n [] all = []
  front_at k zero (t ∷ ts) all = all.0.front
  front_at k (suc n) (t ∷ ts) all = front_at (suc k) n ts all.1

  first_at : (k n m : ℕ) (ts : List Taken) (all : AllBrought k ts) → n < length ts → m ≡ k + n → IsPrefix (front_at k n ts all) (at m).shard.journal
  first_at k n m [] all less is = absurd (omega (arith, less))
  first_at k zero m (t ∷ ts) all less is = subst (λ j. IsPrefix all.0.front (at j).shard.journal) (omega (arith, is)) all.0.first
  first_at k (suc n) m (t ∷ ts) all less is = first_at (suc k) n m ts all.1 (omega (arith, less)) (omega (arith, is))

  are_fronts : (front : ℕ → List Item) (k : ℕ) (ws : List WorkerParts) → ((n m : ℕ) → n < length ws → m ≡ k + n → IsPrefix (front m) (get_or ws n d).shard.journal) → AreFronts front k ws
  are_fronts front k [] each = tt
  are_fronts front k (w ∷ ws) each = (each 0 k (omega arith) (omega arith), are_fronts front (suc k) ws (λ n m less is. each (suc n) m (omega (arith, less)) (omega (arith, is))))

  asked_of : (k n m : ℕ) (ts : List Taken) (all : AllBrought k ts) (e : Taken) → n < length ts → m ≡ k + n → IsAskedAfter (front_at k n ts all) l.number (at m) (get_or ts n e)
  asked_of k n m [] all e less is = absurd (omega (arith, less))
  asked_of k zero m (t ∷ ts) all e less is = subst (λ j. IsAskedAfter all.0.front l.number (at j) t) (omega (arith, is)) all.0.asked
  asked_of k (suc n) m (t ∷ ts) all e less is = asked_of (suc k) n m ts all.1 e (omega (arith, less)) (omega (arith, is))

  are_asked : (front : ℕ → List Item) (k : ℕ) (ws : List WorkerParts) (ts : List Taken) → length ts ≡ length ws
      → ((n m : ℕ) (e : Taken) → n < length ws → m ≡ k + n → IsAskedAfter (front m) l.number (get_or ws n d) (get_or ts n e)) → AreAskedAfter front l.number k ws ts
  are_asked front k [] ts long each = tt
  are_asked front k (w ∷ ws) [] long each = cc
  are_asked front k (w ∷ ws) (t ∷ ts) long each =
      (each 0 k t (omega arith) (omega arith), are_asked front (suc k) ws ts (omega (arith, long)) (λ n m e less is. each (suc n) m e (omega (arith, less)) (omega (arith, is))))

  of_shards : (each : ℕ → State) (k : ℕ) (ts : List Taken) (all : AllBrought k ts) → ((n m : ℕ) → n < length ts → m ≡ k + n → each m ≡ replay fares empty (front_at k n ts all)) → AreOfShards fares each day shards k ts
  of_shards each k [] all are = tt
  of_shards each k (t ∷ ts) all are = (
    subst (λ s. Brings (batch fares s day k shards) t.answer) (sym (are 0 k (omega arith) (omega arith))) all.0.brings,
    of_shards each (suc k) ts all.1 (λ n m less is. are (suc n) m (omega (arith, less)) (omega (arith, is))),
  )

  pub one_close_of : ShardsCloseAsMerge → (put : List Taken) → 1 ≤ shards → AreQuotes day shards 0 put → AreAnswered transcript put → IsWhole shards put → IsOneCloseOf fares day l.number workers put
  one_close_of law put some quotes its whole =
      let all = all_brought 0 put quotes whole.1 its in
      let long = whole.0 in
      record {
        one = record {
          front = λ n. front_at 0 n put all;
          fronts = are_fronts (λ n. front_at 0 n put all) 0 workers (λ n m less is. first_at 0 m n put all (omega (arith, less, is, long, count)) (omega (arith, is)));
          closed = λ ledger merged asks same.
              law fares shards (λ _. empty) (record { state = empty; ledger = ledger }) merged day put some (λ account. refl) (subst (λ n. AreAskedOf n merged) (sym count) asks) long
              (of_shards (λ shard. replay fares empty (items_of shard merged)) 0 put all
              (λ n m less is. ap (replay fares empty) (same m (omega (arith, less, is, long, count)) ∙ ap (λ j. front_at 0 j put all) (omega (arith, is)))));
        };
        asked =
            are_asked (λ n. front_at 0 n put all) 0 workers put (long ∙ count)
            (λ n m e less is. subst (λ j. IsAskedAfter (front_at 0 m put all) l.number (at j) (get_or put j e)) (omega (arith, is)) (asked_of 0 m m put all e (omega (arith, less, is, long, count)) (omega arith)));
      }

  pub one_close : ShardsCloseAsMerge → (put : List Taken) → 1 ≤ shards → AreQuotes day shards 0 put → AreAnswered transcript put → IsWhole shards put → IsOneClose fares day workers put
  one_close law put some quotes its whole = (one_close_of law put some quotes its whole).one

-- ---- an office that has ended

pub some_worker : (ws : List WorkerParts) → 1 ≤ length ws → WorkerParts
some_worker [] some = absurd (omega (arith, some))
some_worker (w ∷ ws) some = w

unfoldable pub over_as_one : ShardsCloseAsMerge → (office : List WorkerParts) (ls : List LaneParts) (l : LaneParts) (day shards : ℕ) (put : List Taken) → AreAllWith office ls l → shards ≡ length l.shards
    → AreQuotes day shards 0 put → AreAnswered (λ ticket. answer_to ticket l.answers.got) put → IsOver office (ls ++ l ∷ []) → IsOverAsOne office (ls ++ l ∷ []) day shards put
over_as_one law office ls l day shards put all count quotes its over = record {
  over = over;
  one = λ fares new whole.
      let ended = over.2 in
      let long = length_all_zip IsSameWorker office ended.workers ended.same in
      let mine : IsLaneOf office l = (of_last (IsLaneOf office) ls l all.0.lanes_of_them).1 in
      let ways = sym (length-map l.shards (λ (s : SenderParts Entry). s.mailbox)) ∙ (ap length mine.0 ∙ length-map office (λ (w : WorkerParts). w.requests.mailbox)) in
      let some = new.some in
      one_close fares office ended.workers l (some_worker office some) day shards new ended.same
      (of_last (λ (m : LaneParts). All (IsAnswered m) ended.workers) ls l ended.ends.answered).1
      (subst (AreJournalsFrom (length ended.workers) 0) ended.ends.journals_are ended.ends.asked)
      mine.2 (ways ∙ long) (count ∙ (ways ∙ long)) law put (omega (arith, some, count, ways)) quotes its whole;
}

-- ---- a close while other lanes send

at_place : {X : Type 0} (P : X → Type 0) (xs : List X) (k : ℕ) (x : X) → slice_get xs k ≡ Some x → All P xs → P x
at_place P [] k x there all = cc
at_place P (y ∷ xs) zero x there all = let same : y ≡ x = cc in subst P same (All-head P y xs all)
at_place P (y ∷ xs) (suc k) x there all = at_place P xs k x there (All-tail P y xs all)

still_answer : (before after : ℕ → Option Answer) (t : Taken) (o : Option Answer) → NothingIsLost before after → IfSome o (IsAnswerTo before t) → IfSome o (IsAnswerTo after t)
still_answer before after t None kept its = tt
still_answer before after t (Some a) kept its = (kept t.ticket a its.0, its.1, its.2)

still_answered : (before after : ℕ → Option Answer) (ts : List Taken) → NothingIsLost before after → AreAnswered before ts → AreAnswered after ts
still_answered before after [] kept its = tt
still_answered before after (t ∷ ts) kept its = (still_answer before after t t.answer kept its.0, still_answered before after ts kept its.1)

pub closes_are_one : ShardsCloseAsMerge → ClosesAreOne
closes_are_one law fares office ls l place day put transcript new together there quotes its whole kept over =
    let ended = over.2 in
    let long = length_all_zip IsSameWorker office ended.workers ended.same in
    let mine : IsLaneOf office l = at_place (IsLaneOf office) ls place l there together.lanes_of_them in
    let ways = sym (length-map l.shards (λ (s : SenderParts Entry). s.mailbox)) ∙ (ap length mine.0 ∙ length-map office (λ (w : WorkerParts). w.requests.mailbox)) in
    let some = new.some in
    one_close_of fares office ended.workers l (some_worker office some) day (length l.shards) new ended.same
    (at_place (λ (m : LaneParts). All (IsAnswered m) ended.workers) ls place l there ended.ends.answered)
    (subst (AreJournalsFrom (length ended.workers) 0) ended.ends.journals_are ended.ends.asked)
    mine.2 (ways ∙ long) (ways ∙ long) law put (omega (arith, some, ways)) quotes (still_answered transcript (λ ticket. answer_to ticket l.answers.got) put kept its) whole
