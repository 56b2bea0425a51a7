-- What is opened: mailboxes with their senders, then lanes and workers over these.
use Rattle.std.proofs.Common.{◌≡◌, ℕ, zero, suc, ◌+◌, ◌<◌, ◌≤◌, ◌⊎◌, inl, inr, List, [], ◌∷◌, ◌++◌, All, map, length, take, drop, get_or, set, Option, Some, None, slice_get, refl, sym, ap, ◌∙◌, subst, append_assoc, append-nil, arith}
use Rattle.std.specs.List.{range_with_len, AllZip}
use Rattle.std.proofs.lemmas.List.{map_push}
use Rattle.std.proofs.lemmas.List.FromFn.{map-range_with_len_more, length-map-range_with_len}
use Rattle.std.proofs.lemmas.List.Elements.{All-nil, All-cons, All-head, All-tail, All-push, All-map}
use Rattle.std.proofs.Math.Seq.{take-length}
use Rattle.std.proofs.Math.ListN.{drop_of_length-le}
use Rattle.std.specs.Option.{option_map}
use Rattle.std.proofs.lemmas.Option.{slice_get-map, slice_get_within, get_or_from_slice_get}
use Rattle.pay_tables.specs.Words.{FareEditions}
use Rattle.pay_mailbox.specs.Words.{MailboxParts, SenderParts, ReceiverParts, sender_of, having_made}
use Rattle.pay_shard.specs.Words.{ShardParts, answers_given}
use Rattle.pay_shard.specs.declared.item.Entry.{Entry}
use Rattle.pay_shard.specs.declared.reply.Answer.{Answer}
use Rattle.pay_shard.specs.declared.limits.TheConstants.{MOST_SHARDS}
use Rattle.pay_lanes.specs.Parts.{LaneParts, WorkerParts}
use Rattle.pay_lanes.specs.Working.{mailboxes, at_lane, AreTold}
use Rattle.pay_lanes.proofs.Asked.{new_of_shards}
use Rattle.pay_lanes.specs.Ends.{lanes_of, numbers, IsWayTo, IsWorkerOf, AreTogether}
use Rattle.pay_lanes.specs.Openings.{IsNewWorker, IsNewLane, IsNewReceiver, IsNewSender, AreNewSenders, IsReady, shard_numbers, began_of, requests_of, ways_of, having_made_more, senders_after, lanes_from}
use Rattle.pay_lanes.specs.declared.limits.TheConstants.{MOST_LANES, MOST_REQUESTS, MOST_ANSWERS}

next_place : (place : ℕ) → suc place ≡ place + 1
next_place place = omega arith

nothing_below : (place : ℕ) → place < 0 → ⊥
nothing_below place lt = omega (arith, lt)

-- ---- what holds of each item

module _ {X : Type 0} where
  pub all_at : (P : X → Type 0) (xs : List X) (k : ℕ) (x : X) → slice_get xs k ≡ Some x → All P xs → P x
  all_at P xs k x at all = subst P (get_or_from_slice_get xs k x x at) (all k x (slice_get_within xs k x at))

  pub all_still : (P Q : X → Type 0) → ((x : X) → P x → Q x) → (xs : List X) → All P xs → All Q xs
  all_still P Q f xs all k d lt = f (get_or xs k d) (all k d lt)

  pub all_of_map : {Y : Type 0} (f : X → Y) (P : Y → Type 0) (xs : List X) → All P (map f xs) → All (λ x. P (f x)) xs
  all_of_map f P [] all = All-nil (λ x. P (f x))
  all_of_map f P (x ∷ xs) all = All-cons (λ x. P (f x)) x xs (All-head P (f x) (map f xs) all) (all_of_map f P xs (All-tail P (f x) (map f xs) all))

-- ---- a new lane, and a new worker

pub new_told : (s : ShardParts) (ways : List (SenderParts Answer)) → s.journal ≡ [] → All (IsNewSender s.number) ways → AreTold s None ways
new_told s ways none new lane way at =
    let it : IsNewSender s.number way = all_at (IsNewSender s.number) ways lane way at new in
    (it.0, append-nil way.sent ∙ (it.1 ∙ sym (ap (λ j. at_lane lane j (answers_given s)) none)))

-- ---- one more sender of each receiver

module _ {T : Type 0} where
  -- receivers, once so many of the first have made one more sender
  abbrev pub after_some : ℕ → List (ReceiverParts T) → List (ReceiverParts T)
  after_some zero rs = rs
  after_some (suc place) [] = []
  after_some (suc place) (r ∷ rs) = having_made r ∷ after_some place rs

  -- the next is as it was
  pub some_next : (place : ℕ) (rs : List (ReceiverParts T)) (d : ReceiverParts T) → get_or (after_some place rs) place d ≡ get_or rs place d
  some_next zero rs d = refl
  some_next (suc place) [] d = refl
  some_next (suc place) (r ∷ rs) d = some_next place rs d

  next_made : (place : ℕ) (rs : List (ReceiverParts T)) (r d : ReceiverParts T) → place < length rs → r ≡ having_made (get_or rs place d) → set (after_some place rs) place r ≡ after_some (suc place) rs
  next_made zero [] r d lt is = refl
  next_made (suc place) [] r d lt is = refl
  next_made zero (x ∷ rs) r d lt is = ap (λ y. y ∷ rs) is
  next_made (suc place) (x ∷ rs) r d lt is = ap (λ l. having_made x ∷ l) (next_made place rs r d (omega (arith, lt)) is)

  pub some_more : (place : ℕ) (rs : List (ReceiverParts T)) (r d : ReceiverParts T) → place < length rs → r ≡ having_made (get_or rs place d) → set (after_some place rs) place r ≡ after_some (place + 1) rs
  some_more place rs r d lt is = next_made place rs r d lt is ∙ ap (λ n. after_some n rs) (next_place place)

  pub some_all : (rs : List (ReceiverParts T)) → after_some (length rs) rs ≡ having_made_more 1 rs
  some_all [] = refl
  some_all (r ∷ rs) = ap (λ l. having_made r ∷ l) (some_all rs)

  next_sender : (place : ℕ) (rs : List (ReceiverParts T)) (s : SenderParts T) (d : ReceiverParts T) → place < length rs → s ≡ sender_of (get_or rs place d).mailbox (get_or rs place d).made []
      → senders_after 0 (take place rs) ++ s ∷ [] ≡ senders_after 0 (take (suc place) rs)
  next_sender place [] s d lt is = absurd (nothing_below place lt)
  next_sender zero (r ∷ rs) s d lt is = ap (λ y. y ∷ []) (is ∙ ap (λ n. sender_of r.mailbox n []) (omega arith))
  next_sender (suc place) (r ∷ rs) s d lt is = ap (λ l. sender_of r.mailbox (r.made + 0) [] ∷ l) (next_sender place rs s d (omega (arith, lt)) is)

  pub senders_more : (place : ℕ) (rs : List (ReceiverParts T)) (s : SenderParts T) (d : ReceiverParts T) → place < length rs → s ≡ sender_of (get_or rs place d).mailbox (get_or rs place d).made []
      → senders_after 0 (take place rs) ++ s ∷ [] ≡ senders_after 0 (take (place + 1) rs)
  senders_more place rs s d lt is = next_sender place rs s d lt is ∙ ap (λ n. senders_after 0 (take n rs)) (next_place place)

  -- ---- so many more senders of each receiver

  pub none_more : (rs : List (ReceiverParts T)) → having_made_more 0 rs ≡ rs
  none_more [] = refl
  none_more (r ∷ rs) =
      ap (λ n. record { mailbox = r.mailbox; got = r.got; made = n; back = r.back } ∷ having_made_more 0 rs) (omega arith)
      ∙ ap (λ l. r ∷ l) (none_more rs)

  one_more : (count : ℕ) (rs : List (ReceiverParts T)) → having_made_more 1 (having_made_more count rs) ≡ having_made_more (count + 1) rs
  one_more count [] = refl
  one_more count (r ∷ rs) =
      ap (λ n. record { mailbox = r.mailbox; got = r.got; made = n; back = r.back } ∷ having_made_more 1 (having_made_more count rs)) (omega arith)
      ∙ ap (λ l. record { mailbox = r.mailbox; got = r.got; made = r.made + (count + 1); back = r.back } ∷ l) (one_more count rs)

  pub senders_then : (count : ℕ) (rs : List (ReceiverParts T)) → senders_after 0 (having_made_more count rs) ≡ senders_after count rs
  senders_then count [] = refl
  senders_then count (r ∷ rs) =
      ap (λ n. sender_of r.mailbox n [] ∷ senders_after 0 (having_made_more count rs)) (omega arith) ∙ ap (λ l. sender_of r.mailbox (r.made + count) [] ∷ l) (senders_then count rs)

  -- one more of each
  pub one_more_of : (count : ℕ) (rs now after : List (ReceiverParts T)) → now ≡ having_made_more count rs → after ≡ having_made_more 1 now → after ≡ having_made_more (count + 1) rs
  one_more_of count rs now after were more = more ∙ (ap (having_made_more 1) were ∙ one_more count rs)

  -- one more list of senders
  pub lists_more : {V : Type 0} (items : V → List (SenderParts T)) (made after : List V) (list : V) (count : ℕ) (rs now : List (ReceiverParts T))
      → map items made ≡ map (λ k. senders_after k rs) (range_with_len 0 count) → now ≡ having_made_more count rs → items list ≡ senders_after 0 now → after ≡ made ++ list ∷ []
      → map items after ≡ map (λ k. senders_after k rs) (range_with_len 0 (count + 1))
  lists_more items made after list count rs now were is list_is pushed =
      ap (map items) pushed
      ∙ (map_push items made list
      ∙ (ap (λ l. l ++ items list ∷ []) were
      ∙ (ap (λ s. map (λ k. senders_after k rs) (range_with_len 0 count) ++ s ∷ []) (list_is ∙ (ap (senders_after 0) is ∙ senders_then count rs))
      ∙ sym (map-range_with_len_more (λ k. senders_after k rs) 0 count count (omega arith)))))

module _ {T : Type 0} where
  -- the next receiver makes one more sender
  pub receivers_step : (place : ℕ) (rs now : List (ReceiverParts T)) (next d : ReceiverParts T) → place < length rs → now ≡ after_some place rs → next ≡ having_made (get_or now place d)
      → set now place next ≡ after_some (place + 1) rs
  receivers_step place rs now next d lt so_far made =
      ap (λ l. set l place next) so_far ∙ some_more place rs next d lt (made ∙ ap having_made (ap (λ l. get_or l place d) so_far ∙ some_next place rs d))

  -- it is pushed
  pub senders_step : (place : ℕ) (rs now : List (ReceiverParts T)) (d : ReceiverParts T) (made after : List (SenderParts T)) (s : SenderParts T) → place < length rs → now ≡ after_some place rs
      → made ≡ senders_after 0 (take place rs) → s ≡ sender_of (get_or now place d).mailbox (get_or now place d).made [] → after ≡ made ++ s ∷ [] → after ≡ senders_after 0 (take (place + 1) rs)
  senders_step place rs now d made after s lt so_far were new pushed =
      pushed
      ∙ (ap (λ l. l ++ s ∷ []) were
      ∙ senders_more place rs s d lt (new ∙ ap (λ (r : ReceiverParts T). sender_of r.mailbox r.made []) (ap (λ l. get_or l place d) so_far ∙ some_next place rs d)))

-- ---- lanes, one after another

-- lanes that are made, and the number, the senders and the receivers of those that are left
pub record LanesLeft (all made : List LaneParts) (number : ℕ) (lists : List (List (SenderParts Entry))) (rs : List (ReceiverParts Answer)) : Type 0 where
  pub lanes : made ++ lanes_from number lists rs ≡ all
  pub same : length rs ≡ length lists
  pub few : number + length lists ≤ MOST_LANES
  pub own : AreNewSenders number lists
  pub got : All (λ (r : ReceiverParts Answer). r.got ≡ []) rs

module _ (all made : List LaneParts) (number : ℕ) where
  pub lanes_first : (s : List (SenderParts Entry)) (lists : List (List (SenderParts Entry))) (r : ReceiverParts Answer) (rs : List (ReceiverParts Answer)) → LanesLeft all made number (s ∷ lists) (r ∷ rs)
      → LanesLeft all (made ++ record { number = number; shards = s; answers = r; tickets = 0; next = 0 } ∷ []) (number + 1) lists rs
  lanes_first s lists r rs h = record {
    lanes = append_assoc made (record { number = number; shards = s; answers = r; tickets = 0; next = 0 } ∷ []) (lanes_from (number + 1) lists rs) ∙ h.lanes;
    same = omega (arith, h.same);
    few = omega (arith, h.few);
    own = h.own.1;
    got = All-tail (λ (r : ReceiverParts Answer). r.got ≡ []) r rs h.got;
  }

  pub lanes_step : (lists later : List (List (SenderParts Entry))) (rs after : List (ReceiverParts Answer)) (s : List (SenderParts Entry)) (r : ReceiverParts Answer)
      → lists ≡ s ∷ later → rs ≡ r ∷ after → LanesLeft all made number lists rs
      → LanesLeft all (made ++ record { number = number; shards = s; answers = r; tickets = 0; next = 0 } ∷ []) (number + 1) later after
  lanes_step lists later rs after s r ls is h = lanes_first s later r after (subst (λ l. LanesLeft all made number l (r ∷ after)) ls (subst (LanesLeft all made number lists) is h))

  pub lanes_then : (lists later : List (List (SenderParts Entry))) (rs after : List (ReceiverParts Answer)) (s : List (SenderParts Entry)) (r : ReceiverParts Answer) (l : LaneParts) (now : List LaneParts)
      → lists ≡ s ∷ later → rs ≡ r ∷ after → l ≡ record { number = number; shards = s; answers = r; tickets = 0; next = 0 } → now ≡ made ++ l ∷ [] → LanesLeft all made number lists rs
      → LanesLeft all now (number + 1) later after
  lanes_then lists later rs after s r l now ls is its more h =
      subst (λ m. LanesLeft all m (number + 1) later after) (sym (more ∙ ap (λ x. made ++ x ∷ []) its)) (lanes_step lists later rs after s r ls is h)

-- ---- workers, one after another

-- senders and receivers of workers
abbrev pub Ways : Type 0
Ways = List (List (SenderParts Answer)) × List (ReceiverParts Entry)

-- a receiver that has made these senders
abbrev pub IsReadyFor : List (SenderParts Answer) → ReceiverParts Entry → Type 0
IsReadyFor senders r = IsReady MOST_REQUESTS (length senders) r

-- a new worker, whatever lanes it has
abbrev pub IsNew : FareEditions → WorkerParts → Type 0
IsNew fares w = IsNewWorker fares (length w.lanes) w

-- workers that are made, and the number and the ways of those that are left
pub record WorkersLeft (fares : FareEditions) (made : List WorkerParts) (number : ℕ) (left all : Ways) : Type 0 where
  pub numbers : shard_numbers made ≡ range_with_len 0 number
  pub requests : requests_of made ++ left.1 ≡ all.1
  pub ways : ways_of made ++ left.0 ≡ all.0
  pub new : All (IsNew fares) made
  pub count : number + length left.1 ≡ length all.1
  pub ready : AllZip IsReadyFor left.0 left.1
  pub own : AreNewSenders number left.0

pub workers_begin : (fares : FareEditions) (made : List WorkerParts) (left all : Ways) → made ≡ [] → left.0 ≡ all.0 → left.1 ≡ all.1 → AllZip IsReadyFor all.0 all.1 → AreNewSenders 0 all.0 → WorkersLeft fares made 0 left all
workers_begin fares made left all none lists rs ready own = subst (λ m. WorkersLeft fares m 0 left all) (sym none) (record {
  numbers = refl;
  requests = rs;
  ways = lists;
  new = All-nil (IsNew fares);
  count = let many = ap length rs in omega (arith, many);
  ready = subst (λ l. AllZip IsReadyFor l left.1) (sym lists) (subst (AllZip IsReadyFor all.0) (sym rs) ready);
  own = subst (AreNewSenders 0) (sym lists) own;
})

-- the next worker
pub record IsNext (fares : FareEditions) (number : ℕ) (s : List (SenderParts Answer)) (r : ReceiverParts Entry) (w : WorkerParts) : Type 0 where
  pub its_number : w.shard.number ≡ number
  pub its_requests : w.requests ≡ r
  pub its_lanes : w.lanes ≡ s
  pub its_new : IsNewWorker fares (length s) w

module _ (fares : FareEditions) (made : List WorkerParts) (number : ℕ) (all : Ways) where
  workers_first : (s : List (SenderParts Answer)) (lists : List (List (SenderParts Answer))) (r : ReceiverParts Entry) (rs : List (ReceiverParts Entry)) (w : WorkerParts)
      → IsNext fares number s r w → WorkersLeft fares made number (s ∷ lists, r ∷ rs) all → WorkersLeft fares (made ++ w ∷ []) (number + 1) (lists, rs) all
  workers_first s lists r rs w next h = record {
    numbers =
        map_push (λ (w : WorkerParts). w.shard.number) made w
        ∙ (ap (λ l. l ++ w.shard.number ∷ []) h.numbers
        ∙ (ap (λ n. range_with_len 0 number ++ n ∷ []) next.its_number ∙ sym (range_more number)));
    requests =
        ap (λ l. l ++ rs) (map_push (λ (w : WorkerParts). w.requests) made w)
        ∙ (append_assoc (requests_of made) (w.requests ∷ []) rs ∙ (ap (λ x. requests_of made ++ x ∷ rs) next.its_requests ∙ h.requests));
    ways =
        ap (λ l. l ++ lists) (map_push (λ (w : WorkerParts). w.lanes) made w)
        ∙ (append_assoc (ways_of made) (w.lanes ∷ []) lists ∙ (ap (λ x. ways_of made ++ x ∷ lists) next.its_lanes ∙ h.ways));
    new = All-push (IsNew fares) made w h.new (subst (λ (l : List (SenderParts Answer)). IsNewWorker fares (length l) w) (sym next.its_lanes) next.its_new);
    count = omega (arith, h.count);
    ready = h.ready.1;
    own = h.own.1;
  }
    where
      range_more : (n : ℕ) → range_with_len 0 (n + 1) ≡ range_with_len 0 n ++ n ∷ []
      range_more n = sym (map_same (range_with_len 0 (n + 1))) ∙ (map-range_with_len_more (λ k. k) 0 n n (omega arith) ∙ ap (λ l. l ++ n ∷ []) (map_same (range_with_len 0 n)))
        where
          map_same : (l : List ℕ) → map (λ k. k) l ≡ l
          map_same [] = refl
          map_same (k ∷ l) = ap (λ m. k ∷ m) (map_same l)

  pub workers_step : (lists later : List (List (SenderParts Answer))) (rs after : List (ReceiverParts Entry)) (s : List (SenderParts Answer)) (r : ReceiverParts Entry) (w : WorkerParts)
      → lists ≡ s ∷ later → rs ≡ r ∷ after → IsNext fares number s r w → WorkersLeft fares made number (lists, rs) all
      → WorkersLeft fares (made ++ w ∷ []) (number + 1) (later, after) all
  workers_step lists later rs after s r w ls is next h =
      workers_first s later r after w next (subst (λ l. WorkersLeft fares made number (l, r ∷ after) all) ls (subst (λ l. WorkersLeft fares made number (lists, l) all) is h))

  pub workers_then : (lists later : List (List (SenderParts Answer))) (rs after : List (ReceiverParts Entry)) (s : List (SenderParts Answer)) (r : ReceiverParts Entry) (w : WorkerParts) (now : List WorkerParts)
      → lists ≡ s ∷ later → rs ≡ r ∷ after → IsNext fares number s r w → now ≡ made ++ w ∷ [] → WorkersLeft fares made number (lists, rs) all
      → WorkersLeft fares now (number + 1) (later, after) all
  workers_then lists later rs after s r w now ls is next more h = subst (λ m. WorkersLeft fares m (number + 1) (later, after) all) (sym more) (workers_step lists later rs after s r w ls is next h)

  pub workers_done : (lists : List (List (SenderParts Answer))) (rs : List (ReceiverParts Entry)) → (lists ≡ []) ⊎ (rs ≡ []) → WorkersLeft fares made number (lists, rs) all
      → (shard_numbers made ≡ range_with_len 0 (length all.1)) × (requests_of made ≡ all.1) × (ways_of made ≡ all.0)
  workers_done [] [] none h = (h.numbers ∙ ap (range_with_len 0) (no_more number (length all.1) h.count), sym (append-nil (requests_of made)) ∙ h.requests, sym (append-nil (ways_of made)) ∙ h.ways)
    where
      no_more : (n m : ℕ) → n + 0 ≡ m → n ≡ m
      no_more n m e = omega (arith, e)
  workers_done [] (r ∷ rs) none h = absurd h.ready
  workers_done (s ∷ lists) [] none h = absurd h.ready
  workers_done (s ∷ lists) (r ∷ rs) (inl none) h = cc
  workers_done (s ∷ lists) (r ∷ rs) (inr none) h = cc

-- ---- what is left of lists

-- one less is left of each list
pub one_less : {X Y : Type 0} (xs ws : List X) (ys vs : List Y) (x : X) (y : Y) → xs ≡ x ∷ ws → ys ≡ y ∷ vs → length xs ≡ length ys → length ws ≡ length vs
one_less xs ws ys vs x y a b same = shorter (sym (ap length a) ∙ (same ∙ ap length b))
  where
    shorter : length (x ∷ ws) ≡ length (y ∷ vs) → length ws ≡ length vs
    shorter e = omega (arith, e)

pub none_left : {X : Type 0} (xs : List X) (n : ℕ) → n ≡ length xs → n ≡ 0 → xs ≡ []
none_left [] n long none = refl
none_left (x ∷ xs) n long none = absurd (impossible (sym long ∙ none))
  where
    impossible : length (x ∷ xs) ≡ 0 → ⊥
    impossible e = omega (arith, e)

pub of_either : {A B C : Type 0} → A ⊎ B → (A → C) → (B → C) → C
of_either (inl a) f h = f a
of_either (inr b) f h = h b

-- ---- what gates begin with

ended_too : {G : Type 0} (lists : List (List (SenderParts Answer))) (rs : List (ReceiverParts Entry)) (left : List G) → (lists ≡ []) ⊎ (rs ≡ []) → AllZip IsReadyFor lists rs → length left ≡ length rs → left ≡ []
ended_too [] [] left end ready long = none_left left 0 (sym long) refl
ended_too [] (r ∷ rs) left end ready long = absurd ready
ended_too (s ∷ lists) [] left end ready long = absurd ready
ended_too (s ∷ lists) (r ∷ rs) left (inl none) ready long = cc
ended_too (s ∷ lists) (r ∷ rs) left (inr none) ready long = cc

module _ {G : Type 0} (began : G → Option (List ℕ)) (gates : List G) where
  pub began_first : (made : List WorkerParts) (left : List G) → made ≡ [] → left ≡ gates → began_of made ++ map began left ≡ map began gates
  began_first made left none same = ap (λ m. began_of m ++ map began left) none ∙ ap (map began) same

  pub began_more : (made now : List WorkerParts) (w : WorkerParts) (left after : List G) (gate : G) → now ≡ made ++ w ∷ [] → w.began ≡ began gate → left ≡ gate ∷ after
      → began_of made ++ map began left ≡ map began gates → began_of now ++ map began after ≡ map began gates
  began_more made now w left after gate more its took was =
      ap (λ m. began_of m ++ map began after) more
      ∙ (ap (λ l. l ++ map began after) (map_push (λ (v : WorkerParts). v.began) made w)
      ∙ (append_assoc (began_of made) (w.began ∷ []) (map began after)
      ∙ (ap (λ b. began_of made ++ b ∷ map began after) its ∙ (ap (λ l. began_of made ++ map began l) (sym took) ∙ was))))

  pub began_all : (made : List WorkerParts) (left : List G) (lists : List (List (SenderParts Answer))) (rs : List (ReceiverParts Entry)) → (lists ≡ []) ⊎ (rs ≡ []) → AllZip IsReadyFor lists rs → length left ≡ length rs
      → began_of made ++ map began left ≡ map began gates → began_of made ≡ map began gates
  began_all made left lists rs end ready long was = sym (append-nil (began_of made)) ∙ (ap (λ l. began_of made ++ map began l) (sym (ended_too lists rs left end ready long)) ∙ was)

-- ---- all that is opened

-- what is lent as a slice, and comes back as long as it was
pub lent : {X : Type 0} (n : ℕ) (now before : List X) → n ≡ length before → length now ≡ length before → take n (now ++ drop (length now) before) ≡ now
lent n now before whole same =
    ap (λ l. take n (now ++ l)) (drop_of_length-le before (omega (arith, same)))
    ∙ (ap (take n) (append-nil now) ∙ (ap (λ m. take m now) (whole ∙ sym same) ∙ take-length now))

module _ {T : Type 0} where
  abbrev boxes : List (ReceiverParts T) → List MailboxParts
  boxes rs = map (λ (r : ReceiverParts T). r.mailbox) rs

  pub more_length : (count : ℕ) (rs : List (ReceiverParts T)) → length (having_made_more count rs) ≡ length rs
  more_length count [] = refl
  more_length count (r ∷ rs) = ap suc (more_length count rs)

  more_boxes : (count : ℕ) (rs : List (ReceiverParts T)) → boxes (having_made_more count rs) ≡ boxes rs
  more_boxes count [] = refl
  more_boxes count (r ∷ rs) = ap (λ l. r.mailbox ∷ l) (more_boxes count rs)

  sender_boxes : (count : ℕ) (rs : List (ReceiverParts T)) → mailboxes (senders_after count rs) ≡ boxes rs
  sender_boxes count [] = refl
  sender_boxes count (r ∷ rs) = ap (λ l. r.mailbox ∷ l) (sender_boxes count rs)

  sender_length : (count : ℕ) (rs : List (ReceiverParts T)) → length (senders_after count rs) ≡ length rs
  sender_length count [] = refl
  sender_length count (r ∷ rs) = ap suc (sender_length count rs)

  -- the lists of senders, from a number on
  abbrev pub lists_of : List (ReceiverParts T) → ℕ → ℕ → List (List (SenderParts T))
  lists_of rs first count = map (λ k. senders_after k rs) (range_with_len first count)

  pub lists_each : (P : List (SenderParts T) → Type 0) (rs : List (ReceiverParts T)) (first count : ℕ) → ((k : ℕ) → P (senders_after k rs)) → All P (lists_of rs first count)
  lists_each P rs first count each = All-map P (λ k. senders_after k rs) (range_with_len first count) (λ k d lt. each (get_or (range_with_len first count) k d))

  pub lists_long : (rs : List (ReceiverParts T)) (first count : ℕ) → All (λ l. length l ≡ length rs) (lists_of rs first count)
  lists_long rs first count = lists_each (λ l. length l ≡ length rs) rs first count (λ k. sender_length k rs)

  lists_boxes : (rs : List (ReceiverParts T)) (first count : ℕ) → All (λ l. mailboxes l ≡ boxes rs) (lists_of rs first count)
  lists_boxes rs first count = lists_each (λ l. mailboxes l ≡ boxes rs) rs first count (λ k. sender_boxes k rs)

  -- what is new has made no sender
  none_made : (capacity : ℕ) (r : ReceiverParts T) → IsNewReceiver capacity r → r.made ≡ 0
  none_made capacity r new = ap (λ (x : ReceiverParts T). x.made) new.0

  numbered : (capacity number : ℕ) (r : ReceiverParts T) → IsNewReceiver capacity r → IsNewSender {T = T} number (sender_of r.mailbox (r.made + number) [])
  numbered capacity number r new = (omega (arith, none_made capacity r new), refl)

  senders_new : (capacity number : ℕ) (rs : List (ReceiverParts T)) → All (IsNewReceiver capacity) rs → All (IsNewSender number) (senders_after number rs)
  senders_new capacity number rs new =
      All-map (IsNewSender number) (λ (r : ReceiverParts T). sender_of r.mailbox (r.made + number) []) rs
      (all_still (IsNewReceiver capacity) (λ (r : ReceiverParts T). IsNewSender number (sender_of r.mailbox (r.made + number) [])) (numbered capacity number) rs new)

  pub lists_new : (capacity first count : ℕ) (rs : List (ReceiverParts T)) → All (IsNewReceiver capacity) rs → AreNewSenders first (lists_of rs first count)
  lists_new capacity first zero rs new = tt
  lists_new capacity first (suc count) rs new = (senders_new capacity first rs new, lists_new capacity (first + 1) count rs new)

  one_ready : (capacity count : ℕ) (r : ReceiverParts T) → IsNewReceiver capacity r → IsReady capacity count (record { mailbox = r.mailbox; got = r.got; made = r.made + count; back = r.back })
  one_ready capacity count r new = record {
    few = new.1;
    got = ap (λ (x : ReceiverParts T). x.got) new.0;
    made = omega (arith, none_made capacity r new);
    back = ap (λ (x : ReceiverParts T). x.back) new.0;
  }

  pub all_ready : (capacity count : ℕ) (rs : List (ReceiverParts T)) → All (IsNewReceiver capacity) rs → All (IsReady capacity count) (having_made_more count rs)
  all_ready capacity count rs new =
      All-map (IsReady capacity count) (λ (r : ReceiverParts T). record { mailbox = r.mailbox; got = r.got; made = r.made + count; back = r.back }) rs
      (all_still (IsNewReceiver capacity) (λ (r : ReceiverParts T). IsReady capacity count (record { mailbox = r.mailbox; got = r.got; made = r.made + count; back = r.back })) (one_ready capacity count) rs new)

pub ready_for : (count : ℕ) (lists : List (List (SenderParts Answer))) (rs : List (ReceiverParts Entry)) → length lists ≡ length rs → All (λ l. length l ≡ count) lists → All (IsReady MOST_REQUESTS count) rs
    → AllZip IsReadyFor lists rs
ready_for count [] [] same long ready = tt
ready_for count [] (r ∷ rs) same long ready = cc
ready_for count (s ∷ lists) [] same long ready = cc
ready_for count (s ∷ lists) (r ∷ rs) same long ready = (
  subst (λ n. IsReady MOST_REQUESTS n r) (sym (All-head (λ l. length l ≡ count) s lists long)) (All-head (IsReady MOST_REQUESTS count) r rs ready),
  ready_for count lists rs (omega (arith, same)) (All-tail (λ l. length l ≡ count) s lists long) (All-tail (IsReady MOST_REQUESTS count) r rs ready),
)

-- the lane at a place
abbrev lane_at : ℕ → List (SenderParts Entry) → ReceiverParts Answer → LaneParts
lane_at number s r = record { number = number; shards = s; answers = r; tickets = 0; next = 0 }

same_place : (number : ℕ) → number ≡ number + 0
same_place number = omega arith

later_place : (number k : ℕ) → number + 1 + k ≡ number + suc k
later_place number k = omega arith

lanes_all : (P : LaneParts → Type 0) (number : ℕ) (lists : List (List (SenderParts Entry))) (rs : List (ReceiverParts Answer))
    → ((k : ℕ) (s : List (SenderParts Entry)) (r : ReceiverParts Answer) → slice_get lists k ≡ Some s → slice_get rs k ≡ Some r → P (lane_at (number + k) s r)) → All P (lanes_from number lists rs)
lanes_all P number [] rs each = All-nil P
lanes_all P number (s ∷ lists) [] each = All-nil P
lanes_all P number (s ∷ lists) (r ∷ rs) each =
    All-cons P (lane_at number s r) (lanes_from (number + 1) lists rs) (subst (λ n. P (lane_at n s r)) (sym (same_place number)) (each 0 s r refl refl))
    (lanes_all P (number + 1) lists rs (λ k t q x y. subst (λ n. P (lane_at n t q)) (sym (later_place number k)) (each (suc k) t q x y)))

lanes_numbers : (number : ℕ) (lists : List (List (SenderParts Entry))) (rs : List (ReceiverParts Answer)) → length rs ≡ length lists → numbers (lanes_from number lists rs) ≡ range_with_len number (length lists)
lanes_numbers number [] rs same = refl
lanes_numbers number (s ∷ lists) [] same = cc
lanes_numbers number (s ∷ lists) (r ∷ rs) same = ap (λ l. number ∷ l) (lanes_numbers (number + 1) lists rs (omega (arith, same)))

-- workers over these mailboxes, with ways to the lanes
pub record AreOver (fares : FareEditions) (ws : List WorkerParts) (all : Ways) : Type 0 where
  pub requests : requests_of ws ≡ all.1
  pub ways : ways_of ws ≡ all.0
  pub new : All (IsNew fares) ws

module _ (shards lanes : ℕ) (rs : List (ReceiverParts Entry)) (qs : List (ReceiverParts Answer)) where
  abbrev pub to_shards : List (List (SenderParts Entry))
  to_shards = lists_of rs 0 lanes

  abbrev pub to_lanes : List (List (SenderParts Answer))
  to_lanes = lists_of qs 0 shards

  abbrev pub opened_lanes : List LaneParts
  opened_lanes = lanes_from 0 to_shards (having_made_more shards qs)

  abbrev pub opened_ways : Ways
  opened_ways = (to_lanes, having_made_more lanes rs)

  pub lanes_numbered : length qs ≡ lanes → numbers opened_lanes ≡ range_with_len 0 lanes
  lanes_numbered so_many =
      lanes_numbers 0 to_shards (having_made_more shards qs) (more_length shards qs ∙ (so_many ∙ sym (length-map-range_with_len (λ k. senders_after k rs) 0 lanes)))
      ∙ ap (range_with_len 0) (length-map-range_with_len (λ k. senders_after k rs) 0 lanes)

  pub lanes_are_new : length rs ≡ shards → All (IsNewReceiver MOST_REQUESTS) rs → All (IsNewReceiver MOST_ANSWERS) qs → All (IsNewLane shards) opened_lanes
  lanes_are_new so_many new news =
      lanes_all (IsNewLane shards) 0 to_shards (having_made_more shards qs)
      (λ k s r at there. let ready : IsReady MOST_ANSWERS shards r = all_at (IsReady MOST_ANSWERS shards) (having_made_more shards qs) k r there (all_ready MOST_ANSWERS shards qs news) in record {
        shards = all_at (λ l. length l ≡ length rs) to_shards k s at (lists_long rs 0 lanes) ∙ so_many;
        sent = all_at (All (λ (x : SenderParts Entry). x.sent ≡ [])) to_shards k s at (lists_each (All (λ (x : SenderParts Entry). x.sent ≡ [])) rs 0 lanes (λ n. none_sent n));
        taken = ready.got;
        made = ready.made;
        few = ready.few;
        tickets = refl;
        next = refl;
      })
    where
      none_sent : (n : ℕ) → All (λ (x : SenderParts Entry). x.sent ≡ []) (senders_after n rs)
      none_sent n = All-map (λ (x : SenderParts Entry). x.sent ≡ []) (λ (r : ReceiverParts Entry). sender_of r.mailbox (r.made + n) []) rs (λ k d lt. refl)

  module _ (fares : FareEditions) (ws : List WorkerParts) (over : AreOver fares ws opened_ways) where
    -- what holds of the ways of each worker
    each_way : (P : List (SenderParts Answer) → Type 0) → All P to_lanes → All (λ (w : WorkerParts). P w.lanes) ws
    each_way P all = all_of_map (λ (w : WorkerParts). w.lanes) P ws (subst (All P) (sym over.ways) all)

    pub workers_are_new : length qs ≡ lanes → All (IsNewWorker fares lanes) ws
    workers_are_new so_many k d lt =
        subst (λ n. IsNewWorker fares n (get_or ws k d)) (each_way (λ l. length l ≡ length qs) (lists_long qs 0 shards) k d lt ∙ so_many) (over.new k d lt)

    all_workers_of : (us : List WorkerParts) → All (IsNewWorker fares lanes) us → All (IsWorkerOf (lanes_of us)) us
    all_workers_of [] new = All-nil (IsWorkerOf 0)
    all_workers_of (u ∷ us) new =
        all_still (IsNewWorker fares lanes) (IsWorkerOf (length u.lanes)) (λ (w : WorkerParts) h. (h.lanes ∙ sym (All-head (IsNewWorker fares lanes) u us new).lanes, h.back)) (u ∷ us) new

    way_boxes : (us : List WorkerParts) → boxes (requests_of us) ≡ map (λ (w : WorkerParts). w.requests.mailbox) us
    way_boxes [] = refl
    way_boxes (u ∷ us) = ap (λ l. u.requests.mailbox ∷ l) (way_boxes us)

    some_same : {X : Type 0} (x y : X) (o p : Option X) → o ≡ Some x → p ≡ Some y → o ≡ p → x ≡ y
    some_same x y o p a b e = cc

    pub are_together : length rs ≡ shards → length qs ≡ lanes → shards ≤ MOST_SHARDS → All (IsNewLane shards) opened_lanes → AreTogether ws opened_lanes
    are_together so_many as_many few new = record {
      few = subst (λ n. n ≤ MOST_SHARDS) (sym long) few;
      workers_of = all_workers_of ws (workers_are_new as_many);
      lanes_of_them = λ n d lt. let linked = all_linked n d lt in (linked.0, linked.1, new_of_shards shards (get_or opened_lanes n d) (new n d lt));
    }
      where
        length_map : (us : List WorkerParts) → length (requests_of us) ≡ length us
        length_map [] = refl
        length_map (u ∷ us) = ap suc (length_map us)

        long : length ws ≡ shards
        long = sym (length_map ws) ∙ (ap length over.requests ∙ (more_length lanes rs ∙ so_many))

        from_zero : (k : ℕ) → 0 + k ≡ k
        from_zero k = omega arith

        box_at : (k : ℕ) (r : ReceiverParts Answer) → slice_get (having_made_more shards qs) k ≡ Some r → slice_get (boxes qs) k ≡ Some r.mailbox
        box_at k r there =
            ap (λ l. slice_get l k) (sym (more_boxes shards qs))
            ∙ (slice_get-map (λ (x : ReceiverParts Answer). x.mailbox) (having_made_more shards qs) k ∙ ap (option_map (λ (x : ReceiverParts Answer). x.mailbox)) there)

        all_linked : All (λ (l : LaneParts). (mailboxes l.shards ≡ map (λ (w : WorkerParts). w.requests.mailbox) ws) × All (IsWayTo l) ws) opened_lanes
        all_linked =
            lanes_all (λ (l : LaneParts). (mailboxes l.shards ≡ map (λ (w : WorkerParts). w.requests.mailbox) ws) × All (IsWayTo l) ws) 0 to_shards (having_made_more shards qs)
            (λ k s r at there. (
              all_at (λ l. mailboxes l ≡ boxes rs) to_shards k s at (lists_boxes rs 0 lanes) ∙ (sym (more_boxes lanes rs) ∙ (ap boxes (sym over.requests) ∙ way_boxes ws)),
              all_still (λ (w : WorkerParts). mailboxes w.lanes ≡ boxes qs) (IsWayTo (lane_at (0 + k) s r))
                  (λ (w : WorkerParts) same mailbox found. some_same mailbox r.mailbox (slice_get (boxes qs) (0 + k)) (slice_get (boxes qs) k) (ap (λ l. slice_get l (0 + k)) (sym same) ∙ found) (box_at k r there) (ap (slice_get (boxes qs)) (from_zero k)))
                  ws (each_way (λ l. mailboxes l ≡ boxes qs) (lists_boxes qs 0 shards)),
            ))

module _ {T : Type 0} where
  -- receivers that were lent to make senders
  pub came_back : (n count : ℕ) (before given now : List (ReceiverParts T)) → n ≡ length before → given ≡ before → now ≡ having_made_more count given → take n (now ++ drop (length now) before) ≡ having_made_more count before
  came_back n count before given now whole same made =
      let is : now ≡ having_made_more count before = made ∙ ap (having_made_more count) same in
      lent n now before whole (ap length is ∙ more_length count before) ∙ is

  module _ {V : Type 0} (items : V → List (SenderParts T)) where
    -- the lists of senders that were made of what was lent
    pub lists_made : (count : ℕ) (lists : List V) (before given : List (ReceiverParts T)) → given ≡ before → map items lists ≡ lists_of given 0 count → map items lists ≡ lists_of before 0 count
    lists_made count lists before given same made = made ∙ ap (λ rs. lists_of rs 0 count) same

    pub lists_length : (count : ℕ) (lists : List V) (rs : List (ReceiverParts T)) → map items lists ≡ lists_of rs 0 count → length lists ≡ count
    lists_length count lists rs made = sym (mapped lists) ∙ (ap length made ∙ length-map-range_with_len (λ k. senders_after k rs) 0 count)
      where
        mapped : (l : List V) → length (map items l) ≡ length l
        mapped [] = refl
        mapped (x ∷ l) = ap suc (mapped l)

    pub made_new : (capacity count : ℕ) (lists : List V) (rs : List (ReceiverParts T)) → map items lists ≡ lists_of rs 0 count → All (IsNewReceiver capacity) rs → AreNewSenders 0 (map items lists)
    made_new capacity count lists rs made new = subst (AreNewSenders 0) (sym made) (lists_new capacity 0 count rs new)

  pub got_none : (capacity count : ℕ) (rs now : List (ReceiverParts T)) → now ≡ having_made_more count rs → All (IsNewReceiver capacity) rs → All (λ (r : ReceiverParts T). r.got ≡ []) now
  got_none capacity count rs now is new =
      subst (All (λ (r : ReceiverParts T). r.got ≡ [])) (sym is) (all_still (IsReady capacity count) (λ (r : ReceiverParts T). r.got ≡ []) (λ r h. h.got) (having_made_more count rs) (all_ready capacity count rs new))

pub ready_now : (shards lanes : ℕ) (rs now : List (ReceiverParts Entry)) (qs : List (ReceiverParts Answer)) (lists : List (List (SenderParts Answer))) → length rs ≡ shards → length qs ≡ lanes
    → now ≡ having_made_more lanes rs → lists ≡ lists_of qs 0 shards → All (IsNewReceiver MOST_REQUESTS) rs → AllZip IsReadyFor lists now
ready_now shards lanes rs now qs lists so_many as_many is made new =
    subst (λ l. AllZip IsReadyFor l now) (sym made)
    (subst (AllZip IsReadyFor (lists_of qs 0 shards)) (sym is)
    (ready_for lanes (lists_of qs 0 shards) (having_made_more lanes rs) (length-map-range_with_len (λ k. senders_after k qs) 0 shards ∙ sym (more_length lanes rs ∙ so_many))
    (all_still (λ l. length l ≡ length qs) (λ l. length l ≡ lanes) (λ l long. long ∙ as_many) (lists_of qs 0 shards) (lists_long qs 0 shards)) (all_ready MOST_REQUESTS lanes rs new)))

-- the lanes and the workers that were made of these
pub lanes_are : (shards lanes : ℕ) (rs : List (ReceiverParts Entry)) (qs now : List (ReceiverParts Answer)) (lists : List (List (SenderParts Entry))) (made : List LaneParts) → lists ≡ lists_of rs 0 lanes
    → now ≡ having_made_more shards qs → made ≡ lanes_from 0 lists now → made ≡ opened_lanes shards lanes rs qs
lanes_are shards lanes rs qs now lists made lists_are is so = so ∙ (ap (λ l. lanes_from 0 l now) lists_are ∙ ap (lanes_from 0 (lists_of rs 0 lanes)) is)

pub workers_are : (fares : FareEditions) (shards lanes : ℕ) (rs now : List (ReceiverParts Entry)) (qs : List (ReceiverParts Answer)) (lists : List (List (SenderParts Answer))) (ws : List WorkerParts)
    → lists ≡ lists_of qs 0 shards → now ≡ having_made_more lanes rs → requests_of ws ≡ now → ways_of ws ≡ lists → All (IsNew fares) ws → AreOver fares ws (opened_ways shards lanes rs qs)
workers_are fares shards lanes rs now qs lists ws lists_are is requests ways new = record { requests = requests ∙ is; ways = ways ∙ lists_are; new = new }
