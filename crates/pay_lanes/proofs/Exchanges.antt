-- Lanes and a worker that give their ways to each other back.
use Rattle.std.proofs.Common.{◌≡◌, Bool, ℕ, zero, suc, ◌+◌, ◌<◌, ◌≤◌, List, [], ◌∷◌, ◌++◌, All, map, length, take, drop, get_or, set, Some, slice_get, refl, sym, ap, ◌∙◌, subst, append_assoc, arith, add-one, below_more}
use Rattle.std.proofs.lemmas.List.Elements.{All-nil, All-cons, All-head, All-tail}
use Rattle.std.proofs.lemmas.List.FromFn.{length-range_with_len}
use Rattle.std.specs.List.{range_with_len}
use mathlib.Core.List.{IsPrefix}
use Rattle.pay_mailbox.specs.Words.{MailboxParts, SenderParts, ReceiverParts, having_back, having_got, AreAllBack, HasAll, HasFirst, of}
use Rattle.pay_shard.specs.declared.item.Entry.{Entry}
use Rattle.pay_shard.specs.declared.reply.Answer.{Answer}
use Rattle.pay_lanes.specs.Parts.{LaneParts, WorkerParts}
use Rattle.pay_lanes.specs.Passing.{Passed}
use Rattle.pay_lanes.specs.Working.{mailboxes, entries_of, answers_for, held_for, IsWorking}
use Rattle.pay_lanes.specs.Gates.{passed_to, IsGated, IsFirstOf, HasPassed}
use Rattle.pay_lanes.specs.Turns.{by_lane, by_shard}
use Rattle.pay_lanes.specs.Ends.{numbers, exchanged, all_exchanged, IsNext, HasLeft, IsKnown, IsAnswered}
use Rattle.pay_lanes.proofs.Gated.{first_sent}

all_last : {X : Type 0} (P : X → Type 0) (xs : List X) (x : X) → All P (xs ++ x ∷ []) → P x
all_last P [] x h = All-head P x [] h
all_last P (y ∷ xs) x h = all_last P xs x (All-tail P y (xs ++ x ∷ []) h)

-- what was got of the sender that came back last is the first of what it sent
pub last_first : (r q : ReceiverParts Answer) (way : SenderParts Answer) → q ≡ having_back r way → HasFirst by_shard q → IsPrefix (of by_shard way.number r.got) way.sent
last_first r q way same h = all_last (λ (s : SenderParts Answer). IsPrefix (of by_shard s.number r.got) s.sent) r.back way (subst (HasFirst by_shard) same h).0

-- ---- lanes, once the first of them are exchanged

pub untouched : (i : ℕ) (ls : List LaneParts) (ws : List (SenderParts Answer)) (d : LaneParts) → get_or (all_exchanged ls (take i ws)) i d ≡ get_or ls i d
untouched i [] ws d = refl
untouched zero (l ∷ ls) ws d = refl
untouched (suc i) (l ∷ ls) [] d = refl
untouched (suc i) (l ∷ ls) (w ∷ ws) d = untouched i ls ws d

pub none_exchanged : (ls : List LaneParts) → all_exchanged ls [] ≡ ls
none_exchanged [] = refl
none_exchanged (l ∷ ls) = refl

pub put_in : (i : ℕ) (ls : List LaneParts) (ws : List (SenderParts Answer)) (d : LaneParts) (e : SenderParts Answer) → i < length ls → i < length ws
    → set (all_exchanged ls (take i ws)) i (exchanged (get_or ls i d) (get_or ws i e)) ≡ all_exchanged ls (take (suc i) ws)
put_in i [] ws d e h k = let no : ⊥ = omega arith in absurd no
put_in i (l ∷ ls) [] d e h k = let no : ⊥ = omega arith in absurd no
put_in zero (l ∷ ls) (w ∷ ws) d e h k = ap (λ x. exchanged l w ∷ x) (sym (none_exchanged ls))
put_in (suc i) (l ∷ ls) (w ∷ ws) d e h k = ap (λ x. exchanged l w ∷ x) (put_in i ls ws d e (omega arith) (omega arith))

-- ---- the first ways of lanes

abbrev pub firsts : List LaneParts → List (SenderParts Entry)
firsts [] = []
firsts (l ∷ ls) = take 1 l.shards ++ firsts ls

pub firsts_more : (i : ℕ) (ls : List LaneParts) (d : LaneParts) (s : SenderParts Entry) (rest : List (SenderParts Entry)) → i < length ls → (get_or ls i d).shards ≡ s ∷ rest
    → firsts (take (suc i) ls) ≡ firsts (take i ls) ++ s ∷ []
firsts_more i [] d s rest h e = let no : ⊥ = omega arith in absurd no
firsts_more zero (l ∷ ls) d s rest h e = ap (λ x. take 1 x ++ []) e
firsts_more (suc i) (l ∷ ls) d s rest h e =
    ap (λ x. take 1 l.shards ++ x) (firsts_more i ls d s rest (omega arith) e) ∙ sym (append_assoc (take 1 l.shards) (firsts (take i ls)) (s ∷ []))

pub each_more : {X Y : Type 0} (f : X → Y) (i : ℕ) (xs : List X) (d : X) → i < length xs → map f (take (suc i) xs) ≡ map f (take i xs) ++ f (get_or xs i d) ∷ []
each_more f i [] d h = let no : ⊥ = omega arith in absurd no
each_more f zero (x ∷ xs) d h = refl
each_more f (suc i) (x ∷ xs) d h = ap (λ l. f x ∷ l) (each_more f i xs d (omega arith))

-- ---- the loop over the lanes

-- what was taken of the sender is the first of what it sent
abbrev pub IsTaken : LaneParts → SenderParts Answer → Type 0
IsTaken l way = IsPrefix (of by_shard way.number l.answers.got) way.sent

-- the first i of the lanes and the worker have exchanged their ways
pub record HaveExchanged (w : WorkerParts) (ls : List LaneParts) (i : ℕ) (now : List LaneParts) (left : List (SenderParts Answer)) (r : ReceiverParts Entry) : Type 0 where
  pub lanes_now : now ≡ all_exchanged ls (take i w.lanes)
  pub ways_left : left ≡ drop i w.lanes
  pub mailbox : r.mailbox ≡ w.requests.mailbox
  pub got : r.got ≡ w.requests.got
  pub made : r.made ≡ w.requests.made
  pub back : r.back ≡ firsts (take i ls)
  pub numbered : map (λ (s : SenderParts Entry). s.number) r.back ≡ numbers (take i ls)
  pub taken : (k : ℕ) → k < i → (d : LaneParts) (e : SenderParts Answer) → IsTaken (get_or ls k d) (get_or w.lanes k e)

-- ---- before the first lane

pub begun : (w v : WorkerParts) (ls : List LaneParts) → v ≡ w → w.requests.back ≡ [] → HaveExchanged w ls 0 ls v.lanes v.requests
begun w v ls same none = record {
  lanes_now = sym (none_exchanged ls);
  ways_left = ap (λ (x : WorkerParts). x.lanes) same;
  mailbox = ap (λ (x : WorkerParts). x.requests.mailbox) same;
  got = ap (λ (x : WorkerParts). x.requests.got) same;
  made = ap (λ (x : WorkerParts). x.requests.made) same;
  back = ap (λ (x : WorkerParts). x.requests.back) same ∙ none;
  numbered = ap (λ (x : WorkerParts). map (λ (s : SenderParts Entry). s.number) x.requests.back) same ∙ ap (λ l. map (λ (s : SenderParts Entry). s.number) l) none;
  taken = λ k h d e. let no : ⊥ = omega arith in absurd no;
}

-- ---- a lane

pub each_length : {X Y : Type 0} (f : X → Y) (xs : List X) → length (map f xs) ≡ length xs
each_length f [] = refl
each_length f (x ∷ xs) = ap suc (each_length f xs)

pub as_many : (w : WorkerParts) (ls : List LaneParts) → IsNext w ls → length ls ≡ length w.lanes
as_many w ls h = sym (each_length (λ (l : LaneParts). l.number) ls) ∙ (ap length h.in_order ∙ length-range_with_len 0 (length w.lanes))

same_at : {X Y Z : Type 0} (f : X → Z) (g : Y → Z) (xs : List X) (ys : List Y) (i : ℕ) (d : X) (e : Y) → map f xs ≡ map g ys → i < length xs → i < length ys → f (get_or xs i d) ≡ g (get_or ys i e)
same_at f g [] ys i d e same h k = let no : ⊥ = omega arith in absurd no
same_at f g (x ∷ xs) [] i d e same h k = let no : ⊥ = omega arith in absurd no
same_at f g (x ∷ xs) (y ∷ ys) zero d e same h k = cc
same_at f g (x ∷ xs) (y ∷ ys) (suc i) d e same h k = same_at f g xs ys i d e (cc) (omega arith) (omega arith)

one_way : (m : MailboxParts) (ss : List (SenderParts Entry)) → mailboxes (take 1 ss) ≡ m ∷ [] → 0 < length ss
one_way m [] e = cc
one_way m (s ∷ ss) e = omega arith

one_mailbox : (m : MailboxParts) (s : SenderParts Entry) (rest : List (SenderParts Entry)) → mailboxes (take 1 (s ∷ rest)) ≡ m ∷ [] → s.mailbox ≡ m
one_mailbox m s rest e = cc

drop_next : {X : Type 0} (i : ℕ) (xs : List X) → drop 1 (drop i xs) ≡ drop (suc i) xs
drop_next zero xs = refl
drop_next (suc i) [] = refl
drop_next (suc i) (x ∷ xs) = drop_next i xs

drop_at : {X : Type 0} (i : ℕ) (xs : List X) (d : X) → get_or (drop i xs) 0 d ≡ get_or xs i d
drop_at zero xs d = refl
drop_at (suc i) [] d = refl
drop_at (suc i) (x ∷ xs) d = drop_at i xs d

drop_some : {X : Type 0} (i : ℕ) (xs : List X) → i < length xs → 0 < length (drop i xs)
drop_some i [] h = let no : ⊥ = omega arith in absurd no
drop_some zero (x ∷ xs) h = omega arith
drop_some (suc i) (x ∷ xs) h = drop_some i xs (omega arith)

pub same_item : {X : Type 0} (xs : List X) (i : ℕ) (d e : X) → i < length xs → get_or xs i d ≡ get_or xs i e
same_item [] i d e h = let no : ⊥ = omega arith in absurd no
same_item (x ∷ xs) zero d e h = refl
same_item (x ∷ xs) (suc i) d e h = same_item xs i d e (omega arith)

pub each_and : {X Y : Type 0} (f : X → Y) (xs : List X) (x : X) → map f (xs ++ x ∷ []) ≡ map f xs ++ f x ∷ []
each_and f [] x = refl
each_and f (y ∷ xs) x = ap (λ l. f y ∷ l) (each_and f xs x)

module _ (w : WorkerParts) (ls : List LaneParts) (next : IsNext w ls) (i : ℕ) (now : List LaneParts) (left : List (SenderParts Answer)) (r : ReceiverParts Entry)
    (h : HaveExchanged w ls i now left r) where
  pub some_left : i < length ls → 0 < length left
  some_left lt = subst (λ l. 0 < length l) (sym h.ways_left) (drop_some i w.lanes (omega (arith, as_many w ls next)))

  -- the lane at the place
  lane_at : (l : LaneParts) → l ≡ get_or now i l → l ≡ get_or ls i l
  lane_at l is = is ∙ (ap (λ x. get_or x i l) h.lanes_now ∙ untouched i ls w.lanes l)

  first_of : (l : LaneParts) → i < length ls → l ≡ get_or now i l → mailboxes (take 1 l.shards) ≡ w.requests.mailbox ∷ []
  first_of l lt is = ap (λ (x : LaneParts). mailboxes (take 1 x.shards)) (lane_at l is) ∙ next.firsts i l lt

  pub some_way : (l : LaneParts) → i < length ls → l ≡ get_or now i l → 0 < length l.shards
  some_way l lt is = one_way w.requests.mailbox l.shards (first_of l lt is)

  way_at : (way : SenderParts Answer) → way ≡ get_or left 0 way → way ≡ get_or w.lanes i way
  way_at way is = is ∙ (ap (λ x. get_or x 0 way) h.ways_left ∙ drop_at i w.lanes way)

  pub own_way : (l : LaneParts) (way : SenderParts Answer) → i < length ls → l ≡ get_or now i l → way ≡ get_or left 0 way → way.mailbox ≡ l.answers.mailbox
  own_way l way lt is that =
      ap (λ (x : SenderParts Answer). x.mailbox) (way_at way that)
      ∙ (same_at (λ (x : SenderParts Answer). x.mailbox) (λ (x : LaneParts). x.answers.mailbox) w.lanes ls i way l next.ways (omega (arith, as_many w ls next)) lt
      ∙ sym (ap (λ (x : LaneParts). x.answers.mailbox) (lane_at l is)))

  pub own_first : (l : LaneParts) (s : SenderParts Entry) (rest : List (SenderParts Entry)) → i < length ls → l ≡ get_or now i l → l.shards ≡ s ∷ rest → s.mailbox ≡ r.mailbox
  own_first l s rest lt is first =
      one_mailbox w.requests.mailbox s rest (subst (λ x. mailboxes (take 1 x) ≡ w.requests.mailbox ∷ []) first (first_of l lt is)) ∙ sym h.mailbox

  module _ (l : LaneParts) (way : SenderParts Answer) (s : SenderParts Entry) (rest : List (SenderParts Entry)) (lt : i < length ls) (is : l ≡ get_or now i l) (that : way ≡ get_or left 0 way)
      (first : l.shards ≡ s ∷ rest) (number : s.number ≡ l.number) (taken : IsTaken l way) where
    here : (d : LaneParts) (e : SenderParts Answer) → IsTaken (get_or ls i d) (get_or w.lanes i e)
    here d e =
        subst (λ y. IsTaken (get_or ls i d) y) (way_at way that ∙ same_item w.lanes i way e (omega (arith, as_many w ls next)))
        (subst (λ x. IsTaken x way) (lane_at l is ∙ same_item ls i l d lt) taken)

    abbrev Below : ℕ → Type 0
    Below k = (d : LaneParts) (e : SenderParts Answer) → IsTaken (get_or ls k d) (get_or w.lanes k e)

    pub one_more : (new : LaneParts) (others : List (SenderParts Answer)) (after : ReceiverParts Entry) → new ≡ exchanged l way → others ≡ drop 1 left → after ≡ having_back r s
        → HaveExchanged w ls (i + 1) (set now i new) others after
    one_more new others after made fewer back = subst (λ n. HaveExchanged w ls n (set now i new) others after) (sym (add-one i)) (record {
      lanes_now =
          ap (λ x. set x i new) h.lanes_now
          ∙ (ap (λ y. set (all_exchanged ls (take i w.lanes)) i y) (made ∙ (ap (λ x. exchanged x way) (lane_at l is) ∙ ap (λ y. exchanged (get_or ls i l) y) (way_at way that)))
          ∙ put_in i ls w.lanes l way lt (omega (arith, as_many w ls next)));
      ways_left = fewer ∙ (ap (λ x. drop 1 x) h.ways_left ∙ drop_next i w.lanes);
      mailbox = ap (λ (x : ReceiverParts Entry). x.mailbox) back ∙ h.mailbox;
      got = ap (λ (x : ReceiverParts Entry). x.got) back ∙ h.got;
      made = ap (λ (x : ReceiverParts Entry). x.made) back ∙ h.made;
      back =
          ap (λ (x : ReceiverParts Entry). x.back) back
          ∙ (ap (λ x. x ++ s ∷ []) h.back ∙ sym (firsts_more i ls l s rest lt (sym (ap (λ (x : LaneParts). x.shards) (lane_at l is)) ∙ first)));
      numbered =
          ap (λ (x : ReceiverParts Entry). map (λ (y : SenderParts Entry). y.number) x.back) back
          ∙ (each_and (λ (y : SenderParts Entry). y.number) r.back s
          ∙ (ap (λ x. x ++ s.number ∷ []) h.numbered
          ∙ (ap (λ x. numbers (take i ls) ++ x ∷ []) (number ∙ ap (λ (x : LaneParts). x.number) (lane_at l is))
          ∙ sym (each_more (λ (x : LaneParts). x.number) i ls l lt))));
      taken = λ k lt. below_more Below i h.taken here k (omega arith);
    })

-- ---- after the last lane

pub whole : {X : Type 0} (xs : List X) → take (length xs) xs ≡ xs
whole [] = refl
whole (x ∷ xs) = ap (λ l. x ∷ l) (whole xs)

there : {X : Type 0} (xs : List X) (k : ℕ) → k < length xs → (x : X) × (slice_get xs k ≡ Some x) × (get_or xs k x ≡ x)
there [] k h = let no : ⊥ = omega arith in absurd no
there (x ∷ xs) zero h = (x, refl, refl)
there (x ∷ xs) (suc k) h = there xs k (omega arith)

pub numbered_at : (a : ℕ) (ls : List LaneParts) (n k : ℕ) (d : LaneParts) → numbers ls ≡ range_with_len a n → k < length ls → (get_or ls k d).number ≡ a + k
numbered_at a [] n k d e h = let no : ⊥ = omega arith in absurd no
numbered_at a (l ∷ ls) zero k d e h = cc
numbered_at a (l ∷ ls) (suc n) zero d e h = let f : l.number ≡ a = cc in omega arith
numbered_at a (l ∷ ls) (suc n) (suc k) d e h =
    let f : numbers ls ≡ range_with_len (a + 1) n = cc in
    let g : (get_or ls k d).number ≡ (a + 1) + k = numbered_at (a + 1) ls n k d f (omega arith) in omega arith

-- what was got of the first ways is what each of the lanes sent by its first way
module _ (m : MailboxParts) (got : List Entry) where
  abbrev HasGot : SenderParts Entry → Type 0
  HasGot s = of by_lane s.number got ≡ s.sent

  one_got : (ss rest : List (SenderParts Entry)) (n : ℕ) (ks : List ℕ) → mailboxes (take 1 ss) ≡ m ∷ [] → map (λ (s : SenderParts Entry). s.number) (take 1 ss ++ rest) ≡ n ∷ ks → All HasGot (take 1 ss ++ rest)
      → (map (λ (s : SenderParts Entry). s.sent) (take 1 ss) ≡ of by_lane n got ∷ []) × (map (λ (s : SenderParts Entry). s.number) rest ≡ ks) × All HasGot rest
  one_got [] rest n ks e f a = cc
  one_got (s ∷ ss) rest n ks e f a =
      let same : s.number ≡ n = cc in
      (ap (λ x. x ∷ []) (sym (All-head HasGot s rest a) ∙ ap (λ k. of by_lane k got) same), cc, All-tail HasGot s rest a)

  pub each_got : (ls : List LaneParts) → All (λ (l : LaneParts). mailboxes (take 1 l.shards) ≡ m ∷ []) ls → map (λ (s : SenderParts Entry). s.number) (firsts ls) ≡ numbers ls → All HasGot (firsts ls)
      → All (λ (l : LaneParts). map (λ (s : SenderParts Entry). s.sent) (take 1 l.shards) ≡ of by_lane l.number got ∷ []) ls
  each_got [] one same all = All-nil (λ (l : LaneParts). map (λ (s : SenderParts Entry). s.sent) (take 1 l.shards) ≡ of by_lane l.number got ∷ [])
  each_got (l ∷ ls) one same all =
      let h = one_got l.shards (firsts ls) l.number (numbers ls) (All-head (λ (x : LaneParts). mailboxes (take 1 x.shards) ≡ m ∷ []) l ls one) same all in
      All-cons (λ (x : LaneParts). map (λ (s : SenderParts Entry). s.sent) (take 1 x.shards) ≡ of by_lane x.number got ∷ []) l ls h.0
      (each_got ls (All-tail (λ (x : LaneParts). mailboxes (take 1 x.shards) ≡ m ∷ []) l ls one) h.1 h.2)

module _ (w : WorkerParts) (ls : List LaneParts) (next : IsNext w ls) (i : ℕ) (now : List LaneParts) (left : List (SenderParts Answer)) (r : ReceiverParts Entry)
    (h : HaveExchanged w ls i now left r) (end : i ≡ length ls) (works : IsWorking w) where
  every : take i ls ≡ ls
  every = ap (λ n. take n ls) end ∙ whole ls

  numbers_back : map (λ (s : SenderParts Entry). s.number) (firsts ls) ≡ numbers ls
  numbers_back = ap (λ l. map (λ (s : SenderParts Entry). s.number) (firsts l)) (sym every) ∙ (ap (λ l. map (λ (s : SenderParts Entry). s.number) l) (sym h.back) ∙ (h.numbered ∙ ap numbers every))

  pub all_back : AreAllBack r
  all_back = h.numbered ∙ (ap numbers every ∙ (next.in_order ∙ ap (λ n. range_with_len 0 n) (sym (h.made ∙ works.made))))

  pub all_given : now ≡ all_exchanged ls w.lanes
  all_given = h.lanes_now ∙ ap (λ l. all_exchanged ls l) (ap (λ n. take n w.lanes) (end ∙ as_many w ls next) ∙ whole w.lanes)

  got_all : (none rest items : List Entry) (after : ReceiverParts Entry) → none ≡ [] → rest ≡ none ++ items → after ≡ having_got r items → after.got ≡ entries_of w.shard.journal ++ rest
  got_all none rest items after empty more got =
      ap (λ (x : ReceiverParts Entry). x.got) got ∙ (ap (λ x. x ++ items) (h.got ∙ works.popped) ∙ ap (λ x. entries_of w.shard.journal ++ x) (sym (more ∙ ap (λ x. x ++ items) empty)))

  pub all_known : (none rest items : List Entry) (after : ReceiverParts Entry) → none ≡ [] → rest ≡ none ++ items → after ≡ having_got r items → HasAll by_lane after → IsKnown w rest
  all_known none rest items after empty more got all lane unopened =
      ap (λ x. of by_lane lane x) (sym (got_all none rest items after empty more got)) ∙ all.1 lane (subst (λ n. n ≤ lane) (sym made) unopened)
    where
      made : after.made ≡ length w.lanes
      made = ap (λ (x : ReceiverParts Entry). x.made) got ∙ (h.made ∙ works.made)

  pub all_left : (none rest items : List Entry) (after : ReceiverParts Entry) → none ≡ [] → rest ≡ none ++ items → after ≡ having_got r items → HasAll by_lane after → All (HasLeft w rest) ls
  all_left none rest items after empty more got all =
      each_got w.requests.mailbox (entries_of w.shard.journal ++ rest) ls next.firsts numbers_back
      (subst (λ g. All (λ (s : SenderParts Entry). of by_lane s.number g ≡ s.sent) (firsts ls)) (got_all none rest items after empty more got)
      (subst (λ b. All (λ (s : SenderParts Entry). of by_lane s.number after.got ≡ s.sent) b) same_back all.0))
    where
      same_back : after.back ≡ firsts ls
      same_back = ap (λ (x : ReceiverParts Entry). x.back) got ∙ (h.back ∙ ap firsts every)

  pub all_answered : All (λ (l : LaneParts). IsAnswered l w) ls
  all_answered k d lt =
      let way = there w.lanes k (omega (arith, as_many w ls next)) in
      let told = works.told k way.0 way.1 in
      let first : IsTaken (get_or ls k d) way.0 = subst (λ y. IsTaken (get_or ls k d) y) way.2 (h.taken k (omega arith) d way.0) in
      answered_by (get_or ls k d) way.0 k (omega (arith, numbered_at 0 ls (length w.lanes) k d next.in_order lt)) told.0 told.1 first
    where
      answered_by : (l : LaneParts) (way : SenderParts Answer) (k : ℕ) → l.number ≡ k → way.number ≡ w.shard.number → way.sent ++ held_for k w.held ≡ answers_for k w.shard → IsTaken l way → IsAnswered l w
      answered_by l way k place number told taken =
          subst (λ n. IsPrefix (of by_shard w.shard.number l.answers.got) (answers_for n w.shard)) (sym place)
          (subst (λ n. IsPrefix (of by_shard n l.answers.got) (answers_for k w.shard)) number
          (taken.0 ++ held_for k w.held, sym (append_assoc (of by_shard way.number l.answers.got) taken.0 (held_for k w.held)) ∙ (ap (λ x. x ++ held_for k w.held) taken.1 ∙ told)))

  pub all_passed : (Holds : List Passed → Bool → Type 0) → IsGated Holds w.shard w.shut w.lanes → HasPassed Holds ls w
  all_passed Holds gated = record {
    passed = gated.passed;
    are = gated.are;
    gate = gated.gate;
    taken = λ k d lt.
        let way = there w.lanes k (omega (arith, as_many w ls next)) in
        let first : IsTaken (get_or ls k d) way.0 = subst (λ y. IsTaken (get_or ls k d) y) way.2 (h.taken k (omega arith) d way.0) in
        passed_by (get_or ls k d) way.0 k (omega (arith, numbered_at 0 ls (length w.lanes) k d next.in_order lt)) (works.told k way.0 way.1).0
        (first_sent Holds w.shard w.held w.shut w.lanes works.told gated k way.0 way.1) first;
  }
    where
      passed_by : (l : LaneParts) (way : SenderParts Answer) (k : ℕ) → l.number ≡ k → way.number ≡ w.shard.number → IsPrefix way.sent (passed_to k gated.passed) → IsTaken l way → IsFirstOf w.shard.number gated.passed l
      passed_by l way k place number sent taken =
          subst (λ n. IsPrefix (of by_shard w.shard.number l.answers.got) (passed_to n gated.passed)) (sym place)
          (subst (λ n. IsPrefix (of by_shard n l.answers.got) (passed_to k gated.passed)) number
          (taken.0 ++ sent.0, sym (append_assoc (of by_shard way.number l.answers.got) taken.0 sent.0) ∙ (ap (λ x. x ++ sent.0) taken.1 ∙ sent.1)))
