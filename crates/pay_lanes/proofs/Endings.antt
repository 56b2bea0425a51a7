-- Workers that end one after another, and the lanes meanwhile.
use Rattle.std.proofs.Common.{◌≡◌, Bool, ℕ, zero, suc, ◌+◌, ◌<◌, ◌≤◌, List, [], ◌∷◌, ◌++◌, All, map, length, take, drop, get_or, Option, Some, slice_get, IsPermutation, refl, sym, ap, ◌∙◌, subst, append_assoc, append-nil, arith, add-one}
use Rattle.std.specs.List.{range_with_len, AllZip}
use Rattle.std.proofs.lemmas.List.Elements.{All-nil, All-cons, All-head, All-tail, All-push, All-weaker}
use Rattle.std.proofs.lemmas.List.{length_push}
use Rattle.std.proofs.lemmas.List.FromFn.{length-range_with_len}
use Rattle.std.proofs.lemmas.List.Sorted.{All-permutation, IsPermutation-sym}
use Rattle.pay_mailbox.specs.Words.{MailboxParts, SenderParts, of}
use Rattle.pay_shard.specs.declared.item.Entry.{Entry}
use Rattle.pay_shard.specs.declared.item.Item.{Item}
use Rattle.pay_shard.specs.declared.reply.Answer.{Answer}
use Rattle.pay_lanes.specs.Passing.{Passed}
use Rattle.pay_lanes.specs.Parts.{LaneParts, WorkerParts}
use Rattle.pay_lanes.specs.Working.{mailboxes, entries_of, answers_for, IsOfShards}
use Rattle.pay_lanes.specs.Turns.{by_lane, by_shard}
use Rattle.pay_lanes.specs.Openings.{began_of}
use Rattle.pay_lanes.specs.Gates.{passed_to, IsFirstOf, HasPassed, HavePassed, IsNextGate}
use Rattle.pay_lanes.specs.Ends.{lanes_of, numbers, AreTogether, IsLaneOf, IsWorkerOf, arrived, sent_by, IsAnswered, exchanged, all_exchanged, IsNext, HasLeft, IsKnown, AreKnown, IsRight, AreJournalsFrom}
use Rattle.pay_lanes.proofs.Asked.{journals_asked}
use Rattle.pay_lanes.proofs.Exchanges.{as_many, numbered_at, each_length, each_and, whole}

-- ---- lanes in order, and the workers that are still to end

abbrev pub answers_at : List LaneParts → List MailboxParts
answers_at lanes = map (λ (l : LaneParts). l.answers.mailbox) lanes

abbrev pub requests_at : List WorkerParts → List MailboxParts
requests_at workers = map (λ (w : WorkerParts). w.requests.mailbox) workers

abbrev pub IsLinked : List LaneParts → WorkerParts → Type 0
IsLinked lanes w = (numbers lanes ≡ range_with_len 0 (length w.lanes)) × (w.requests.back ≡ []) × (mailboxes w.lanes ≡ answers_at lanes)

abbrev pub HasRest : List WorkerParts → LaneParts → Type 0
HasRest rest l = mailboxes l.shards ≡ requests_at rest

pub record AreLinked (rest : List WorkerParts) (now : List LaneParts) : Type 0 where
  pub workers : All (IsLinked now) rest
  pub lanes : All (HasRest rest) now

same_ways : (ms : List MailboxParts) (ls : List LaneParts) → length ms ≡ length ls → ((k : ℕ) (m : MailboxParts) (d : LaneParts) → slice_get ms k ≡ Some m → m ≡ (get_or ls k d).answers.mailbox)
    → ms ≡ answers_at ls
same_ways [] [] same each = refl
same_ways [] (l ∷ ls) same each = cc
same_ways (m ∷ ms) [] same each = cc
same_ways (m ∷ ms) (l ∷ ls) same each =
    let first : m ≡ l.answers.mailbox = each 0 m l refl in
    let rest : ms ≡ answers_at ls = same_ways ms ls (omega arith) (λ k. each (suc k)) in cc

get_in : {X : Type 0} (xs : List X) (k : ℕ) (x : X) → slice_get xs k ≡ Some x → k < length xs
get_in [] k x e = cc
get_in (y ∷ xs) zero x e = omega arith
get_in (y ∷ xs) (suc k) x e = let h : k < length xs = get_in xs k x e in omega arith

module _ (ws : List WorkerParts) (ls sorted : List LaneParts) (together : AreTogether ws ls) (moved : IsPermutation ls sorted) (order : numbers sorted ≡ range_with_len 0 (lanes_of ws)) where
  own : All (IsLaneOf ws) sorted
  own = All-permutation (IsLaneOf ws) ls sorted moved together.lanes_of_them

  as_many_lanes : length sorted ≡ lanes_of ws
  as_many_lanes = sym (each_length (λ (l : LaneParts). l.number) sorted) ∙ (ap length order ∙ length-range_with_len 0 (lanes_of ws))

  pub linked : AreLinked ws sorted
  linked = record {
    workers = λ k d lt.
        let w = get_or ws k d in
        let of_them : IsWorkerOf (lanes_of ws) w = together.workers_of k d lt in
        let many : length (mailboxes w.lanes) ≡ length sorted = each_length (λ (s : SenderParts Answer). s.mailbox) w.lanes ∙ (of_them.0 ∙ sym as_many_lanes) in (
          order ∙ ap (λ n. range_with_len 0 n) (sym of_them.0),
          of_them.1,
          same_ways (mailboxes w.lanes) sorted many
              (λ i m l at.
              let inside : i < length sorted = subst (λ n. i < n) many (get_in (mailboxes w.lanes) i m at) in
              let number : (get_or sorted i l).number ≡ i = omega (arith, numbered_at 0 sorted (lanes_of ws) i l order inside) in
              (own i l inside).1 k d lt m (subst (λ n. slice_get (mailboxes w.lanes) n ≡ Some m) (sym number) at)),
        );
    lanes = λ k d lt. (own k d lt).0;
  }

-- ---- once one more has ended

numbers_stay : (ls : List LaneParts) (ways : List (SenderParts Answer)) → numbers (all_exchanged ls ways) ≡ numbers ls
numbers_stay [] ways = refl
numbers_stay (l ∷ ls) [] = refl
numbers_stay (l ∷ ls) (way ∷ ways) = ap (λ x. l.number ∷ x) (numbers_stay ls ways)

answers_stay : (ls : List LaneParts) (ways : List (SenderParts Answer)) → answers_at (all_exchanged ls ways) ≡ answers_at ls
answers_stay [] ways = refl
answers_stay (l ∷ ls) [] = refl
answers_stay (l ∷ ls) (way ∷ ways) = ap (λ x. l.answers.mailbox ∷ x) (answers_stay ls ways)

first_rest : (ss : List (SenderParts Entry)) (m : MailboxParts) (ms : List MailboxParts) → mailboxes ss ≡ m ∷ ms → (mailboxes (take 1 ss) ≡ m ∷ []) × (mailboxes (drop 1 ss) ≡ ms)
first_rest [] m ms e = cc
first_rest (s ∷ ss) m ms e = let first : s.mailbox ≡ m = cc in (ap (λ x. x ∷ []) first, cc)

fewer_left : (w : WorkerParts) (rest : List WorkerParts) (ls : List LaneParts) (ways : List (SenderParts Answer)) → length ls ≡ length ways → All (HasRest (w ∷ rest)) ls → All (HasRest rest) (all_exchanged ls ways)
fewer_left w rest [] ways same h = All-nil (HasRest rest)
fewer_left w rest (l ∷ ls) [] same h = cc
fewer_left w rest (l ∷ ls) (way ∷ ways) same h =
    All-cons (HasRest rest) (exchanged l way) (all_exchanged ls ways) (first_rest l.shards w.requests.mailbox (requests_at rest) (All-head (HasRest (w ∷ rest)) l ls h)).1
    (fewer_left w rest ls ways (omega arith) (All-tail (HasRest (w ∷ rest)) l ls h))

module _ (w : WorkerParts) (rest : List WorkerParts) (now : List LaneParts) (h : AreLinked (w ∷ rest) now) where
  own_link : IsLinked now w
  own_link = All-head (IsLinked now) w rest h.workers

  pub next_of : IsNext w now
  next_of = record {
    in_order = own_link.0;
    back = own_link.1;
    ways = own_link.2;
    firsts = λ k d lt. (first_rest (get_or now k d).shards w.requests.mailbox (requests_at rest) (h.lanes k d lt)).0;
  }

  pub still_linked : AreLinked rest (all_exchanged now w.lanes)
  still_linked = record {
    workers = All-weaker (IsLinked now) (IsLinked (all_exchanged now w.lanes)) (λ v is. (numbers_stay now w.lanes ∙ is.0, is.1, is.2 ∙ sym (answers_stay now w.lanes))) rest (All-tail (IsLinked now) w rest h.workers);
    lanes = fewer_left w rest now w.lanes (as_many w now next_of) h.lanes;
  }

-- ---- a lane from before the first worker has ended

-- the lane l has become m, while these have ended, and left these entries
pub record IsAfter (done : List WorkerParts) (lefts : List (List Entry)) (l m : LaneParts) : Type 0 where
  pub number : m.number ≡ l.number
  pub got : m.answers.got ≡ l.answers.got
  pub sent : sent_by l ≡ arrived l.number done lefts ++ sent_by m
  pub answered : All (IsAnswered l) done

pub unchanged : (ls : List LaneParts) → AllZip (IsAfter [] []) ls ls
unchanged [] = tt
unchanged (l ∷ ls) = (record { number = refl; got = refl; sent = refl; answered = All-nil (IsAnswered l) }, unchanged ls)

arrived_more : (n : ℕ) (done : List WorkerParts) (lefts : List (List Entry)) (w : WorkerParts) (left : List Entry) → length lefts ≡ length done
    → arrived n (done ++ w ∷ []) (lefts ++ left ∷ []) ≡ arrived n done lefts ++ of by_lane n (entries_of w.shard.journal ++ left) ∷ []
arrived_more n [] [] w left same = refl
arrived_more n [] (a ∷ lefts) w left same = cc
arrived_more n (v ∷ done) [] w left same = cc
arrived_more n (v ∷ done) (a ∷ lefts) w left same = ap (λ x. of by_lane n (entries_of v.shard.journal ++ a) ∷ x) (arrived_more n done lefts w left (omega arith))

sent_first : (ss : List (SenderParts Entry)) (x : List Entry) → map (λ (s : SenderParts Entry). s.sent) (take 1 ss) ≡ x ∷ []
    → map (λ (s : SenderParts Entry). s.sent) ss ≡ x ∷ map (λ (s : SenderParts Entry). s.sent) (drop 1 ss)
sent_first [] x e = cc
sent_first (s ∷ ss) x e = let first : s.sent ≡ x = cc in ap (λ y. y ∷ map (λ (s : SenderParts Entry). s.sent) ss) first

module _ (done : List WorkerParts) (lefts : List (List Entry)) (w : WorkerParts) (left : List Entry) (same : length lefts ≡ length done) where
  one_after : (l m : LaneParts) (way : SenderParts Answer) → IsAfter done lefts l m → HasLeft w left m → IsAnswered m w → IsAfter (done ++ w ∷ []) (lefts ++ left ∷ []) l (exchanged m way)
  one_after l m way h has answered = record {
    number = h.number;
    got = h.got;
    sent =
        h.sent
        ∙ (ap (λ x. arrived l.number done lefts ++ x) (sent_first m.shards (of by_lane m.number (entries_of w.shard.journal ++ left)) has)
        ∙ (ap (λ n. arrived l.number done lefts ++ of by_lane n (entries_of w.shard.journal ++ left) ∷ map (λ (s : SenderParts Entry). s.sent) (drop 1 m.shards)) h.number
        ∙ (sym (append_assoc (arrived l.number done lefts) (of by_lane l.number (entries_of w.shard.journal ++ left) ∷ []) (map (λ (s : SenderParts Entry). s.sent) (drop 1 m.shards)))
        ∙ ap (λ x. x ++ map (λ (s : SenderParts Entry). s.sent) (drop 1 m.shards)) (sym (arrived_more l.number done lefts w left same)))));
    answered = All-push (IsAnswered l) done w h.answered (answers_alike l m h.number h.got answered);
  }
    where
      answers_alike : (l m : LaneParts) → m.number ≡ l.number → m.answers.got ≡ l.answers.got → IsAnswered m w → IsAnswered l w
      answers_alike l m number got is = (is.0, ap (λ g. of by_shard w.shard.number g ++ is.0) (sym got) ∙ (is.1 ∙ ap (λ n. answers_for n w.shard) number))

  pub each_after : (ls now : List LaneParts) (ways : List (SenderParts Answer)) → length now ≡ length ways → AllZip (IsAfter done lefts) ls now → All (HasLeft w left) now → All (λ (m : LaneParts). IsAnswered m w) now
      → AllZip (IsAfter (done ++ w ∷ []) (lefts ++ left ∷ [])) ls (all_exchanged now ways)
  each_after [] [] ways many h has answered = tt
  each_after [] (m ∷ now) ways many h has answered = absurd h
  each_after (l ∷ ls) [] ways many h has answered = absurd h
  each_after (l ∷ ls) (m ∷ now) [] many h has answered = cc
  each_after (l ∷ ls) (m ∷ now) (way ∷ ways) many h has answered = (
    one_after l m way h.0 (All-head (HasLeft w left) m now has) (All-head (λ (x : LaneParts). IsAnswered x w) m now answered),
    each_after ls now ways (omega arith) h.1 (All-tail (HasLeft w left) m now has) (All-tail (λ (x : LaneParts). IsAnswered x w) m now answered),
  )

-- ---- what gates have let pass

zip_push : {X Y : Type 0} (R : X → Y → Type 0) (xs : List X) (ys : List Y) (x : X) (y : Y) → AllZip R xs ys → R x y → AllZip R (xs ++ x ∷ []) (ys ++ y ∷ [])
zip_push R [] [] x y all one = (one, tt)
zip_push R [] (b ∷ ys) x y all one = absurd all
zip_push R (a ∷ xs) [] x y all one = absurd all
zip_push R (a ∷ xs) (b ∷ ys) x y all one = (all.0, zip_push R xs ys x y all.1 one)

-- what was taken of lanes as they have become was taken of them as they were
taken_before : (done : List WorkerParts) (lefts : List (List Entry)) (n : ℕ) (passed : List Passed) (ls now : List LaneParts) → AllZip (IsAfter done lefts) ls now → All (IsFirstOf n passed) now → All (IsFirstOf n passed) ls
taken_before done lefts n passed [] now all first = All-nil (IsFirstOf n passed)
taken_before done lefts n passed (l ∷ ls) [] all first = absurd all
taken_before done lefts n passed (l ∷ ls) (m ∷ now) all first =
    let one = All-head (IsFirstOf n passed) m now first in
    All-cons (IsFirstOf n passed) l ls (one.0, ap (λ g. of by_shard n g ++ one.0) (sym all.0.got) ∙ (one.1 ∙ ap (λ k. passed_to k passed) all.0.number))
    (taken_before done lefts n passed ls now all.1 (All-tail (IsFirstOf n passed) m now first))

module _ {G : Type 0} (Holds : G → List Passed → Bool → Type 0) where
  -- the same of other lanes, that took no other answers
  other_lanes : (ls ks : List LaneParts) → ((n : ℕ) (passed : List Passed) → All (IsFirstOf n passed) ls → All (IsFirstOf n passed) ks) → (w : WorkerParts) (gate : G) → HasPassed (Holds gate) ls w → HasPassed (Holds gate) ks w
  other_lanes ls ks same w gate h = record { passed = h.passed; are = h.are; gate = h.gate; taken = same w.shard.number h.passed h.taken }

  all_other_lanes : (ls ks : List LaneParts) → ((n : ℕ) (passed : List Passed) → All (IsFirstOf n passed) ls → All (IsFirstOf n passed) ks) → (ws : List WorkerParts) (gates : List G) → HavePassed Holds ls ws gates → HavePassed Holds ks ws gates
  all_other_lanes ls ks same [] [] h = tt
  all_other_lanes ls ks same [] (gate ∷ gates) h = absurd h
  all_other_lanes ls ks same (w ∷ ws) [] h = absurd h
  all_other_lanes ls ks same (w ∷ ws) (gate ∷ gates) h = (other_lanes ls ks same w gate h.0, all_other_lanes ls ks same ws gates h.1)

pub one_gate_more : {G : Type 0} (Holds : G → List Passed → Bool → Type 0) (lanes : List LaneParts) (w : WorkerParts) (gates after : List G) (n m : ℕ) → length gates ≡ n → m ≡ n + 1 → IsNextGate Holds lanes w gates after → length after ≡ m
one_gate_more Holds lanes w gates after n m long more one = let pushed = ap length one.pushed ∙ length_push gates one.gate in omega (arith, pushed, long, more)

-- one more gate, which began as its worker says
pub began_after : {G : Type 0} (began : G → Option (List ℕ)) (gates after : List G) (gate : G) (b : Option (List ℕ)) → after ≡ gates ++ gate ∷ [] → began gate ≡ b → map began after ≡ map began gates ++ b ∷ []
began_after began gates after gate b more its = ap (map began) more ∙ (each_and began gates gate ∙ ap (λ x. map began gates ++ x ∷ []) its)

-- ---- the loop over the workers

abbrev pub IsEmpty : List Entry → Type 0
IsEmpty entries = entries ≡ []

-- the first n of the workers have ended
pub record HaveEnded (ws : List WorkerParts) (ls : List LaneParts) (n : ℕ) (now : List LaneParts) (journals : List (List Item)) (lefts : List (List Entry)) : Type 0 where
  pub rest : AreLinked (drop n ws) now
  pub journals_now : journals ≡ map (λ (w : WorkerParts). w.shard.journal) (take n ws)
  pub many : length lefts ≡ n
  pub lanes : AllZip (IsAfter (take n ws) lefts) ls now
  pub known : (lane : ℕ) → lanes_of ws ≤ lane → All IsEmpty (arrived lane (take n ws) lefts)
  pub right : All IsRight (take n ws)

pub none_ended : (ws : List WorkerParts) (ls sorted : List LaneParts) → AreTogether ws ls → IsPermutation ls sorted → numbers sorted ≡ range_with_len 0 (lanes_of ws) → {X Y : Type 0} (f : X → List Item) (g : Y → List Entry) (xs : List X) (ys : List Y) → xs ≡ [] → ys ≡ []
    → HaveEnded ws sorted 0 sorted (map f xs) (map g ys)
none_ended ws ls sorted together moved order f g xs ys none empty = subst (λ l. HaveEnded ws sorted 0 sorted (map f l) (map g ys)) (sym none) (subst (λ l. HaveEnded ws sorted 0 sorted [] (map g l)) (sym empty) (record { rest = linked ws ls sorted together moved order; journals_now = refl; many = refl; lanes = unchanged sorted; known = λ lane unopened. All-nil IsEmpty; right = All-nil IsRight }))

drop_here : {X : Type 0} (n : ℕ) (xs : List X) (x : X) → n < length xs → x ≡ get_or xs n x → drop n xs ≡ x ∷ drop (suc n) xs
drop_here n [] x h is = let no : ⊥ = omega arith in absurd no
drop_here zero (y ∷ xs) x h is = ap (λ z. z ∷ xs) (sym is)
drop_here (suc n) (y ∷ xs) x h is = drop_here n xs x (omega arith) is

take_here : {X : Type 0} (n : ℕ) (xs : List X) (x : X) → n < length xs → x ≡ get_or xs n x → take (suc n) xs ≡ take n xs ++ x ∷ []
take_here n [] x h is = let no : ⊥ = omega arith in absurd no
take_here zero (y ∷ xs) x h is = ap (λ z. z ∷ []) (sym is)
take_here (suc n) (y ∷ xs) x h is = ap (λ l. y ∷ l) (take_here n xs x (omega arith) is)

taken_many : {X : Type 0} (n : ℕ) (xs : List X) → n < length xs → length (take n xs) ≡ n
taken_many n [] h = let no : ⊥ = omega arith in absurd no
taken_many zero (y ∷ xs) h = refl
taken_many (suc n) (y ∷ xs) h = ap suc (taken_many n xs (omega arith))

pub pushed : {X Y : Type 0} (f : X → Y) (old new : List X) (x : X) → new ≡ old ++ x ∷ [] → map f new ≡ map f old ++ f x ∷ []
pushed f old new x e = ap (λ l. map f l) e ∙ each_and f old x

module _ (ws : List WorkerParts) (ls : List LaneParts) (n : ℕ) (now : List LaneParts) (journals : List (List Item)) (lefts : List (List Entry)) (h : HaveEnded ws ls n now journals lefts) where
  module _ (w : WorkerParts) (lt : n < length ws) (is : w ≡ get_or ws n w) where
    rest_here : AreLinked (w ∷ drop (suc n) ws) now
    rest_here = subst (λ l. AreLinked l now) (drop_here n ws w lt is) h.rest

    pub next_here : IsNext w now
    next_here = next_of w (drop (suc n) ws) now rest_here

    pub one_ended : (m : ℕ) (after : List LaneParts) (journal : List Item) (left : List Entry) (all : List (List Item)) (others : List (List Entry)) → m ≡ n + 1 → journal ≡ w.shard.journal → after ≡ all_exchanged now w.lanes → All (HasLeft w left) now → All (λ (m : LaneParts). IsAnswered m w) now
        → All (IsWorkerOf (lanes_of ws)) ws → IsKnown w left → IsRight w → all ≡ journals ++ journal ∷ [] → others ≡ lefts ++ left ∷ [] → HaveEnded ws ls m after all others
    one_ended m after journal left all others next its made has answered opened known right more longer = subst (λ k. HaveEnded ws ls k after all others) (sym (next ∙ add-one n)) (subst (λ o. HaveEnded ws ls (suc n) after all o) (sym longer) (record {
      rest = subst (AreLinked (drop (suc n) ws)) (sym made) (still_linked w (drop (suc n) ws) now rest_here);
      journals_now =
          more
          ∙ (ap (λ x. x ++ journal ∷ []) h.journals_now
          ∙ (ap (λ x. map (λ (v : WorkerParts). v.shard.journal) (take n ws) ++ x ∷ []) its
          ∙ (sym (each_and (λ (v : WorkerParts). v.shard.journal) (take n ws) w) ∙ ap (λ l. map (λ (v : WorkerParts). v.shard.journal) l) (sym (take_here n ws w lt is)))));
      many = one_longer lefts left n h.many;
      lanes =
          subst (λ x. AllZip (IsAfter (take (suc n) ws) (lefts ++ left ∷ [])) ls x) (sym made)
          (subst (λ d. AllZip (IsAfter d (lefts ++ left ∷ [])) ls (all_exchanged now w.lanes)) (sym (take_here n ws w lt is))
          (each_after (take n ws) lefts w left (h.many ∙ sym (taken_many n ws lt)) ls now w.lanes (as_many w now next_here) h.lanes has answered));
      known = λ lane unopened. subst (All IsEmpty)
          (sym (ap (λ d. arrived lane d (lefts ++ left ∷ [])) (take_here n ws w lt is) ∙ arrived_more lane (take n ws) lefts w left (h.many ∙ sym (taken_many n ws lt))))
          (All-push IsEmpty (arrived lane (take n ws) lefts) (of by_lane lane (entries_of w.shard.journal ++ left)) (h.known lane unopened)
          (known lane (subst (λ (v : WorkerParts). length v.lanes ≤ lane) (sym is) (subst (λ k. k ≤ lane) (sym (opened n w lt).0) unopened))));
      right = subst (All IsRight) (sym (take_here n ws w lt is)) (All-push IsRight (take n ws) w h.right right);
    }))
      where
        one_longer : (xs : List (List Entry)) (x : List Entry) (k : ℕ) → length xs ≡ k → length (xs ++ x ∷ []) ≡ suc k
        one_longer [] x k e = ap suc e
        one_longer (y ∷ xs) x zero e = cc
        one_longer (y ∷ xs) x (suc k) e = ap suc (one_longer xs x k (omega arith))

    pub one_passed : {G : Type 0} (Holds : G → List Passed → Bool → Type 0) (m : ℕ) (gates after : List G) → m ≡ n + 1 → HavePassed Holds ls (take n ws) gates → IsNextGate Holds now w gates after → HavePassed Holds ls (take m ws) after
    one_passed Holds m gates after more so_far one = subst (λ k. HavePassed Holds ls (take k ws) after) (sym (more ∙ add-one n))
        (subst (λ d. HavePassed Holds ls d after) (sym (take_here n ws w lt is))
        (subst (λ a. HavePassed Holds ls (take n ws ++ w ∷ []) a) (sym one.pushed)
        (zip_push (λ v gate. HasPassed (Holds gate) ls v) (take n ws) gates w one.gate so_far (other_lanes Holds now ls (λ k passed. taken_before (take n ws) lefts k passed ls now h.lanes) w one.gate one.passed))))

    pub one_began : {G : Type 0} (began : G → Option (List ℕ)) (m : ℕ) (gates after : List G) → m ≡ n + 1 → map began gates ≡ began_of (take n ws) → map began after ≡ map began gates ++ w.began ∷ [] → map began after ≡ began_of (take m ws)
    one_began began m gates after more so_far one =
        one
        ∙ (ap (λ l. l ++ w.began ∷ []) so_far
        ∙ (sym (each_and (λ (v : WorkerParts). v.began) (take n ws) w) ∙ (ap began_of (sym (take_here n ws w lt is)) ∙ ap (λ k. began_of (take k ws)) (sym (more ∙ add-one n)))))

  module _ (end : n ≡ length ws) where
    every : take n ws ≡ ws
    every = ap (λ k. take k ws) end ∙ whole ws

    pub journals_end : journals ≡ map (λ (w : WorkerParts). w.shard.journal) ws
    journals_end = h.journals_now ∙ ap (λ l. map (λ (w : WorkerParts). w.shard.journal) l) every

    pub many_end : length lefts ≡ length ws
    many_end = h.many ∙ end

    pub known_end : AreKnown ws lefts
    known_end = λ lane unopened. subst (λ d. All IsEmpty (arrived lane d lefts)) every (h.known lane unopened)

    pub right_end : All IsRight ws
    right_end = subst (All IsRight) every h.right

    lanes_end : AllZip (IsAfter ws lefts) ls now
    lanes_end = subst (λ d. AllZip (IsAfter d lefts) ls now) every h.lanes

    rest_end : All (HasRest []) now
    rest_end = subst (λ r. All (HasRest r) now) (ap (λ k. drop k ws) end ∙ none_left ws) h.rest.lanes
      where
        none_left : (xs : List WorkerParts) → drop (length xs) xs ≡ []
        none_left [] = refl
        none_left (x ∷ xs) = none_left xs

    sent_none : (ss : List (SenderParts Entry)) → mailboxes ss ≡ [] → map (λ (s : SenderParts Entry). s.sent) ss ≡ []
    sent_none [] e = refl
    sent_none (s ∷ ss) e = cc

    abbrev HasArrived : LaneParts → Type 0
    HasArrived l = arrived l.number ws lefts ≡ sent_by l

    pub all_arrived : (xs ms : List LaneParts) → AllZip (IsAfter ws lefts) xs ms → All (HasRest []) ms → All HasArrived xs
    all_arrived [] ms all rest = All-nil HasArrived
    all_arrived (l ∷ xs) [] all rest = absurd all
    all_arrived (l ∷ xs) (m ∷ ms) all rest =
        All-cons HasArrived l xs (sym (all.0.sent ∙ (ap (λ x. arrived l.number ws lefts ++ x) (sent_none m.shards (All-head (HasRest []) m ms rest)) ∙ append-nil (arrived l.number ws lefts))))
        (all_arrived xs ms all.1 (All-tail (HasRest []) m ms rest))

    abbrev AreAnswered : LaneParts → Type 0
    AreAnswered l = All (IsAnswered l) ws

    pub all_told : (xs ms : List LaneParts) → AllZip (IsAfter ws lefts) xs ms → All AreAnswered xs
    all_told [] ms all = All-nil AreAnswered
    all_told (l ∷ xs) [] all = absurd all
    all_told (l ∷ xs) (m ∷ ms) all = All-cons AreAnswered l xs all.0.answered (all_told xs ms all.1)

    pub sent_end : (before : List LaneParts) → IsPermutation before ls → All (λ (l : LaneParts). arrived l.number ws lefts ≡ sent_by l) before
    sent_end before moved = All-permutation HasArrived ls before (IsPermutation-sym before ls moved) (all_arrived ls now lanes_end rest_end)

    pub answered_end : (before : List LaneParts) → IsPermutation before ls → All (λ (l : LaneParts). All (IsAnswered l) ws) before
    answered_end before moved = All-permutation AreAnswered ls before (IsPermutation-sym before ls moved) (all_told ls now lanes_end)

    pub gates_end : {G : Type 0} (Holds : G → List Passed → Bool → Type 0) (gates : List G) (before : List LaneParts) → IsPermutation before ls → HavePassed Holds ls (take n ws) gates → HavePassed Holds before ws gates
    gates_end Holds gates before moved so_far =
        all_other_lanes Holds ls before (λ k passed. All-permutation (IsFirstOf k passed) ls before (IsPermutation-sym before ls moved)) ws gates (subst (λ d. HavePassed Holds ls d gates) every so_far)

    pub began_end : {G : Type 0} (began : G → Option (List ℕ)) (gates : List G) → map began gates ≡ began_of (take n ws) → map began gates ≡ began_of ws
    began_end began gates so_far = so_far ∙ ap began_of every

    pub asked_end : (before : List LaneParts) → AreTogether ws before → IsPermutation before ls → numbers ls ≡ range_with_len 0 (lanes_of ws) → AreJournalsFrom (length ws) 0 (map (λ (w : WorkerParts). w.shard.journal) ws)
    asked_end before together moved order =
        journals_asked ws ls lefts order many_end (All-weaker (IsLaneOf ws) (λ (l : LaneParts). (length l.shards ≡ length ws) × IsOfShards l) (λ (l : LaneParts) is. (as_many_shards l is.0, is.2)) ls (All-permutation (IsLaneOf ws) before ls moved together.lanes_of_them))
        (all_arrived ls now lanes_end rest_end) known_end
      where
        as_many_shards : (l : LaneParts) → mailboxes l.shards ≡ requests_at ws → length l.shards ≡ length ws
        as_many_shards l e = sym (each_length (λ (s : SenderParts Entry). s.mailbox) l.shards) ∙ (ap length e ∙ each_length (λ (w : WorkerParts). w.requests.mailbox) ws)
