-- What a lane sends stays its own, and no two entries of it under one ticket.
use Rattle.std.proofs.Common.{◌≡◌, ℕ, zero, suc, ◌+◌, ◌<◌, ◌==◌, false, List, [], ◌∷◌, ◌++◌, All, length, drop, sym, subst, arith}
use Rattle.std.specs.List.{AllByRecursion, IsDistinct}
use Rattle.std.proofs.lemmas.Bool.{ne_eqb}
use Rattle.std.proofs.lemmas.List.Elements.{All-nil, All-append, All-cons, All-head, All-tail, All-weaker}
use Rattle.pay_mailbox.specs.Words.{SenderParts, having_sent}
use Rattle.pay_shard.specs.declared.item.Entry.{Entry}
use Rattle.pay_lanes.specs.Parts.{sent_at}
use Rattle.pay_lanes.specs.Working.{IsOwn, all_sent, AreSingle}
use Rattle.pay_lanes.specs.Openings.{IsNewSender}
use Rattle.pay_lanes.specs.Sendings.{Before, split, all_before}

later : (next : ℕ) (entries : List Entry) → All (Before next) entries → All (Before (next + 1)) entries
later next entries all = All-weaker (Before next) (Before (next + 1)) (λ entry before. omega arith) entries all

own_later : (number next : ℕ) (xs : List (SenderParts Entry)) → All (IsOwn number next) xs → All (IsOwn number (next + 1)) xs
own_later number next xs all = All-weaker (IsOwn number next) (IsOwn number (next + 1)) (λ s own. (own.0, later next s.sent own.1)) xs all

-- one more, under the next ticket
pub own_sent : (number next place : ℕ) (entry : Entry) (xs : List (SenderParts Entry)) → entry.ticket ≡ next → All (IsOwn number next) xs → All (IsOwn number (next + 1)) (sent_at place entry xs)
own_sent number next place entry [] is all = own_later number next [] all
own_sent number next zero entry (s ∷ xs) is all =
    let own : IsOwn number next s = All-head (IsOwn number next) s xs all in
    All-cons (IsOwn number (next + 1)) (having_sent s entry) xs
    (own.0, All-append (Before (next + 1)) s.sent (entry ∷ []) (later next s.sent own.1) (All-cons (Before (next + 1)) entry [] (omega arith) (later next [] (λ k d within. absurd (omega arith)))))
    (own_later number next xs (All-tail (IsOwn number next) s xs all))
own_sent number next (suc place) entry (s ∷ xs) is all =
    let own : IsOwn number next s = All-head (IsOwn number next) s xs all in
    All-cons (IsOwn number (next + 1)) s (sent_at place entry xs) (own.0, later next s.sent own.1) (own_sent number next place entry xs is (All-tail (IsOwn number next) s xs all))

-- ---- no two under one ticket

none_under : (next : ℕ) (e : Entry) (entries : List Entry) → e.ticket ≡ next → AllByRecursion (Before next) entries → AllByRecursion (λ (y : Entry). (y.ticket == e.ticket) ≡ false) entries
none_under next e [] is before = tt
none_under next e (x ∷ entries) is before = (let less = before.0 in ne_eqb x.ticket e.ticket (λ same. absurd (omega (arith, is, less, same))), none_under next e entries is before.1)

all_with : (P : Entry → Type 0) (front back : List Entry) (e : Entry) → AllByRecursion P (front ++ back) → P e → AllByRecursion P (front ++ e ∷ back)
all_with P [] back e all here = (here, all)
all_with P (x ∷ front) back e all here = (all.0, all_with P front back e all.1 here)

one_more : (next : ℕ) (front back : List Entry) (e : Entry) → e.ticket ≡ next → AllByRecursion (Before next) (front ++ back) → AreSingle (front ++ back) → AreSingle (front ++ e ∷ back)
unfolding IsDistinct
one_more next [] back e is before single = (none_under next e back is before, single)
one_more next (x ∷ front) back e is before single = (
  all_with (λ (y : Entry). (y.ticket == x.ticket) ≡ false) front back e single.0 (let less = before.0 in ne_eqb e.ticket x.ticket (λ same. absurd (omega (arith, is, less, same)))),
  one_more next front back e is before.1 single.1,
)

-- one more, under the next ticket
pub single_sent : (number next place : ℕ) (entry : Entry) (xs : List (SenderParts Entry)) → entry.ticket ≡ next → place < length xs → All (IsOwn number next) xs → AreSingle (all_sent xs) → AreSingle (all_sent (sent_at place entry xs))
single_sent number next place entry xs is there own single =
    let parts = split place entry xs there in
    subst AreSingle (sym parts.now) (one_more next parts.front parts.back entry is (subst (AllByRecursion (Before next)) parts.was (all_before number next xs own)) (subst AreSingle parts.was single))

-- nothing was sent
pub none_own : (number : ℕ) (xs : List (SenderParts Entry)) → All (IsNewSender number) xs → All (IsOwn number 0) xs
none_own number xs new = All-weaker (IsNewSender number) (IsOwn number 0) (λ s is. (is.0, subst (All (Before 0)) (sym is.1) (All-nil (Before 0)))) xs new

pub none_single : (number : ℕ) (xs : List (SenderParts Entry)) → All (IsNewSender number) xs → AreSingle (all_sent xs)
unfolding IsDistinct
none_single number [] new = tt
none_single number (s ∷ xs) new =
    subst (λ (entries : List Entry). AreSingle (entries ++ all_sent xs)) (sym (All-head (IsNewSender number) s xs new).1) (none_single number xs (All-tail (IsNewSender number) s xs new))

single_after : (front back : List Entry) → AreSingle (front ++ back) → AreSingle back
unfolding IsDistinct
single_after [] back single = single
single_after (e ∷ front) back single = single_after front back single.1

-- without the first way
pub single_rest : (xs : List (SenderParts Entry)) → AreSingle (all_sent xs) → AreSingle (all_sent (drop 1 xs))
single_rest [] single = single
single_rest (s ∷ xs) single = single_after s.sent (all_sent xs) single
