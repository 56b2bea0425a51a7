-- The commands that a lane sent, by ticket.
use Rattle.std.proofs.Common.{◌≡◌, inl, inr, ℕ, zero, suc, ◌+◌, ◌-◌, ◌<◌, ◌≤◌, ◌==◌, cond, Bool, true, false, if◌then◌else◌, List, [], ◌∷◌, ◌++◌, All, length, Option, Some, None, refl, sym, ap, ◌∙◌, subst, append-nil, arith, eq-eqb, eqb-true, add-one}
use Rattle.std.specs.List.{AllByRecursion, IsDistinct, find}
use Rattle.std.proofs.lemmas.Bool.{cases_lt, ne_eqb}
use Rattle.pay_shard.specs.Words.{IsAfterAll, command_under}
use Rattle.pay_shard.specs.declared.asked.Asked.{Asked}
use Rattle.pay_shard.specs.declared.item.Entry.{Entry}
use Rattle.pay_lanes.specs.Parts.{LaneParts, shard_of, next_entry, having_asked}
use Rattle.pay_lanes.specs.Working.{IsOwn, all_sent, AreSingle}
use Rattle.pay_lanes.specs.Sendings.{split, all_before}
use Rattle.pay_office.specs.Waits.{entry_under, command_beside, commands_below, commands_sent, NoneIsHidden, AreBelow}

-- ---- the first that passes a test

module _ {X : Type 0} (test : X → Bool) where
  pub find_skip : (front : List X) (x : X) (back : List X) → test x ≡ false → find test (front ++ x ∷ back) ≡ find test (front ++ back)
  find_skip [] x back off = ap (λ b. cond b (Some x) (find test back)) off
  find_skip (y ∷ front) x back off = ap (λ o. cond (test y) (Some y) o) (find_skip front x back off)

  pub find_none : (xs : List X) → AllByRecursion (λ x. test x ≡ false) xs → find test xs ≡ None
  find_none [] off = refl
  find_none (y ∷ xs) off = ap (λ b. cond b (Some y) (find test xs)) off.0 ∙ find_none xs off.1

  pub find_here : (front : List X) (x : X) (back : List X) → AllByRecursion (λ y. test y ≡ false) front → test x ≡ true → find test (front ++ x ∷ back) ≡ Some x
  find_here [] x back off here = ap (λ b. cond b (Some x) (find test back)) here
  find_here (y ∷ front) x back off here = ap (λ b. cond b (Some y) (find test (front ++ x ∷ back))) off.0 ∙ find_here front x back off.1 here

  pub find_kept : (xs more : List X) (x : X) → find test xs ≡ Some x → find test (xs ++ more) ≡ Some x
  find_kept [] more x e = absurd (cc)
  find_kept (y ∷ xs) more x e = by (test y) (find_kept xs more x) e
    where
      by : (b : Bool) → (find test xs ≡ Some x → find test (xs ++ more) ≡ Some x) → cond b (Some y) (find test xs) ≡ Some x → cond b (Some y) (find test (xs ++ more)) ≡ Some x
      by true rest e = e
      by false rest e = rest e

  pub find_passes : (xs : List X) (x : X) → find test xs ≡ Some x → test x ≡ true
  find_passes [] x e = absurd (cc)
  find_passes (y ∷ xs) x e = by (test y) refl (find_passes xs x) e
    where
      some_is : (a b : X) → ◌≡◌ {A = Option X} (Some a) (Some b) → a ≡ b
      some_is a b e = cc

      by : (b : Bool) → test y ≡ b → (find test xs ≡ Some x → test x ≡ true) → cond b (Some y) (find test xs) ≡ Some x → test x ≡ true
      by true is rest e = subst (λ z. test z ≡ true) (some_is y x e) is
      by false off rest e = rest e

-- ---- tickets

-- no test of another ticket is passed
pub other : (a b : ℕ) → a < b → (a == b) ≡ false
other a b less = ne_eqb a b (λ same. absurd (omega (arith, less, same)))

pub other_too : (a b : ℕ) → b < a → (a == b) ≡ false
other_too a b less = ne_eqb a b (λ same. absurd (omega (arith, less, same)))

none_at : (next ticket : ℕ) (entries : List Entry) → AreBelow next entries → next ≤ ticket → AllByRecursion (λ (e : Entry). (e.ticket == ticket) ≡ false) entries
none_at next ticket [] below far = tt
none_at next ticket (e ∷ entries) below far = (let less = below.0 in other e.ticket ticket (omega (arith, less, far)), none_at next ticket entries below.1 far)

below_front : (next : ℕ) (front back : List Entry) → AreBelow next (front ++ back) → AreBelow next front
below_front next [] back below = tt
below_front next (e ∷ front) back below = (below.0, below_front next front back below.1)

-- ---- one more

same_below : (n : ℕ) (front back : List Entry) (e : Entry) → n ≤ e.ticket → commands_below n (front ++ e ∷ back) ≡ commands_below n (front ++ back)
same_below zero front back e far = refl
same_below (suc n) front back e far =
    (λ i. same_below n front back e (omega (arith, far)) i
    ++ command_beside n (find_skip (λ (x : Entry). x.ticket == n) front e back (other_too e.ticket n (omega (arith, far))) i))

one_below : (n : ℕ) (front back : List Entry) (e : Entry) → e.ticket ≡ n → AreBelow n (front ++ back) → commands_below (suc n) (front ++ e ∷ back) ≡ commands_below n (front ++ back) ++ (n, e.command) ∷ []
one_below n front back e is below =
    (λ i. same_below n front back e (omega (arith, is)) i
    ++ command_beside n (find_here (λ (x : Entry). x.ticket == n) front e back (none_at n n front (below_front n front back below) (omega arith)) (eq-eqb e.ticket n is) i))

pub own_below : (l : LaneParts) → All (IsOwn l.number l.next) l.shards → AreBelow l.next (all_sent l.shards)
own_below l own = all_before l.number l.next l.shards own

below_more : (n : ℕ) (es : List Entry) → AreBelow n es → AreBelow (n + 1) es
below_more n [] below = tt
below_more n (e ∷ es) below = (let less = below.0 in omega (arith, less), below_more n es below.1)

below_both : (n : ℕ) (front back : List Entry) (e : Entry) → e.ticket < n → AreBelow n (front ++ back) → AreBelow n (front ++ e ∷ back)
below_both n [] back e less below = (less, below)
below_both n (x ∷ front) back e less below = (below.0, below_both n front back e less below.1)

-- what was sent, once one more was
pub sent_below : (l : LaneParts) (a : Asked) → shard_of (length l.shards) a < length l.shards → AreBelow l.next (all_sent l.shards) → AreBelow (l.next + 1) (all_sent (having_asked l a).shards)
sent_below l a there below =
    let s = split (shard_of (length l.shards) a) (next_entry l a) l.shards there in
    subst (AreBelow (l.next + 1)) (sym s.now) (below_both (l.next + 1) s.front s.back (next_entry l a) (omega arith) (below_more l.next (s.front ++ s.back) (subst (AreBelow l.next) s.was below)))

-- what was sent, by later tickets
pub below_later : (n m : ℕ) (es : List Entry) → n ≤ m → AreBelow n es → AreBelow m es
below_later n m [] le below = tt
below_later n m (e ∷ es) le below = (let less = below.0 in omega (arith, less, le), below_later n m es le below.1)

pub commands_put : (l : LaneParts) (a : Asked) → shard_of (length l.shards) a < length l.shards → AreBelow l.next (all_sent l.shards) → commands_sent (having_asked l a) ≡ commands_sent l ++ (l.next, a) ∷ []
commands_put l a there below =
    let s = split (shard_of (length l.shards) a) (next_entry l a) l.shards there in
    ap (λ n. commands_below n (all_sent (having_asked l a).shards)) (add-one l.next)
    ∙ (ap (commands_below (suc l.next)) s.now
    ∙ (one_below l.next s.front s.back (next_entry l a) refl (subst (AreBelow l.next) s.was below) ∙ ap (λ es. commands_below l.next es ++ (l.next, a) ∷ []) (sym s.was)))

-- ---- later tickets add nothing

more_below : (n k : ℕ) (es : List Entry) → AreBelow n es → commands_below (k + n) es ≡ commands_below n es
more_below n zero es below = ap (λ m. commands_below m es) (none n)
  where
    none : (m : ℕ) → 0 + m ≡ m
    none m = omega arith
more_below n (suc k) es below =
    ap (λ m. commands_below m es) (next k n)
    ∙ (ap (λ o. commands_below (k + n) es ++ command_beside (k + n) o) (find_none (λ (x : Entry). x.ticket == k + n) es (none_at n (k + n) es below (omega arith)))
    ∙ (append-nil (commands_below (k + n) es) ∙ more_below n k es below))
  where
    next : (j m : ℕ) → suc j + m ≡ suc (j + m)
    next j m = omega arith

pub commands_later : (n m : ℕ) (es : List Entry) → AreBelow n es → n ≤ m → commands_below m es ≡ commands_below n es
commands_later n m es below le = ap (λ k. commands_below k es) (sym (parted n m le)) ∙ more_below n (m - n) es below
  where
    parted : (a b : ℕ) → a ≤ b → (b - a) + a ≡ b
    parted a b le = omega (arith, le)

-- ---- all are below the next

append_all : {X : Type 0} (P : X → Type 0) (xs ys : List X) → AllByRecursion P xs → AllByRecursion P ys → AllByRecursion P (xs ++ ys)
append_all P [] ys all rest = rest
append_all P (x ∷ xs) ys all rest = (all.0, append_all P xs ys all.1 rest)

later_all : (n : ℕ) (ts : List (ℕ × Asked)) → IsAfterAll n ts → IsAfterAll (suc n) ts
later_all n [] after = tt
later_all n (t ∷ ts) after = (let less = after.0 in omega (arith, less), later_all n ts after.1)

pub after_all : (n : ℕ) (es : List Entry) → IsAfterAll n (commands_below n es)
after_all zero es = tt
after_all (suc n) es = append_all (λ (t : ℕ × Asked). t.0 < suc n) (commands_below n es) (command_beside n (entry_under n es)) (later_all n (commands_below n es) (after_all n es)) (last (entry_under n es))
  where
    last : (o : Option Entry) → AllByRecursion (λ (t : ℕ × Asked). t.0 < suc n) (command_beside n o)
    last None = tt
    last (Some e) = (omega arith, tt)

-- ---- the command under a ticket

pub under_kept : (ticket : ℕ) (ts more : List (ℕ × Asked)) (a : Asked) → command_under ticket ts ≡ Some a → command_under ticket (ts ++ more) ≡ Some a
under_kept ticket [] more a e = absurd (cc)
under_kept ticket (t ∷ ts) more a e = by (t.0 == ticket) (under_kept ticket ts more a) e
  where
    by : (b : Bool) → (command_under ticket ts ≡ Some a → command_under ticket (ts ++ more) ≡ Some a) → (if b then Some t.1 else command_under ticket ts) ≡ Some a → (if b then Some t.1 else command_under ticket (ts ++ more)) ≡ Some a
    by true rest e = e
    by false rest e = rest e

pub under_last : (ticket : ℕ) (a : Asked) (ts : List (ℕ × Asked)) → IsAfterAll ticket ts → command_under ticket (ts ++ (ticket, a) ∷ []) ≡ Some a
under_last ticket a [] after = ap (λ (b : Bool). if b then Some a else None) (eq-eqb ticket ticket refl)
under_last ticket a (t ∷ ts) after =
    let less = after.0 in
    ap (λ (b : Bool). if b then Some t.1 else command_under ticket (ts ++ (ticket, a) ∷ [])) (other t.0 ticket less) ∙ under_last ticket a ts after.1

-- ---- none is hidden

under_below : (n ticket : ℕ) (es : List Entry) (e : Entry) → ticket < n → entry_under ticket es ≡ Some e → command_under ticket (commands_below n es) ≡ Some e.command
under_below zero ticket es e less found = absurd (omega (arith, less))
under_below (suc n) ticket es e less found = elim (cases_lt ticket n) [
  | inl before ↦ under_kept ticket (commands_below n es) (command_beside n (entry_under n es)) e.command (under_below n ticket es e before found)
  | inr beyond ↦ (let here : ticket ≡ n = omega (arith, less, beyond) in subst (λ t. command_under t (commands_below (suc n) es) ≡ Some e.command) (sym here) (last (subst (λ t. entry_under t es ≡ Some e) here found)))
]
  where
    last : entry_under n es ≡ Some e → command_under n (commands_below (suc n) es) ≡ Some e.command
    last its = ap (λ o. command_under n (commands_below n es ++ command_beside n o)) its ∙ under_last n e.command (commands_below n es) (after_all n es)

pub not_its : (x y : ℕ) → (x == y) ≡ false → (y == x) ≡ false
not_its x y off = by (y == x) refl
  where
    by : (b : Bool) → (y == x) ≡ b → b ≡ false
    by true same = let is = eq-eqb x y (sym (eqb-true y x same)) in absurd (cc)
    by false e = refl

abbrev IsFirst : List Entry → Entry → Type 0
IsFirst entries e = entry_under e.ticket entries ≡ Some e

-- after an entry of another ticket
after_one : (x : Entry) (es entries : List Entry) → AllByRecursion (λ (y : Entry). (y.ticket == x.ticket) ≡ false) entries → AllByRecursion (IsFirst es) entries → AllByRecursion (IsFirst (x ∷ es)) entries
after_one x es [] off first = tt
after_one x es (e ∷ entries) off first = (
  ap (λ (b : Bool). cond b (Some x) (entry_under e.ticket es)) (not_its e.ticket x.ticket off.0) ∙ first.0,
  after_one x es entries off.1 first.1,
)

-- each is the first under its ticket
each_first : (es : List Entry) → AreSingle es → AllByRecursion (IsFirst es) es
unfolding IsDistinct
each_first [] single = tt
each_first (e ∷ es) single = (ap (λ (b : Bool). cond b (Some e) (entry_under e.ticket es)) (eq-eqb e.ticket e.ticket refl), after_one e es es single.0 (each_first es single.1))

pub none_hidden : (l : LaneParts) → All (IsOwn l.number l.next) l.shards → AreSingle (all_sent l.shards) → NoneIsHidden l
none_hidden l own single = by (all_sent l.shards) (own_below l own) (each_first (all_sent l.shards) single)
  where
    by : (entries : List Entry) → AreBelow l.next entries → AllByRecursion (IsFirst (all_sent l.shards)) entries → AllByRecursion (λ (e : Entry). command_under e.ticket (commands_sent l) ≡ Some e.command) entries
    by [] below first = tt
    by (e ∷ entries) below first = (under_below l.next e.ticket (all_sent l.shards) e below.0 first.0, by entries below.1 first.1)
