-- A desk over one shard: one command more, and one reply less.
use Rattle.std.proofs.Common.{◌≡◌, inl, inr, ℕ, zero, suc, ◌+◌, ◌<◌, ◌==◌, Bool, true, false, not, cond, List, [], ◌∷◌, ◌++◌, length, nat_lt, Option, Some, None, zero-add, refl, sym, ap, ◌∙◌, subst, arith}
use Rattle.std.specs.List.{AllByRecursion, IsDistinct, find, position, position_or_len, remove, slice_get, slice_index_or}
use Rattle.std.specs.Option.{option_map}
use Rattle.std.proofs.lemmas.Bool.{lt-ltb, eqb-true, eq-eqb}
use Rattle.std.specs.Prelude.{if◌then◌else◌, IfSome}
use Rattle.std.proofs.lemmas.List.{map-append}
use Rattle.pay_rules.specs.InTurn.{IsIn}
use Rattle.pay_tables.specs.Words.{FareEditions}
use Rattle.pay_shard.specs.Desks.{IsAfterAll, IsNoneOf, without, command_under, IsReplyTo, NothingIsLost}
use Rattle.pay_shard.specs.LocalParts.{commands_of, transcript_of, AreInPlace, AreBelow, IsTaken, tickets_of, AreDistinct, AreOfRun, answers_without, IsLocal}
use Rattle.pay_shard.specs.Machine.{item_step}
use Rattle.pay_shard.specs.Runs.{answer_at, answers_from}
use Rattle.pay_shard.specs.JournalParts.{JournalMemory}
use Rattle.pay_shard.specs.ShardParts.{ShardParts, answers_given, next_answer, item_of, with_item, with_memory, IsKeptBy}
use Rattle.pay_rules.specs.State.{State}
use Rattle.pay_shard.specs.declared.item.Entry.{Entry}
use Rattle.pay_shard.specs.declared.item.Item.{Item}
use Rattle.pay_shard.specs.declared.reply.Answer.{Answer}
use Rattle.pay_shard.specs.declared.reply.Reply.{Reply}
use Rattle.pay_shard.proofs.Journals.{answers_more}
use Rattle.pay_shard.proofs.Places.{all_more}

-- ---- the answer to a ticket is to its command

some_is : (x y : Answer) → ◌≡◌ {A = Option Answer} (Some x) (Some y) → x ≡ y
some_is x y e = cc

-- where each entry stands at its ticket, the answer at a place is to the command there
own_at : (shard place : ℕ) (editions : FareEditions) (state : State) (items : List Item) (k : ℕ) (a : Answer) → AreInPlace place items → slice_get (answers_from shard place editions state items) k ≡ Some a
    → (a.ticket ≡ place + k) × (command_under (place + k) (commands_of items) ≡ Some a.command)
own_at shard place editions state [] k a are e = absurd (cc)
own_at shard place editions state (item ∷ items) zero a are e =
    let is = some_is (answer_at shard place editions state item) a e in
    let its = are.0.1 in
    let here : item.entry.ticket ≡ place + 0 = omega (arith, its) in (
      sym (ap (λ (x : Answer). x.ticket) is) ∙ here,
      ap (λ (b : Bool). if b then Some item.entry.command else command_under (place + 0) (commands_of items)) (eq-eqb item.entry.ticket (place + 0) here) ∙ ap (λ (x : Answer). Some x.command) is,
    )
own_at shard place editions state (item ∷ items) (suc k) a are e =
    let rest = own_at shard (place + 1) editions (item_step editions state item).after items k a are.1 e in
    let next : (place + 1) + k ≡ place + suc k = omega arith in (
      rest.0 ∙ next,
      ap (λ (b : Bool). if b then Some item.entry.command else command_under (place + suc k) (commands_of items)) (off (item.entry.ticket == place + suc k) refl)
          ∙ ap (λ n. command_under n (commands_of items)) (sym next) ∙ rest.1,
    )
  where
    off : (b : Bool) → (item.entry.ticket == place + suc k) ≡ b → (item.entry.ticket == place + suc k) ≡ false
    off true same =
        let is = eqb-true item.entry.ticket (place + suc k) same in
        let its = are.0.1 in
        absurd (omega (arith, is, its))
    off false other = other

pub reply_to : (s : ShardParts) (ticket : ℕ) (reply : Reply) → AreInPlace 0 s.journal → option_map (λ (a : Answer). a.reply) (transcript_of s ticket) ≡ Some reply
    → IsReplyTo ticket (commands_of s.journal) (transcript_of s) reply
reply_to s ticket reply placed e = by (transcript_of s ticket) refl e
  where
    its : (answer : Answer) → ◌≡◌ {A = Option Reply} (Some answer.reply) (Some reply) → answer.reply ≡ reply
    its answer e = cc

    by : (o : Option Answer) → transcript_of s ticket ≡ o → option_map (λ (a : Answer). a.reply) o ≡ Some reply → IsReplyTo ticket (commands_of s.journal) (transcript_of s) reply
    by None stands e = absurd (cc)
    by (Some answer) stands e =
        let own = own_at s.number 0 s.editions s.base s.journal ticket answer placed stands in
        record {
          answer = answer;
          stands = stands;
          of_ticket = own.0 ∙ zero-add ticket;
          of_command = ap (λ n. command_under n (commands_of s.journal)) (sym (zero-add ticket)) ∙ own.1;
          told = its answer e;
        }

-- ---- the answer to a ticket is taken out

module _ (ticket : ℕ) where
  abbrev pub is_its : Answer → Bool
  is_its a = a.ticket == ticket

  before : (answers : List Answer) → IsIn (tickets_of answers) ticket → position_or_len is_its answers < length answers
  before [] waits = absurd waits
  before (a ∷ answers) waits = by (a.ticket == ticket) refl (before answers)
    where
      by : (b : Bool) → (a.ticket == ticket) ≡ b → (IsIn (tickets_of answers) ticket → position_or_len is_its answers < length answers) → cond (not b) (1 + position_or_len is_its answers) 0 < suc (length answers)
      by true is rest = omega arith
      by false off rest = elim waits [ inl same ↦ (let here = eq-eqb a.ticket ticket same in absurd (cc)) | inr later ↦ (let less = rest later in omega (arith, less)) ]

  pub some_stands : (answers : List Answer) → IsIn (tickets_of answers) ticket → position is_its answers ≡ None → ⊥
  some_stands answers waits none =
      let n = position_or_len is_its answers in
      let here = ap (λ (b : Bool). cond b (Some n) None) (lt-ltb n (length answers) (before answers waits)) in
      absurd (cc)

  place_is : (b : Bool) (n place : ℕ) → cond b (Some n) None ≡ Some place → n ≡ place
  place_is true n place e = cc
  place_is false n place e = absurd (cc)

  one_more : (n : ℕ) → 1 + n ≡ suc n
  one_more n = omega arith

  removed : (answers : List Answer) → remove answers (position_or_len is_its answers) ≡ answers_without ticket answers
  removed [] = refl
  removed (a ∷ answers) = by (a.ticket == ticket) (removed answers)
    where
      by : (b : Bool) → remove answers (position_or_len is_its answers) ≡ answers_without ticket answers → remove (a ∷ answers) (cond (not b) (1 + position_or_len is_its answers) 0) ≡ cond b answers (a ∷ answers_without ticket answers)
      by true rest = refl
      by false rest = ap (remove (a ∷ answers)) (one_more (position_or_len is_its answers)) ∙ ap (λ l. a ∷ l) rest

  pub removed_at : (answers : List Answer) (place : ℕ) → position is_its answers ≡ Some place → remove answers place ≡ answers_without ticket answers
  removed_at answers place e = ap (remove answers) (sym (place_is (nat_lt (position_or_len is_its answers) (length answers)) (position_or_len is_its answers) place e)) ∙ removed answers

  found : (answers : List Answer) (r : Answer) → position_or_len is_its answers < length answers → r ≡ slice_index_or answers (position_or_len is_its answers) r
      → option_map (λ (a : Answer). a.reply) (find is_its answers) ≡ Some r.reply
  found [] r here e = absurd (omega (arith, here))
  found (a ∷ answers) r here e = by (a.ticket == ticket) (found answers r) here e
    where
      by : (b : Bool) → (position_or_len is_its answers < length answers → r ≡ slice_index_or answers (position_or_len is_its answers) r → option_map (λ (a : Answer). a.reply) (find is_its answers) ≡ Some r.reply)
          → cond (not b) (1 + position_or_len is_its answers) 0 < suc (length answers) → r ≡ slice_index_or (a ∷ answers) (cond (not b) (1 + position_or_len is_its answers) 0) r
          → option_map (λ (a : Answer). a.reply) (cond b (Some a) (find is_its answers)) ≡ Some r.reply
      by true rest here e = ap (λ (x : Answer). Some x.reply) (sym e)
      by false rest here e = rest (omega (arith, here)) (e ∙ ap (λ n. slice_index_or (a ∷ answers) n r) (one_more (position_or_len is_its answers)))

  pub found_at : (answers : List Answer) (place : ℕ) (r : Answer) → IsIn (tickets_of answers) ticket → position is_its answers ≡ Some place → r ≡ slice_index_or answers place r
      → option_map (λ (a : Answer). a.reply) (find is_its answers) ≡ Some r.reply
  found_at answers place r waits e is =
      let n = position_or_len is_its answers in
      found answers r (before answers waits) (is ∙ ap (λ p. slice_index_or answers p r) (sym (place_is (nat_lt n (length answers)) n place e)))

  -- ---- and what stays is of the run

  pub reply_found : (s : ShardParts) (answers : List Answer) (reply : Reply) → AreOfRun s answers → option_map (λ (a : Answer). a.reply) (find is_its answers) ≡ Some reply → option_map (λ (a : Answer). a.reply) (transcript_of s ticket) ≡ Some reply
  reply_found s [] reply of e = absurd (cc)
  reply_found s (a ∷ answers) reply of e = by (a.ticket == ticket) refl (reply_found s answers reply of.1) e
    where
      by : (b : Bool) → (a.ticket == ticket) ≡ b → (option_map (λ (a : Answer). a.reply) (find is_its answers) ≡ Some reply → option_map (λ (a : Answer). a.reply) (transcript_of s ticket) ≡ Some reply)
          → option_map (λ (a : Answer). a.reply) (cond b (Some a) (find is_its answers)) ≡ Some reply → option_map (λ (a : Answer). a.reply) (transcript_of s ticket) ≡ Some reply
      by true is rest e = ap (λ n. option_map (λ (a : Answer). a.reply) (transcript_of s n)) (sym (eqb-true a.ticket ticket is)) ∙ ap (option_map (λ (a : Answer). a.reply)) of.0 ∙ e
      by false off rest e = rest e

  pub answer_found : (s : ShardParts) (answers : List Answer) (answer : Answer) → AreOfRun s answers → find is_its answers ≡ Some answer → transcript_of s ticket ≡ Some answer
  answer_found s [] answer of e = absurd (cc)
  answer_found s (a ∷ answers) answer of e = by (a.ticket == ticket) refl (answer_found s answers answer of.1) e
    where
      by : (b : Bool) → (a.ticket == ticket) ≡ b → (find is_its answers ≡ Some answer → transcript_of s ticket ≡ Some answer) → cond b (Some a) (find is_its answers) ≡ Some answer → transcript_of s ticket ≡ Some answer
      by true is rest e = ap (transcript_of s) (sym (eqb-true a.ticket ticket is)) ∙ of.0 ∙ e
      by false off rest e = rest e

  pub answer_of_found : {X : Type 0} (now : X → Answer) (s : ShardParts) (number : ℕ) (answers given : List Answer) (result : Option X) → AreOfRun s answers → number ≡ ticket → given ≡ answers
      → option_map now result ≡ find (λ (a : Answer). a.ticket == number) given → IfSome result (λ x. transcript_of s ticket ≡ Some (now x))
  answer_of_found {X} now s number answers given None of is same e = tt
  answer_of_found {X} now s number answers given (Some x) of is same e = answer_found s answers (now x) of (sym (e ∙ (λ i. find (λ (a : Answer). a.ticket == is i) (same i))))

  pub some_found : (answers : List Answer) → IsIn (tickets_of answers) ticket → find is_its answers ≡ None → ⊥
  some_found [] waits none = absurd waits
  some_found (a ∷ answers) waits none = by (a.ticket == ticket) refl (some_found answers) none
    where
      by : (b : Bool) → (a.ticket == ticket) ≡ b → (IsIn (tickets_of answers) ticket → find is_its answers ≡ None → ⊥) → cond b (Some a) (find is_its answers) ≡ None → ⊥
      by true is rest e = absurd (cc)
      by false off rest e = elim waits [ inl same ↦ (let here = eq-eqb a.ticket ticket same in absurd (cc)) | inr later ↦ rest later e ]

  all_still : (P : Answer → Type 0) (answers : List Answer) → AllByRecursion P answers → AllByRecursion P (answers_without ticket answers)
  all_still P [] all = tt
  all_still P (a ∷ answers) all = by (a.ticket == ticket) (all_still P answers all.1)
    where
      by : (b : Bool) → AllByRecursion P (answers_without ticket answers) → AllByRecursion P (cond b answers (a ∷ answers_without ticket answers))
      by true rest = all.1
      by false rest = (all.0, rest)

  tickets_still : (P : ℕ → Type 0) (answers : List Answer) → AllByRecursion P (tickets_of answers) → AllByRecursion P (tickets_of (answers_without ticket answers))
  tickets_still P [] all = tt
  tickets_still P (a ∷ answers) all = by (a.ticket == ticket) (tickets_still P answers all.1)
    where
      by : (b : Bool) → AllByRecursion P (tickets_of (answers_without ticket answers)) → AllByRecursion P (tickets_of (cond b answers (a ∷ answers_without ticket answers)))
      by true rest = all.1
      by false rest = (all.0, rest)

  distinct_still : (answers : List Answer) → AreDistinct (tickets_of answers) → AreDistinct (tickets_of (answers_without ticket answers))
  unfolding IsDistinct
  distinct_still [] distinct = tt
  distinct_still (a ∷ answers) distinct = by (a.ticket == ticket) (distinct_still answers distinct.1)
    where
      by : (b : Bool) → AreDistinct (tickets_of (answers_without ticket answers)) → AreDistinct (tickets_of (cond b answers (a ∷ answers_without ticket answers)))
      by true rest = distinct.1
      by false rest = (tickets_still (λ y. (y == a.ticket) ≡ false) answers distinct.0, rest)

  pub local_still : (forgets : Bool) (s : ShardParts) (answers left : List Answer) → IsLocal forgets s answers → left ≡ answers_without ticket answers → IsLocal forgets s left
  local_still forgets s answers left is same =
      subst (IsLocal forgets s) (sym same) (is.0, (all_still (λ (a : Answer). transcript_of s a.ticket ≡ Some a) answers is.1.0, distinct_still answers is.1.1))

  none_left : (tickets : List ℕ) → AllByRecursion (λ y. (y == ticket) ≡ false) tickets → tickets ≡ without ticket tickets
  none_left [] off = refl
  none_left (t ∷ tickets) off = by (t == ticket) off.0 (none_left tickets off.1)
    where
      by : (b : Bool) → b ≡ false → tickets ≡ without ticket tickets → t ∷ tickets ≡ cond (not b) (t ∷ without ticket tickets) (without ticket tickets)
      by true e rest = absurd (cc)
      by false e rest = ap (λ l. t ∷ l) rest

  pub tickets_left : (answers : List Answer) → AreDistinct (tickets_of answers) → tickets_of (answers_without ticket answers) ≡ without ticket (tickets_of answers)
  unfolding IsDistinct
  tickets_left [] distinct = refl
  tickets_left (a ∷ answers) distinct = by (a.ticket == ticket) refl (tickets_left answers distinct.1)
    where
      by : (b : Bool) → (a.ticket == ticket) ≡ b → tickets_of (answers_without ticket answers) ≡ without ticket (tickets_of answers) → tickets_of (cond b answers (a ∷ answers_without ticket answers)) ≡ cond (not b) (a.ticket ∷ without ticket (tickets_of answers)) (without ticket (tickets_of answers))
      by true is rest = none_left (tickets_of answers) (subst (λ n. AllByRecursion (λ y. (y == n) ≡ false) (tickets_of answers)) (eqb-true a.ticket ticket is) distinct.0)
      by false off rest = ap (λ l. a.ticket ∷ l) rest

-- ---- one more item

as_many_answers : (shard place : ℕ) (editions : FareEditions) (state : State) (items : List Item) → length (answers_from shard place editions state items) ≡ length items
as_many_answers shard place editions state [] = refl
as_many_answers shard place editions state (item ∷ items) = ap suc (as_many_answers shard (place + 1) editions (item_step editions state item).after items)

still_there : (list more : List Answer) (place : ℕ) (a : Answer) → slice_get list place ≡ Some a → slice_get (list ++ more) place ≡ Some a
still_there [] more place a e = absurd (cc)
still_there (x ∷ list) more zero a e = e
still_there (x ∷ list) more (suc place) a e = still_there list more place a e

the_last : (list : List Answer) (a : Answer) → slice_get (list ++ a ∷ []) (length list) ≡ Some a
the_last [] a = refl
the_last (x ∷ list) a = the_last list a

within : (list : List Answer) (place : ℕ) (a : Answer) → slice_get list place ≡ Some a → place < length list
within [] place a e = absurd (cc)
within (x ∷ list) zero a e = omega arith
within (x ∷ list) (suc place) a e = let rest = within list place a e in omega (arith, rest)

answers_with : (s : ShardParts) (item : Item) (memory : JournalMemory) → answers_given (with_item s item memory) ≡ answers_given s ++ next_answer s item ∷ []
answers_with s item memory = answers_more s.number s.editions s.base s.journal item

answers_kept : (s : ShardParts) (item : Item) (memory : JournalMemory) → NothingIsLost (transcript_of s) (transcript_of (with_item s item memory))
answers_kept s item memory ticket a e = ap (λ l. slice_get l ticket) (answers_with s item memory) ∙ still_there (answers_given s) (next_answer s item ∷ []) ticket a e

next_stands : (s : ShardParts) (item : Item) (memory : JournalMemory) → transcript_of (with_item s item memory) (length s.journal) ≡ Some (next_answer s item)
next_stands s item memory =
    (λ i. slice_get (answers_with s item memory i) (sym (as_many_answers s.number 0 s.editions s.base s.journal) i)) ∙ the_last (answers_given s) (next_answer s item)

in_place_more : (place : ℕ) (items : List Item) (item : Item) → AreInPlace place items → item.entry.lane ≡ 0 → item.entry.ticket ≡ place + length items → AreInPlace place (items ++ item ∷ [])
in_place_more place [] item are lane ticket = ((lane, omega (arith, ticket)), tt)
in_place_more place (first ∷ items) item are lane ticket = (are.0, in_place_more (place + 1) items item are.1 lane (omega (arith, ticket)))

all_below : (place limit : ℕ) (items : List Item) → AreInPlace place items → place + length items ≡ limit → IsAfterAll limit (commands_of items)
all_below place limit [] are e = tt
all_below place limit (item ∷ items) are e = let here = are.0.1 in (omega (arith, here, e), all_below (place + 1) limit items are.1 (omega (arith, e)))

pub after_all : (items : List Item) (ticket : ℕ) → AreInPlace 0 items → ticket ≡ length items → IsAfterAll ticket (commands_of items)
after_all items ticket are e = all_below 0 ticket items are (omega (arith, e))

distinct_more : (tickets : List ℕ) (ticket : ℕ) → AreDistinct tickets → AllByRecursion (λ t. (ticket == t) ≡ false) tickets → AreDistinct (tickets ++ ticket ∷ [])
unfolding IsDistinct
distinct_more [] ticket distinct off = (tt, tt)
distinct_more (t ∷ tickets) ticket distinct off = (all_more (λ y. (y == t) ≡ false) tickets ticket distinct.0 off.0, distinct_more tickets ticket distinct.1 off.1)

-- a ticket that is no place yet is none of those that have an answer
all_new : (s : ShardParts) (ticket : ℕ) (answers : List Answer) → AreOfRun s answers → ticket ≡ length s.journal → AllByRecursion (λ t. (ticket == t) ≡ false) (tickets_of answers)
all_new s ticket [] of e = tt
all_new s ticket (a ∷ answers) of e = (by (ticket == a.ticket) refl, all_new s ticket answers of.1 e)
  where
    by : (b : Bool) → (ticket == a.ticket) ≡ b → b ≡ false
    by true same =
        let is = eqb-true ticket a.ticket same in
        let below = within (answers_given s) a.ticket a of.0 in
        let many = as_many_answers s.number 0 s.editions s.base s.journal in
        absurd (omega (arith, is, below, many, e))
    by false off = refl

pub none_of : (s : ShardParts) (ticket : ℕ) (answers : List Answer) → AreOfRun s answers → ticket ≡ length s.journal → IsNoneOf ticket (tickets_of answers)
none_of s ticket [] of e = tt
none_of s ticket (a ∷ answers) of e = (by (a.ticket == ticket) refl, none_of s ticket answers of.1 e)
  where
    by : (b : Bool) → (a.ticket == ticket) ≡ b → b ≡ false
    by true same =
        let is = eqb-true a.ticket ticket same in
        let below = within (answers_given s) a.ticket a of.0 in
        let many = as_many_answers s.number 0 s.editions s.base s.journal in
        absurd (omega (arith, is, below, many, e))
    by false off = refl

-- and those that have one are places
pub all_places : (s : ShardParts) (answers : List Answer) → AreOfRun s answers → AreBelow (length s.journal) (tickets_of answers)
all_places s [] of = tt
all_places s (a ∷ answers) of =
    let below = within (answers_given s) a.ticket a of.0 in
    let many = as_many_answers s.number 0 s.editions s.base s.journal in
    (omega (arith, below, many), all_places s answers of.1)

of_run_more : (s : ShardParts) (item : Item) (memory : JournalMemory) (answers : List Answer) → AreOfRun s answers → AreOfRun (with_item s item memory) answers
of_run_more s item memory [] of = tt
of_run_more s item memory (a ∷ answers) of = (answers_kept s item memory a.ticket a of.0, of_run_more s item memory answers of.1)

local_more : (forgets : Bool) (s : ShardParts) (answers : List Answer) (entry : Entry) (mark : Bool) (memory : JournalMemory) → IsKeptBy forgets (with_item s (item_of entry mark) memory) → IsLocal forgets s answers → entry.lane ≡ 0 → entry.ticket ≡ length s.journal
    → IsLocal forgets (with_item s (item_of entry mark) memory) (answers ++ next_answer s (item_of entry mark) ∷ [])
local_more forgets s answers entry mark memory whole is lane ticket =
    let item = item_of entry mark in
    let answer = next_answer s item in
    let its = ap (transcript_of (with_item s item memory)) ticket ∙ next_stands s item memory in (
      (is.0.0, whole, in_place_more 0 s.journal item is.0.2 lane (omega (arith, ticket))),
      (
        all_more (λ (a : Answer). transcript_of (with_item s item memory) a.ticket ≡ Some a) answers answer (of_run_more s item memory answers is.1.0) its,
        subst AreDistinct (sym (map-append (λ (a : Answer). a.ticket) answers (answer ∷ []))) (distinct_more (tickets_of answers) entry.ticket is.1.1 (all_new s entry.ticket answers is.1.0 ticket)),
      ),
    )

-- ---- a command was put

module _ (s reserved after : ShardParts) (entry : Entry) (mark : Bool) (memory later_memory : JournalMemory) (same : reserved ≡ with_memory s memory) (applied : after ≡ with_item reserved (item_of entry mark) later_memory) where
  is_more : after ≡ with_item s (item_of entry mark) later_memory
  is_more = applied ∙ ap (λ t. with_item t (item_of entry mark) later_memory) same

  pub local_after_put : (forgets : Bool) (answers now later : List Answer) (answer : Answer) → IsKeptBy forgets after → IsLocal forgets s answers → entry.lane ≡ 0 → entry.ticket ≡ length reserved.journal
      → answer ≡ next_answer reserved (item_of entry mark) → now ≡ answers → later ≡ now ++ answer ∷ [] → IsLocal forgets after later
  local_after_put forgets answers now later answer kept_whole is lane ticket answered kept added =
      let many = ap (λ (t : ShardParts). length t.journal) same in
      let as_kept : later ≡ answers ++ next_answer s (item_of entry mark) ∷ [] = added ∙ (λ i. kept i ++ (answered ∙ ap (λ t. next_answer t (item_of entry mark)) same) i ∷ []) in
      let more = local_more forgets s answers entry mark later_memory (subst (IsKeptBy forgets) is_more kept_whole) is lane (ticket ∙ many) in
      subst (λ t. IsLocal forgets t later) (sym is_more) (subst (IsLocal forgets (with_item s (item_of entry mark) later_memory)) (sym as_kept) more)

  pub taken_by_put : entry.lane ≡ 0 → entry.ticket ≡ length reserved.journal → (ticket : ℕ) → ticket ≡ entry.ticket → IsTaken ticket entry.command s after
  taken_by_put lane next ticket its =
      let item = item_of entry mark in
      let many = ap (λ (t : ShardParts). length t.journal) same in
      let place : ticket ≡ length s.journal = its ∙ next ∙ many in
      record {
        item = item;
        is_entry = λ i. record { lane = lane i; ticket = sym its i; command = entry.command };
        is_next = place;
        added = is_more ∙ ap (with_item s item) (sym (ap (λ (t : ShardParts). t.memory) is_more));
        answered = (λ i. transcript_of (is_more i) (place i)) ∙ next_stands s item later_memory;
      }

  pub answers_after_put : NothingIsLost (transcript_of s) (transcript_of after)
  answers_after_put ticket a e = ap (λ t. transcript_of t ticket) is_more ∙ answers_kept s (item_of entry mark) later_memory ticket a e

-- ---- a desk begins

pub local_new : (s : ShardParts) (answers : List Answer) → s.number ≡ 0 → s.memory.forgotten ≡ 0 → s.journal ≡ [] → answers ≡ [] → IsLocal false s answers
unfolding IsDistinct
local_new s answers number whole journal none = subst (IsLocal false s) (sym none) ((number, whole, subst (AreInPlace 0) (sym journal) tt), (tt, tt))
