-- All shards are asked, and then what they bring is got.
use Rattle.std.proofs.Common.{◌≡◌, ℕ, zero, suc, ◌+◌, ◌≤◌, ◌<◌, ◌==◌, Bool, true, false, not, cond, if◌then◌else◌, List, [], ◌∷◌, ◌++◌, length, drop, Option, Some, None, IfSome, IfNone, Result, Ok, Err, refl, sym, ap, ◌∙◌, subst, inl, inr, arith, append_assoc, append-nil, length-append, eqb-true, eq-eqb}
use Rattle.std.specs.Prelude.{OnOk, IfOk, IfErr, slice_index_or}
use Rattle.std.specs.Result.{result_err}
use Rattle.std.specs.List.{AllByRecursion}
use Rattle.pay_rules.specs.InTurn.{IsIn}
use Rattle.pay_shard.specs.Words.{NothingIsLost, BatchParts, Standing, DeskParts, with_waiting, IsAfterAll, IsNoneOf, without, command_under, IsReplyTo}
use Rattle.pay_shard.specs.declared.asked.Asked.{Asked}
use Rattle.pay_shard.specs.declared.asked.Asked.TheVariants as asked
use Rattle.pay_shard.specs.declared.desk.DeskFault.{DeskFault}
use Rattle.pay_shard.specs.declared.desk.DeskFault.TheVariants as desk
use Rattle.pay_shard.specs.declared.reply.Answer.{Answer}
use Rattle.pay_shard.specs.declared.reply.Reply.{Reply}
use Rattle.pay_shard.specs.declared.reply.Reply.TheVariants as replies
use Rattle.pay_till.specs.Words.{Taken, commands_of, IsAnswerTo, AreAnswered, AreQuotes, MaySometimeRefuse, MaySometimeBeLate, gives_quotes, brings_quotes}
use Rattle.pay_close.specs.Batches.{no_batch, both, batch_in, batch_of_answer, brought, AreBrought}
use Rattle.pay_close.specs.Gathers.{fault_of_answer, quotes_put, AreNew, ArePut, first_fault, Keeps, told_by, told_of, IsFirst, IsTold, IsAsked}
use Rattle.pay_close.specs.declared.asking.Answered.{Answered}
use Rattle.pay_close.specs.declared.fault.NotClosed.{NotClosed}
use Rattle.pay_close.proofs.Gathering.{commands_both, all_both, answered_kept, quotes_both, brought_both, alone}

-- ---- commands that are put

quotes_more : (day of from k : ℕ) (ts : List ℕ) (t : ℕ) → k ≡ from + length ts → quotes_put day of from (ts ++ t ∷ []) ≡ quotes_put day of from ts ++ (t, asked.Quotes day k of) ∷ []
quotes_more day of from k [] t e = let same : from ≡ k = omega (arith, e) in ap (λ (n : ℕ). (t, asked.Quotes day n of) ∷ []) same
quotes_more day of from k (u ∷ ts) t e = ap (λ (l : List (ℕ × Asked)). (u, asked.Quotes day from of) ∷ l) (quotes_more day of (suc from) k ts t (omega (arith, e)))

new_more : (day of from : ℕ) (taken : List (ℕ × Asked)) (waiting ts : List ℕ) (t : ℕ) → AreNew day of from taken waiting ts → IsAfterAll t (taken ++ quotes_put day of from ts) → IsNoneOf t (waiting ++ ts)
    → AreNew day of from taken waiting (ts ++ t ∷ [])
new_more day of from taken waiting [] t new above none = (subst (IsAfterAll t) (append-nil taken) above, subst (IsNoneOf t) (append-nil waiting) none, tt)
new_more day of from taken waiting (u ∷ ts) t new above none = (
  new.0,
  new.1,
  new_more day of (suc from) (taken ++ (u, asked.Quotes day from of) ∷ []) (waiting ++ u ∷ []) ts t new.2
      (subst (IsAfterAll t) (sym (append_assoc taken ((u, asked.Quotes day from of) ∷ []) (quotes_put day of (suc from) ts))) above)
      (subst (IsNoneOf t) (sym (append_assoc waiting (u ∷ []) ts)) none),
)

module _ {O : Type 0} (day of : ℕ) (before : List (ℕ × Asked)) (stood : Standing O) where
  pub put_more : (k t : ℕ) (command : Asked) (ts now : List ℕ) (mid after : List (ℕ × Asked)) (s u : Standing O) → ArePut day of ts before mid stood s → length ts ≡ k → command ≡ asked.Quotes day k of
      → after ≡ mid ++ (t, command) ∷ [] → IsAfterAll t mid → IsNoneOf t s.waiting → u ≡ with_waiting (s.waiting ++ t ∷ []) s → now ≡ ts ++ t ∷ [] → ArePut day of now before after stood u
  put_more k t command ts now mid after s u were many is added above none waits more =
      subst (λ (l : List ℕ). ArePut day of l before after stood u) (sym more) (record {
        taken = added ∙ (ap (λ (c : Asked). mid ++ (t, c) ∷ []) is ∙ (ap (λ (m : List (ℕ × Asked)). m ++ (t, asked.Quotes day k of) ∷ []) were.taken
            ∙ (append_assoc before (quotes_put day of 0 ts) ((t, asked.Quotes day k of) ∷ []) ∙ ap (λ (q : List (ℕ × Asked)). before ++ q) (sym (quotes_more day of 0 k ts t (omega (arith, many)))))));
        waits = waits ∙ (ap (λ (x : Standing O). with_waiting (x.waiting ++ t ∷ []) x) were.waits ∙ ap (λ (w : List ℕ). with_waiting w stood) (append_assoc stood.waiting ts (t ∷ [])));
        new = new_more day of 0 before stood.waiting ts t were.new (subst (IsAfterAll t) were.taken above) (subst (IsNoneOf t) (ap (λ (x : Standing O). x.waiting) were.waits) none);
      })

module _ {D O : Type 0} (parts : D → DeskParts O) where
  -- a desk of which some of the commands wait refuses as it may within a line
  pub refuses_within : (stood : Standing O) (now : D) (ts : List ℕ) (fault : DeskFault) → (parts now).standing ≡ with_waiting (stood.waiting ++ ts) stood → length ts < stood.shards → (parts now).MayRefuse fault → MaySometimeRefuse parts stood fault
  unfolding MaySometimeRefuse
  refuses_within stood now ts fault waits few may = (
    now,
    record { same_origin = ap (λ (x : Standing O). x.origin) waits; same_shards = ap (λ (x : Standing O). x.shards) waits; more = ts; waits = ap (λ (x : Standing O). x.waiting) waits; few = inr few },
    may,
  )

  pub late_within : (stood : Standing O) (now : D) (ws : List ℕ) → (parts now).standing ≡ with_waiting ws stood → (parts now).MayBeLate → MaySometimeBeLate parts stood
  unfolding MaySometimeBeLate
  late_within stood now ws waits may = (now, ap (λ (x : Standing O). x.origin) waits, ap (λ (x : Standing O). x.shards) waits, may)

-- ---- tickets, each another

other : (a t : ℕ) → a < t → (a == t) ≡ false
other a t less = by (a == t) refl
  where
    by : (b : Bool) → (a == t) ≡ b → b ≡ false
    by true same = let is = eqb-true a t same in absurd (omega (arith, is, less))
    by false off = refl

turned : (x y : ℕ) → (x == y) ≡ false → (y == x) ≡ false
turned x y off = by (y == x) refl
  where
    by : (b : Bool) → (y == x) ≡ b → b ≡ false
    by true same = let is = eq-eqb x y (sym (eqb-true y x same)) in absurd (cc)
    by false e = refl

none_front : (t : ℕ) (xs ys : List ℕ) → IsNoneOf t (xs ++ ys) → IsNoneOf t xs
none_front t [] ys none = tt
none_front t (x ∷ xs) ys none = (none.0, none_front t xs ys none.1)

none_middle : (t u : ℕ) (xs ys : List ℕ) → IsNoneOf t (xs ++ u ∷ ys) → (u == t) ≡ false
none_middle t u [] ys none = none.0
none_middle t u (x ∷ xs) ys none = none_middle t u xs ys none.1

none_later : (day of from : ℕ) (taken : List (ℕ × Asked)) (waiting ts : List ℕ) (t : ℕ) → AreNew day of from taken waiting ts → ((u : ℕ) → IsNoneOf u waiting → (t == u) ≡ false) → IsNoneOf t ts
none_later day of from taken waiting [] t new apart = tt
none_later day of from taken waiting (u ∷ ts) t new apart = (
  turned t u (apart u new.1),
  none_later day of (suc from) (taken ++ (u, asked.Quotes day from of) ∷ []) (waiting ++ u ∷ []) ts t new.2 (λ v none. apart v (none_front v waiting (u ∷ []) none)),
)

without_none : (t : ℕ) (ys : List ℕ) → IsNoneOf t ys → without t ys ≡ ys
without_none t [] none = refl
without_none t (y ∷ ys) none = ap (λ (b : Bool). cond (not b) (y ∷ without t ys) (without t ys)) none.0 ∙ ap (λ (l : List ℕ). y ∷ l) (without_none t ys none.1)

without_middle : (t : ℕ) (xs ys : List ℕ) → IsNoneOf t xs → IsNoneOf t ys → without t (xs ++ t ∷ ys) ≡ xs ++ ys
without_middle t [] ys front back = ap (λ (b : Bool). cond (not b) (t ∷ without t ys) (without t ys)) (eq-eqb t t refl) ∙ without_none t ys back
without_middle t (x ∷ xs) ys front back =
    ap (λ (b : Bool). cond (not b) (x ∷ without t (xs ++ t ∷ ys)) (without t (xs ++ t ∷ ys))) front.0 ∙ ap (λ (l : List ℕ). x ∷ l) (without_middle t xs ys front.1 back)

pub in_middle : (t : ℕ) (xs ys : List ℕ) → IsIn (xs ++ t ∷ ys) t
in_middle t [] ys = inl refl
in_middle t (x ∷ xs) ys = inr (in_middle t xs ys)

under : (t : ℕ) (c : Asked) (base more : List (ℕ × Asked)) → IsAfterAll t base → command_under t (base ++ (t, c) ∷ more) ≡ Some c
under t c [] more above = ap (λ (b : Bool). if b then Some c else command_under t more) (eq-eqb t t refl)
under t c (b ∷ base) more above = ap (λ (its : Bool). if its then Some b.1 else command_under t (base ++ (t, c) ∷ more)) (other b.0 t above.0) ∙ under t c base more above.1

-- ---- what is left to get, after what waited

pub record IsLeft (day of : ℕ) (taken : List (ℕ × Asked)) (waited : List ℕ) (from : ℕ) (ts : List ℕ) : Type 0 where
  pub base : List (ℕ × Asked)
  pub waiting : List ℕ
  pub new : AreNew day of from base waiting ts
  pub whole : taken ≡ base ++ quotes_put day of from ts
  pub apart : (u : ℕ) → IsNoneOf u waiting → IsNoneOf u waited

module _ (day of : ℕ) (taken : List (ℕ × Asked)) (waited : List ℕ) (from t : ℕ) (ts : List ℕ) (l : IsLeft day of taken waited from (t ∷ ts)) where
  left_next : IsLeft day of taken waited (suc from) ts
  left_next = record {
    base = l.base ++ (t, asked.Quotes day from of) ∷ [];
    waiting = l.waiting ++ t ∷ [];
    new = l.new.2;
    whole = l.whole ∙ sym (append_assoc l.base ((t, asked.Quotes day from of) ∷ []) (quotes_put day of (suc from) ts));
    apart = λ u none. l.apart u (none_front u l.waiting (t ∷ []) none);
  }

  left_under : command_under t taken ≡ Some (asked.Quotes day from of)
  left_under = ap (command_under t) l.whole ∙ under t (asked.Quotes day from of) l.base (quotes_put day of (suc from) ts) l.new.0

  left_after : IsNoneOf t waited
  left_after = l.apart t l.new.1

  left_later : IsNoneOf t ts
  left_later = none_later day of (suc from) (l.base ++ (t, asked.Quotes day from of) ∷ []) (l.waiting ++ t ∷ []) ts t l.new.2 (λ u none. none_middle u t l.waiting [] none)

-- ---- what is known of answers

pub record Knows (a : Answered) (ts : List Taken) : Type 0 where
  pub all_brought : a.fault ≡ None → AreBrought ts
  pub made : a.fault ≡ None → a.lacked_memory ≡ false → a.all ≡ brought ts
  pub first : (fault : DeskFault) → a.fault ≡ Some fault → IsFirst fault ts

pub knows_none : (a : Answered) → a.all ≡ no_batch → a.fault ≡ None → Knows a []
knows_none a all none = record { all_brought = λ _. tt; made = λ _ _. all; first = λ fault e. absurd (cc) }

first_more : (fault : DeskFault) (ts us : List Taken) → IsFirst fault ts → IsFirst fault (ts ++ us)
first_more fault ts us f = record {
  front = f.front;
  first = f.first;
  later = f.later ++ us;
  parts = ap (λ (l : List Taken). l ++ us) f.parts ∙ append_assoc f.front (f.first ∷ f.later) us;
  brought = f.brought;
  without = f.without;
  told = f.told;
}

module _ (a b : Answered) (ts : List Taken) (t : Taken) (k : Knows a ts) where
  some_is : (x y : DeskFault) → ◌≡◌ {A = Option DeskFault} (Some x) (Some y) → x ≡ y
  some_is x y e = cc

  first_now : (fault told : DeskFault) (o : Option DeskFault) → a.fault ≡ o → brings_quotes t.answer ≡ false → fault ≡ fault_of_answer t.answer → told ≡ first_fault o fault → IsFirst told (ts ++ t ∷ [])
  first_now fault told None is without its e = record { front = ts; first = t; later = []; parts = refl; brought = k.all_brought is; without = without; told = e ∙ its }
  first_now fault told (Some was) is without its e = subst (λ (x : DeskFault). IsFirst x (ts ++ t ∷ [])) (sym e) (first_more was ts (t ∷ []) (k.first was is))

  knows_fault : (fault : DeskFault) → b.fault ≡ Some (first_fault a.fault fault) → brings_quotes t.answer ≡ false → fault ≡ fault_of_answer t.answer → Knows b (ts ++ t ∷ [])
  knows_fault fault now without its = record {
    all_brought = λ none. absurd (cc);
    made = λ none ample. absurd (cc);
    first = λ told e. first_now fault told a.fault refl without its (some_is told (first_fault a.fault fault) (sym e ∙ now));
  }

  knows_quotes : (batch : BatchParts) → b.fault ≡ a.fault → (b.lacked_memory ≡ false → (a.lacked_memory ≡ false) × (b.all ≡ both a.all batch)) → brings_quotes t.answer ≡ true → batch_of_answer t.answer ≡ batch → Knows b (ts ++ t ∷ [])
  knows_quotes batch same kept brings its = record {
    all_brought = λ none. all_both (λ (u : Taken). brings_quotes u.answer ≡ true) ts (t ∷ []) (k.all_brought (sym same ∙ none)) (brings, tt);
    made = λ none ample.
        let more = kept ample in
        more.1 ∙ (ap (λ (m : BatchParts). both m batch) (k.made (sym same ∙ none) more.0) ∙ (ap (both (brought ts)) (alone batch ∙ ap (λ (m : BatchParts). both m no_batch) (sym its)) ∙ sym (brought_both ts (t ∷ []))));
    first = λ told e. first_more told ts (t ∷ []) (k.first told (sym same ∙ e));
  }

  knows_reply : (answer : Answer) (reply : Reply) → t.answer ≡ Some answer → answer.reply ≡ reply → Keeps a (Ok reply) b → Knows b (ts ++ t ∷ [])
  knows_reply answer (replies.Quotes batch) is e keeps = knows_quotes batch keeps.0 keeps.1 (ap brings_quotes is ∙ ap gives_quotes e) (ap batch_of_answer is ∙ ap batch_in e)
  knows_reply answer (replies.Priced priced) is e keeps = knows_fault desk.Memory keeps (ap brings_quotes is ∙ ap gives_quotes e) (sym (ap fault_of_answer is))
  knows_reply answer (replies.No why) is e keeps = knows_fault desk.Memory keeps (ap brings_quotes is ∙ ap gives_quotes e) (sym (ap fault_of_answer is))
  knows_reply answer (replies.Due quote) is e keeps = knows_fault desk.Memory keeps (ap brings_quotes is ∙ ap gives_quotes e) (sym (ap fault_of_answer is))
  knows_reply answer (replies.Shown shown) is e keeps = knows_fault desk.Memory keeps (ap brings_quotes is ∙ ap gives_quotes e) (sym (ap fault_of_answer is))
  knows_reply answer replies.Memory is e keeps = knows_fault desk.Memory keeps (ap brings_quotes is ∙ ap gives_quotes e) (sym (ap fault_of_answer is))

-- ---- the first replies were got

dropped : (k : ℕ) (xs : List ℕ) (d : ℕ) → k < length xs → drop k xs ≡ slice_index_or xs k d ∷ drop (suc k) xs
dropped k [] d less = absurd (omega (arith, less))
dropped zero (x ∷ xs) d less = refl
dropped (suc k) (x ∷ xs) d less = dropped k xs d (omega (arith, less))

pub next_is : (k : ℕ) (xs ys : List ℕ) (t d : ℕ) → ys ≡ xs → t ≡ slice_index_or ys k d → k < length xs → drop k xs ≡ t ∷ drop (suc k) xs
next_is k xs ys t d same is less = dropped k xs d less ∙ ap (λ (x : ℕ). x ∷ drop (suc k) xs) (sym (is ∙ ap (λ (l : List ℕ). slice_index_or l k d) same))

pub few_put : {A : Type 0} (n of : ℕ) (r : Result A DeskFault) (P : DeskFault → Type 0) → OnOk r (n ≡ of) → IfErr r (λ fault. (n < of) × P fault) → n ≤ of
few_put n of (Ok x) P all why = omega (arith, all)
few_put n of (Err fault) P all why = let fewer = why.0 in omega (arith, fewer)

none_left : (xs : List ℕ) → drop (length xs) xs ≡ []
none_left [] = refl
none_left (x ∷ xs) = none_left xs

module _ {O : Type 0} (Late : Type 0) (day of : ℕ) (tickets : List ℕ) (before : List (ℕ × Asked)) (stood : Standing O) where
  pub record AreGot (count : ℕ) (taken : List (ℕ × Asked)) (transcript : ℕ → Option Answer) (stands : Standing O) (answered : Answered) : Type 0 where
    pub done : List Taken
    pub many : length done ≡ count
    pub quotes : AreQuotes day of 0 done
    pub put : commands_of done ++ quotes_put day of count (drop count tickets) ≡ quotes_put day of 0 tickets
    pub in_time : AllByRecursion (λ (t : Taken). IfNone t.answer Late) done
    pub said : AreAnswered transcript done
    pub knows : Knows answered done
    pub waits : stands ≡ with_waiting (stood.waiting ++ drop count tickets) stood
    pub left : IsLeft day of taken stood.waiting count (drop count tickets)
    pub whole : taken ≡ before ++ quotes_put day of 0 tickets

  pub got_none : (taken : List (ℕ × Asked)) (transcript : ℕ → Option Answer) (stands : Standing O) (answered : Answered) → ArePut day of tickets before taken stood stands → answered.all ≡ no_batch → answered.fault ≡ None → AreGot 0 taken transcript stands answered
  got_none taken transcript stands answered p all none = record {
    done = [];
    many = refl;
    quotes = tt;
    put = refl;
    in_time = tt;
    said = tt;
    knows = knows_none answered all none;
    waits = p.waits;
    left = record { base = before; waiting = stood.waiting; new = p.new; whole = p.taken; apart = λ u none. none };
    whole = p.taken;
  }

  -- the next one waits for its reply
  pub waits_for : (count : ℕ) (taken : List (ℕ × Asked)) (transcript : ℕ → Option Answer) (stands : Standing O) (a : Answered) (t : ℕ) (rest : List ℕ) → AreGot count taken transcript stands a → drop count tickets ≡ t ∷ rest → IsIn stands.waiting t
  waits_for count taken transcript stands a t rest g is =
      subst (λ (w : List ℕ). IsIn w t) (sym (ap (λ (x : Standing O). x.waiting) g.waits ∙ ap (λ (l : List ℕ). stood.waiting ++ l) is)) (in_middle t stood.waiting rest)

  module _ (count : ℕ) (taken now : List (ℕ × Asked)) (old new : ℕ → Option Answer) (stands after : Standing O) (a b : Answered) (t : ℕ) (rest : List ℕ)
      (g : AreGot count taken old stands a) (is : drop count tickets ≡ t ∷ rest) (next : rest ≡ drop (suc count) tickets) (below : count < of)
      (same : now ≡ taken) (kept : NothingIsLost old new) (got : after ≡ with_waiting (without t stands.waiting) stands) where
    abbrev its : Option Answer → Taken
    its o = record { ticket = t; asked = asked.Quotes day count of; answer = o }

    here : IsLeft day of taken stood.waiting count (t ∷ rest)
    here = subst (IsLeft day of taken stood.waiting count) is g.left

    now_waits : after ≡ with_waiting (stood.waiting ++ rest) stood
    now_waits =
        got ∙ (ap (λ (x : Standing O). with_waiting (without t x.waiting) x) (g.waits ∙ ap (λ (l : List ℕ). with_waiting (stood.waiting ++ l) stood) is)
        ∙ ap (λ (w : List ℕ). with_waiting w stood) (without_middle t stood.waiting rest (left_after day of taken stood.waiting count t rest here) (left_later day of taken stood.waiting count t rest here)))

    one_more : (o : Option Answer) → IfNone o Late → IfSome o (IsAnswerTo new (its o)) → Knows b (g.done ++ its o ∷ []) → AreGot (suc count) now new after b
    one_more o late said knows = subst (λ (m : List (ℕ × Asked)). AreGot (suc count) m new after b) (sym same) (record {
      done = g.done ++ its o ∷ [];
      many = (let long = length-append g.done (its o ∷ []) in let many = g.many in omega (arith, long, many));
      quotes = (let many = g.many in quotes_both day of 0 count g.done (its o ∷ []) (omega (arith, many)) g.quotes (below, refl, tt));
      put = ap (λ (c : List (ℕ × Asked)). c ++ quotes_put day of (suc count) (drop (suc count) tickets)) (commands_both g.done (its o ∷ []))
          ∙ (append_assoc (commands_of g.done) ((t, asked.Quotes day count of) ∷ []) (quotes_put day of (suc count) (drop (suc count) tickets))
          ∙ (ap (λ (l : List ℕ). commands_of g.done ++ (t, asked.Quotes day count of) ∷ quotes_put day of (suc count) l) (sym next)
          ∙ (ap (λ (l : List ℕ). commands_of g.done ++ quotes_put day of count l) (sym is) ∙ g.put)));
      in_time = all_both (λ (x : Taken). IfNone x.answer Late) g.done (its o ∷ []) g.in_time (late, tt);
      said = all_both (λ (x : Taken). IfSome x.answer (IsAnswerTo new x)) g.done (its o ∷ []) (answered_kept old new g.done kept g.said) (said, tt);
      knows = knows;
      waits = now_waits ∙ ap (λ (l : List ℕ). with_waiting (stood.waiting ++ l) stood) next;
      left = subst (IsLeft day of taken stood.waiting (suc count)) next (left_next day of taken stood.waiting count t rest here);
      whole = g.whole;
    })

    got_reply : (reply : Reply) → IsReplyTo t now new reply → Keeps a (Ok reply) b → AreGot (suc count) now new after b
    got_reply reply r keeps =
        one_more (Some r.answer) tt (r.stands, r.of_ticket, command r.answer.command (sym r.of_command ∙ (ap (command_under t) same ∙ left_under day of taken stood.waiting count t rest here)))
        (knows_reply a b g.done (its (Some r.answer)) g.knows r.answer reply refl r.told keeps)
      where
        command : (c : Asked) → ◌≡◌ {A = Option Asked} (Some c) (Some (asked.Quotes day count of)) → c ≡ asked.Quotes day count of
        command c e = cc

    got_late : (fault : DeskFault) → fault ≡ desk.Late → Late → Keeps a (Err fault) b → AreGot (suc count) now new after b
    got_late fault late may keeps = one_more None may tt (knows_fault a b g.done (its None) g.knows fault keeps refl late)

    pub got_any : (more : ℕ) (r : Result Reply DeskFault) (LateNow : Type 0) → more ≡ count + 1 → IfOk r (IsReplyTo t now new) → IfErr r (λ fault. (fault ≡ desk.Late) × LateNow) → (LateNow → Late) → Keeps a r b → AreGot more now new after b
    got_any more r LateNow is_more ok err may keeps = subst (λ (n : ℕ). AreGot n now new after b) (omega (arith, is_more)) (by r ok err keeps)
      where
        by : (r : Result Reply DeskFault) → IfOk r (IsReplyTo t now new) → IfErr r (λ fault. (fault ≡ desk.Late) × LateNow) → Keeps a r b → AreGot (suc count) now new after b
        by (Ok reply) ok err keeps = got_reply reply ok keeps
        by (Err fault) ok err keeps = got_late fault err.0 (may err.1) keeps

  -- all were got
  module _ (Refuses : DeskFault → Type 0) (taken : List (ℕ × Asked)) (transcript : ℕ → Option Answer) (stands : Standing O) (a : Answered) (count : ℕ) (is : count ≡ length tickets) (g : AreGot count taken transcript stands a) where
    nothing_left : drop count tickets ≡ []
    nothing_left = ap (λ (n : ℕ). drop n tickets) is ∙ none_left tickets

    all_put : commands_of g.done ≡ quotes_put day of 0 tickets
    all_put = sym (append-nil (commands_of g.done)) ∙ (ap (λ (l : List ℕ). commands_of g.done ++ quotes_put day of count l) (sym nothing_left) ∙ g.put)

    abbrev Told : Result BatchParts NotClosed → Type 0
    Told result = IsTold Refuses Late of brought g.done result

    told_whole : 1 ≤ of → length tickets ≡ of → (o : Option DeskFault) (lacked : Bool) → a.fault ≡ o → a.lacked_memory ≡ lacked → Told (told_by o lacked a.all)
    told_whole some all (Some fault) lacked e f = inr (record { all_put = (let many = g.many in omega (arith, many, is, all)); first = g.knows.first fault e })
    told_whole some all None true e f = (refl, ((let many = g.many in omega (arith, many, is, all)), g.knows.all_brought e), (let many = g.many in omega (arith, many, is, all, some)))
    told_whole some all None false e f = (((let many = g.many in omega (arith, many, is, all)), g.knows.all_brought e), g.knows.made e f)

    told_so : {A : Type 0} (r : Result A DeskFault) → OnOk r (length tickets ≡ of) → IfErr r (λ fault. (length tickets < of) × Refuses fault) → 1 ≤ of → Told (told_of a (result_err r))
    told_so (Ok x) all why some = told_whole some all a.fault a.lacked_memory refl refl
    told_so (Err fault) all why some = inl (record { more = (let many = g.many in let fewer = why.0 in omega (arith, many, is, fewer)); refuses = why.1 })

    pub told_all : {A : Type 0} (r : Result A DeskFault) (refused : Option DeskFault) (result : Result BatchParts NotClosed) → 1 ≤ of → OnOk r (length tickets ≡ of) → IfErr r (λ fault. (length tickets < of) × Refuses fault)
        → refused ≡ result_err r → result ≡ told_of a refused → IsAsked Refuses Late (AreQuotes day of 0) before taken transcript (λ put. IsTold Refuses Late of brought put result)
    told_all r refused result some all why is_refused is_told = record {
      put = g.done;
      quotes = g.quotes;
      in_time = g.in_time;
      added = g.whole ∙ ap (λ (l : List (ℕ × Asked)). before ++ l) (sym all_put);
      answered = g.said;
      told = subst Told (sym (is_told ∙ ap (told_of a) is_refused)) (told_so r all why some);
    }
