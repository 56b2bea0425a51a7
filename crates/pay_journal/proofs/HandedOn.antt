-- Lines that are handed to a desk before the reply to the first of them is got.
use Rattle.std.proofs.Common.{◌≡◌, ℕ, zero, suc, ◌+◌, ◌≤◌, ◌<◌, ◌==◌, Bool, true, false, not, cond, if◌then◌else◌, List, [], ◌∷◌, ◌++◌, length, Option, Some, None, refl, sym, ap, ◌∙◌, subst, inl, inr, arith, append_assoc, append-nil, length-append, eqb-true, eq-eqb}
use Rattle.std.specs.Prelude.{slice_index_or, ⊤}
use Rattle.arrayvec.specs.ArrayVec.{ArrayVec, array_vec_len}
use Rattle.std.specs.List.{AllByRecursion}
use Rattle.std.proofs.lemmas.List.{map-append}
use Rattle.jiff.specs.declared.tz.timezone.TimeZone.{TimeZone}
use Rattle.pay_rules.specs.InTurn.{IsIn}
use Rattle.pay_shard.specs.declared.asked.Asked.{Asked}
use Rattle.pay_shard.specs.declared.desk.DeskFault.{DeskFault}
use Rattle.pay_shard.specs.Words.{NothingIsLost, Standing, DeskParts, with_waiting, IsAfterAll, IsNoneOf, without, command_under}
use Rattle.pay_till.specs.Words.{Taken, commands_of, AreAnswered, MaySometimeRefuse, MaySometimeBeLate}
use Rattle.pay_wire.specs.declared.refusal.Refusal.{Refusal}
use Rattle.pay_wire.specs.declared.refusal.Refusal.TheVariants as refusal
use Rattle.pay_wire.specs.declared.reply.SpelledReply.TheVariants as replies
use Rattle.pay_session.specs.Asks.{asks_of}
use Rattle.pay_session.specs.Events.{Event, all_put, said}
use Rattle.pay_session.specs.Requests.{has_newline, line_requests, request_of, rest_of, IsReadByLine}
use Rattle.pay_session.specs.Served.{IsServedAs, AreServed, IsTaken}
use Rattle.pay_session.specs.declared.asks.Asks.{Asks}
use Rattle.pay_session.specs.declared.asks.Asks.TheVariants as asks
use Rattle.pay_session.specs.declared.request.Request.{Request}
use Rattle.pay_journal.specs.HandedOn.{tickets_of, AreNew, ComeTo, AreFirst, IsPut, IsNotPut, ArePutFirst, IsGot, first_missed}
use Rattle.pay_journal.specs.Replays.{is_barred, IsPriced, why_ended, ClosesNothing, AreHanded, NoneIsBarred, IsEndedAt, IsUnderway}
use Rattle.pay_journal.specs.declared.ahead.Missed.{Missed}
use Rattle.pay_journal.specs.declared.limits.TheConstants.{MOST_AHEAD}
use Rattle.pay_journal.proofs.Replays.{commands_both, answered_both, answered_still, all_put_one, all_one, priced}

-- ---- commands that are put

tickets_both : (xs ys : List (ℕ × Asked)) → tickets_of (xs ++ ys) ≡ tickets_of xs ++ tickets_of ys
tickets_both xs ys = map-append (λ (p : ℕ × Asked). p.0) xs ys

tickets_many : (put : List (ℕ × Asked)) → length (tickets_of put) ≡ length put
tickets_many [] = refl
tickets_many (p ∷ put) = ap suc (tickets_many put)

new_more : (taken : List (ℕ × Asked)) (waiting : List ℕ) (put : List (ℕ × Asked)) (p : ℕ × Asked) → AreNew taken waiting put → IsAfterAll p.0 (taken ++ put) → IsNoneOf p.0 (waiting ++ tickets_of put) → AreNew taken waiting (put ++ p ∷ [])
new_more taken waiting [] p new above none = (subst (IsAfterAll p.0) (append-nil taken) above, subst (IsNoneOf p.0) (append-nil waiting) none, tt)
new_more taken waiting (q ∷ put) p new above none = (
  new.0,
  new.1,
  new_more (taken ++ q ∷ []) (waiting ++ q.0 ∷ []) put p new.2 (subst (IsAfterAll p.0) (sym (append_assoc taken (q ∷ []) put)) above) (subst (IsNoneOf p.0) (sym (append_assoc waiting (q.0 ∷ []) (tickets_of put))) none),
)

-- those that are left are new after the others
new_rest : (taken : List (ℕ × Asked)) (waiting : List ℕ) (got rest : List (ℕ × Asked)) → AreNew taken waiting (got ++ rest) → AreNew (taken ++ got) (waiting ++ tickets_of got) rest
new_rest taken waiting [] rest new = subst (λ (t : List (ℕ × Asked)). AreNew t (waiting ++ []) rest) (sym (append-nil taken)) (subst (λ (w : List ℕ). AreNew taken w rest) (sym (append-nil waiting)) new)
new_rest taken waiting (q ∷ got) rest new =
    subst (λ (t : List (ℕ × Asked)). AreNew t (waiting ++ tickets_of (q ∷ got)) rest) (append_assoc taken (q ∷ []) got)
    (subst (λ (w : List ℕ). AreNew ((taken ++ q ∷ []) ++ got) w rest) (append_assoc waiting (q.0 ∷ []) (tickets_of got)) (new_rest (taken ++ q ∷ []) (waiting ++ q.0 ∷ []) got rest new.2))

come_more : (zone : TimeZone) (rs : List Request) (put : List (ℕ × Asked)) (r : Request) (p : ℕ × Asked) → ComeTo zone rs put → asks_of zone r ≡ asks.Put p.1 → is_barred (asks_of zone r) ≡ false → ComeTo zone (rs ++ r ∷ []) (put ++ p ∷ [])
come_more zone [] [] r p come is free = (is, free, tt)
come_more zone [] (q ∷ put) r p come is free = absurd come
come_more zone (x ∷ rs) [] r p come is free = absurd come
come_more zone (x ∷ rs) (q ∷ put) r p come is free = (come.0, come.1, come_more zone rs put r p come.2 is free)

come_many : (zone : TimeZone) (rs : List Request) (put : List (ℕ × Asked)) → ComeTo zone rs put → length rs ≡ length put
come_many zone [] [] come = refl
come_many zone [] (q ∷ put) come = absurd come
come_many zone (x ∷ rs) [] come = absurd come
come_many zone (x ∷ rs) (q ∷ put) come = ap suc (come_many zone rs put come.2)

come_free : (zone : TimeZone) (rs : List Request) (put : List (ℕ × Asked)) → ComeTo zone rs put → AllByRecursion (λ (r : Request). is_barred (asks_of zone r) ≡ false) rs
come_free zone [] [] come = tt
come_free zone [] (q ∷ put) come = absurd come
come_free zone (x ∷ rs) [] come = absurd come
come_free zone (x ∷ rs) (q ∷ put) come = (come.1, come_free zone rs put come.2)

module _ {D O : Type 0} (parts : D → DeskParts O) (zone : TimeZone) where
  pub put_none : (desk : D) (text : List ℕ) (tickets : List ℕ) → tickets ≡ [] → ArePutFirst parts zone desk desk text text tickets
  put_none desk text tickets none = (
    [],
    none,
    record {
      added = sym (append-nil (parts desk).taken);
      waits = ap (λ (w : List ℕ). with_waiting w (parts desk).standing) (sym (append-nil (parts desk).standing.waiting));
      new = tt;
      kept = λ ticket answer h. h;
    },
    record { requests = []; come = tt; whole = refl; rest = refl; fits = omega arith; few = omega arith },
  )

  -- the desk took no more
  pub put_no_more : (before now after : D) (text left tickets : List ℕ) → ArePutFirst parts zone before now text left tickets → IsNotPut parts now after → NothingIsLost (parts now).transcript (parts after).transcript
      → ArePutFirst parts zone before after text left tickets
  put_no_more before now after text left tickets f not kept = (
    f.0,
    f.1,
    record { added = not.0 ∙ f.2.added; waits = not.1 ∙ f.2.waits; new = f.2.new; kept = λ ticket answer h. kept ticket answer (f.2.kept ticket answer h) },
    f.3,
  )

  -- and one more
  pub put_more : IsReadByLine → (before now after : D) (text left line beyond tickets more : List ℕ) (ticket : ℕ) → ArePutFirst parts zone before now text left tickets → left ≡ line ++ 10 ∷ beyond → has_newline line ≡ false
      → IsPut parts now after (asks_of zone (request_of line)) ticket → NothingIsLost (parts now).transcript (parts after).transcript → more ≡ tickets ++ ticket ∷ [] → length tickets < MOST_AHEAD → ArePutFirst parts zone before after text beyond more
  put_more read before now after text left line beyond tickets more ticket f cut whole is kept added room =
      let p : ℕ × Asked = (ticket, is.command) in
      let put = f.0 in
      let many = tickets_many put in
      let longer = length-append put (p ∷ []) in
      let size = length-append line (10 ∷ beyond) in (
        put ++ p ∷ [],
        added ∙ ap (λ (l : List ℕ). l ++ ticket ∷ []) f.1 ∙ sym (tickets_both put (p ∷ [])),
        record {
          added = is.added ∙ ap (λ (l : List (ℕ × Asked)). l ++ p ∷ []) f.2.added ∙ append_assoc (parts before).taken put (p ∷ []);
          waits = is.waits ∙ ap (λ (x : Standing O). with_waiting (x.waiting ++ ticket ∷ []) x) f.2.waits
              ∙ ap (λ (w : List ℕ). with_waiting w (parts before).standing) (append_assoc (parts before).standing.waiting (tickets_of put) (ticket ∷ []) ∙ ap (λ (w : List ℕ). (parts before).standing.waiting ++ w) (sym (tickets_both put (p ∷ []))));
          new = new_more (parts before).taken (parts before).standing.waiting put p f.2.new (subst (IsAfterAll ticket) f.2.added is.later) (subst (IsNoneOf ticket) (ap (λ (x : Standing O). x.waiting) f.2.waits) is.fresh);
          kept = λ t answer h. kept t answer (f.2.kept t answer h);
        },
        record {
          requests = f.3.requests ++ request_of line ∷ [];
          come = come_more zone f.3.requests put (request_of line) p f.3.come is.asks is.free;
          whole = f.3.whole ∙ ap (λ l. f.3.requests ++ l) (ap line_requests cut ∙ read.line line beyond whole) ∙ sym (append_assoc f.3.requests (request_of line ∷ []) (line_requests beyond));
          rest = f.3.rest ∙ ap rest_of cut ∙ read.rest line beyond;
          fits = (let fits = f.3.fits in omega (arith, fits, longer, ap length cut, size));
          few = (let same = ap length f.1 in omega (arith, longer, many, same, room));
        },
      )

-- where a list of tickets is not full there is room for one more
pub is_room : (tickets : ArrayVec ℕ) (full : Bool) → array_vec_len tickets ≤ MOST_AHEAD → full ≡ (array_vec_len tickets == MOST_AHEAD) → full ≡ false → length tickets.items < MOST_AHEAD
is_room tickets full fits is free =
    let apart : (length tickets.items == MOST_AHEAD) ≡ false = sym is ∙ free in
    by (length tickets.items == MOST_AHEAD) refl apart
  where
    by : (b : Bool) → (length tickets.items == MOST_AHEAD) ≡ b → b ≡ false → length tickets.items < MOST_AHEAD
    by true e off = absurd (cc)
    by false e off = grind (arith, e, fits)

-- ---- tickets, each another

other : (a t : ℕ) → a < t → (a == t) ≡ false
other a t less = by (a == t) refl
  where
    by : (b : Bool) → (a == t) ≡ b → b ≡ false
    by true same = let is = eqb-true a t same in absurd (omega (arith, is, less))
    by false off = refl

turned : (x y : ℕ) → (x == y) ≡ false → (y == x) ≡ false
turned x y off = by (y == x) refl
  where
    by : (b : Bool) → (y == x) ≡ b → b ≡ false
    by true same = let is = eq-eqb x y (sym (eqb-true y x same)) in absurd (cc)
    by false e = refl

none_front : (t : ℕ) (xs ys : List ℕ) → IsNoneOf t (xs ++ ys) → IsNoneOf t xs
none_front t [] ys none = tt
none_front t (x ∷ xs) ys none = (none.0, none_front t xs ys none.1)

none_middle : (t u : ℕ) (xs ys : List ℕ) → IsNoneOf t (xs ++ u ∷ ys) → (u == t) ≡ false
none_middle t u [] ys none = none.0
none_middle t u (x ∷ xs) ys none = none_middle t u xs ys none.1

none_later : (taken : List (ℕ × Asked)) (waiting : List ℕ) (put : List (ℕ × Asked)) (t : ℕ) → AreNew taken waiting put → ((u : ℕ) → IsNoneOf u waiting → (t == u) ≡ false) → IsNoneOf t (tickets_of put)
none_later taken waiting [] t new apart = tt
none_later taken waiting (p ∷ put) t new apart = (turned t p.0 (apart p.0 new.1), none_later (taken ++ p ∷ []) (waiting ++ p.0 ∷ []) put t new.2 (λ v none. apart v (none_front v waiting (p.0 ∷ []) none)))

without_none : (t : ℕ) (ys : List ℕ) → IsNoneOf t ys → without t ys ≡ ys
without_none t [] none = refl
without_none t (y ∷ ys) none = ap (λ (b : Bool). cond (not b) (y ∷ without t ys) (without t ys)) none.0 ∙ ap (λ (l : List ℕ). y ∷ l) (without_none t ys none.1)

without_middle : (t : ℕ) (xs ys : List ℕ) → IsNoneOf t xs → IsNoneOf t ys → without t (xs ++ t ∷ ys) ≡ xs ++ ys
without_middle t [] ys front back = ap (λ (b : Bool). cond (not b) (t ∷ without t ys) (without t ys)) (eq-eqb t t refl) ∙ without_none t ys back
without_middle t (x ∷ xs) ys front back =
    ap (λ (b : Bool). cond (not b) (x ∷ without t (xs ++ t ∷ ys)) (without t (xs ++ t ∷ ys))) front.0 ∙ ap (λ (l : List ℕ). x ∷ l) (without_middle t xs ys front.1 back)

in_middle : (t : ℕ) (xs ys : List ℕ) → IsIn (xs ++ t ∷ ys) t
in_middle t [] ys = inl refl
in_middle t (x ∷ xs) ys = inr (in_middle t xs ys)

under : (t : ℕ) (c : Asked) (base more : List (ℕ × Asked)) → IsAfterAll t base → command_under t (base ++ (t, c) ∷ more) ≡ Some c
under t c [] more above = ap (λ (b : Bool). if b then Some c else command_under t more) (eq-eqb t t refl)
under t c (b ∷ base) more above = ap (λ (its : Bool). if its then Some b.1 else command_under t (base ++ (t, c) ∷ more)) (other b.0 t above.0) ∙ under t c base more above.1

-- ---- replies that were got

module _ (Refuses : DeskFault → Type 0) (Late : Type 0) where
  -- each of these events is the reply to the command beside it
  abbrev pub AreReplied : List Event → List (ℕ × Asked) → Type 0
  AreReplied [] [] = ⊤
  AreReplied (e ∷ es) (p ∷ put) = IsTaken Refuses Late p.1 e × (commands_of e.put ≡ p ∷ []) × AreReplied es put
  AreReplied _ _ = ⊥

  replied_more : (es : List Event) (put : List (ℕ × Asked)) (e : Event) (p : ℕ × Asked) → AreReplied es put → IsTaken Refuses Late p.1 e → commands_of e.put ≡ p ∷ [] → AreReplied (es ++ e ∷ []) (put ++ p ∷ [])
  replied_more [] [] e p f taken is = (taken, is, tt)
  replied_more [] (q ∷ put) e p f taken is = absurd f
  replied_more (x ∷ es) [] e p f taken is = absurd f
  replied_more (x ∷ es) (q ∷ put) e p f taken is = (f.0, f.1, replied_more es put e p f.2 taken is)

  replied_many : (es : List Event) (put : List (ℕ × Asked)) → AreReplied es put → length es ≡ length put
  replied_many [] [] f = refl
  replied_many [] (q ∷ put) f = absurd f
  replied_many (x ∷ es) [] f = absurd f
  replied_many (x ∷ es) (q ∷ put) f = ap suc (replied_many es put f.2)

  replied_put : (es : List Event) (put : List (ℕ × Asked)) → AreReplied es put → commands_of (all_put es) ≡ put
  replied_put [] [] f = refl
  replied_put [] (q ∷ put) f = absurd f
  replied_put (x ∷ es) [] f = absurd f
  replied_put (x ∷ es) (q ∷ put) f = commands_both x.put (all_put es) ∙ ap (λ (l : List (ℕ × Asked)). l ++ commands_of (all_put es)) f.1 ∙ ap (λ (l : List (ℕ × Asked)). q ∷ l) (replied_put es put f.2)

  served_all : (of : ℕ) (zone : TimeZone) (rs : List Request) (es : List Event) (put : List (ℕ × Asked)) → ComeTo zone rs put → AreReplied es put → AreServed of Refuses Late ClosesNothing zone tt rs es tt
  served_all of zone [] [] [] come f = refl
  served_all of zone [] (x ∷ es) [] come f = absurd f
  served_all of zone [] [] (q ∷ put) come f = absurd come
  served_all of zone [] (x ∷ es) (q ∷ put) come f = absurd come
  served_all of zone (r ∷ rs) [] [] come f = absurd come
  served_all of zone (r ∷ rs) (x ∷ es) [] come f = absurd come
  served_all of zone (r ∷ rs) [] (q ∷ put) come f = absurd f
  served_all of zone (r ∷ rs) (x ∷ es) (q ∷ put) come f =
      let Served : Asks → Type 0 = λ a. IsServedAs of Refuses Late ClosesNothing a x tt tt in
      let now : Served (asks.Put q.1) = (inl f.0, refl) in
      (tt, subst Served (sym come.0) now, served_all of zone rs es put come.2 f.2)

-- ---- the first that was missed

pub record IsMissed (m : Missed) (done : List Event) : Type 0 where
  pub front : List Event
  pub last : Event
  pub later : List Event
  pub parts : done ≡ front ++ last ∷ later
  pub priced : AllByRecursion (λ (e : Event). IsPriced e.reply) front
  pub place : m.place ≡ length front
  pub ends : why_ended last.reply ≡ Some m.why

abbrev pub Knows : Option Missed → List Event → Type 0
Knows None done = AllByRecursion (λ (e : Event). IsPriced e.reply) done
Knows (Some m) done = IsMissed m done

knows_more : (missed : Option Missed) (done : List Event) (e : Event) (count : ℕ) (why : Option Refusal) → length done ≡ count → Knows missed done → why_ended e.reply ≡ why → Knows (first_missed missed count why) (done ++ e ∷ [])
knows_more (Some m) done e count why many k is = record {
  front = k.front;
  last = k.last;
  later = k.later ++ e ∷ [];
  parts = ap (λ (l : List Event). l ++ e ∷ []) k.parts ∙ append_assoc k.front (k.last ∷ k.later) (e ∷ []);
  priced = k.priced;
  place = k.place;
  ends = k.ends;
}
knows_more None done e count None many k is = all_one (λ (x : Event). IsPriced x.reply) done e k (priced e.reply is)
knows_more None done e count (Some why) many k is = record { front = done; last = e; later = []; parts = refl; priced = k; place = sym many; ends = is }

-- ---- replies that are got one after another

module _ {D O : Type 0} (parts : D → DeskParts O) (zone : TimeZone) (before : D) where
  abbrev pub Refusing : DeskFault → Type 0
  Refusing = MaySometimeRefuse parts (parts before).standing

  abbrev pub Lateness : Type 0
  Lateness = MaySometimeBeLate parts (parts before).standing

  -- What was put is in part got, and what is left waits.
  pub record AreGotten (text left tickets : List ℕ) (count : ℕ) (now : D) (missed : Option Missed) : Type 0 where
    pub got : List (ℕ × Asked)
    pub rest : List (ℕ × Asked)
    pub named : tickets ≡ tickets_of (got ++ rest)
    pub first : AreFirst zone text left (got ++ rest)
    pub done : List Event
    pub many : length done ≡ count
    pub replied : AreReplied Refusing Lateness done got
    pub said : AreAnswered (parts now).transcript (all_put done)
    pub added : (parts now).taken ≡ (parts before).taken ++ (got ++ rest)
    pub waits : (parts now).standing ≡ with_waiting ((parts before).standing.waiting ++ tickets_of rest) (parts before).standing
    pub new : AreNew (parts before).taken (parts before).standing.waiting (got ++ rest)
    pub kept : NothingIsLost (parts before).transcript (parts now).transcript
    pub knows : Knows missed done

  pub gotten_none : (now : D) (text left tickets : List ℕ) → ArePutFirst parts zone before now text left tickets → AreGotten text left tickets 0 now None
  gotten_none now text left tickets f = record {
    got = [];
    rest = f.0;
    named = f.1;
    first = f.3;
    done = [];
    many = refl;
    replied = tt;
    said = tt;
    added = f.2.added;
    waits = f.2.waits;
    new = f.2.new;
    kept = f.2.kept;
    knows = tt;
  }

  -- the first of what is left
  record IsNext (tickets : List ℕ) (count ticket : ℕ) (got rest : List (ℕ × Asked)) : Type 0 where
    command : Asked
    others : List (ℕ × Asked)
    is : rest ≡ (ticket, command) ∷ others

  next_of : (got rest : List (ℕ × Asked)) (count ticket d : ℕ) → count ≡ length got → count < length (tickets_of (got ++ rest)) → ticket ≡ slice_index_or (tickets_of (got ++ rest)) count d → IsNext (tickets_of (got ++ rest)) count ticket got rest
  next_of [] [] count ticket d many less is = absurd (omega (arith, less))
  next_of [] (p ∷ rest) zero ticket d many less is = record { command = p.1; others = rest; is = ap (λ (t : ℕ). (t, p.1) ∷ rest) (sym is) }
  next_of [] (p ∷ rest) (suc count) ticket d many less is = absurd (omega (arith, many))
  next_of (q ∷ got) rest zero ticket d many less is = absurd (omega (arith, many))
  next_of (q ∷ got) rest (suc count) ticket d many less is =
      let n = next_of got rest count ticket d (omega (arith, many)) (omega (arith, less)) is in
      record { command = n.command; others = n.others; is = n.is }

  module _ (text left tickets named : List ℕ) (count ticket d : ℕ) (now : D) (missed : Option Missed) (g : AreGotten text left tickets count now missed) (same : named ≡ tickets) (less : count < length named) (is : ticket ≡ slice_index_or named count d) where
    same_tickets : named ≡ tickets_of (g.got ++ g.rest)
    same_tickets = same ∙ g.named

    n : IsNext (tickets_of (g.got ++ g.rest)) count ticket g.got g.rest
    n = (let many = g.many in let replied = replied_many Refusing Lateness g.done g.got g.replied in
        next_of g.got g.rest count ticket d (omega (arith, many, replied)) (subst (λ (l : List ℕ). count < length l) same_tickets less) (is ∙ ap (λ (l : List ℕ). slice_index_or l count d) same_tickets))

    abbrev p : ℕ × Asked
    p = (ticket, n.command)

    waits_now : (parts now).standing.waiting ≡ (parts before).standing.waiting ++ ticket ∷ tickets_of n.others
    waits_now = ap (λ (x : Standing O). x.waiting) g.waits ∙ ap (λ (l : List (ℕ × Asked)). (parts before).standing.waiting ++ tickets_of l) n.is

    pub waits_for : IsIn (parts now).standing.waiting ticket
    waits_for = subst (λ (l : List ℕ). IsIn l ticket) (sym waits_now) (in_middle ticket (parts before).standing.waiting (tickets_of n.others))

    left_new : AreNew ((parts before).taken ++ g.got) ((parts before).standing.waiting ++ tickets_of g.got) (p ∷ n.others)
    left_new = subst (AreNew ((parts before).taken ++ g.got) ((parts before).standing.waiting ++ tickets_of g.got)) n.is (new_rest (parts before).taken (parts before).standing.waiting g.got g.rest g.new)

    not_before : IsNoneOf ticket (parts before).standing.waiting
    not_before = none_front ticket (parts before).standing.waiting (tickets_of g.got) left_new.1

    not_later : IsNoneOf ticket (tickets_of n.others)
    not_later = none_later (((parts before).taken ++ g.got) ++ p ∷ []) (((parts before).standing.waiting ++ tickets_of g.got) ++ ticket ∷ []) n.others ticket left_new.2
        (λ u none. none_middle u ticket ((parts before).standing.waiting ++ tickets_of g.got) [] none)

    all_is : g.got ++ g.rest ≡ (g.got ++ p ∷ []) ++ n.others
    all_is = ap (λ (l : List (ℕ × Asked)). g.got ++ l) n.is ∙ sym (append_assoc g.got (p ∷ []) n.others)

    taken_is : (parts now).taken ≡ ((parts before).taken ++ g.got) ++ p ∷ n.others
    taken_is = g.added ∙ ap (λ (l : List (ℕ × Asked)). (parts before).taken ++ l) (ap (λ (l : List (ℕ × Asked)). g.got ++ l) n.is) ∙ sym (append_assoc (parts before).taken g.got (p ∷ n.others))

    command_is : command_under ticket (parts now).taken ≡ Some n.command
    command_is = ap (command_under ticket) taken_is ∙ under ticket n.command ((parts before).taken ++ g.got) n.others left_new.0

    -- what came of it
    record IsEvent (after : D) (why : Option Refusal) : Type 0 where
      event : Event
      taken : IsTaken Refusing Lateness n.command event
      put : commands_of event.put ≡ p ∷ []
      said : AreAnswered (parts after).transcript event.put
      ends : why_ended event.reply ≡ why

    some_is : (x y : Asked) → ◌≡◌ {A = Option Asked} (Some x) (Some y) → x ≡ y
    some_is x y e = cc

    late_now : (parts now).MayBeLate → Lateness
    unfolding MaySometimeBeLate
    late_now may = (now, ap (λ (x : Standing O). x.origin) g.waits, ap (λ (x : Standing O). x.shards) g.waits, may)

    event_of : (after : D) (why : Option Refusal) → (parts after).taken ≡ (parts now).taken → IsGot parts now after ticket why → IsEvent after why
    event_of after why none (inl (reply, r, is)) =
        let t : Taken = record { ticket = ticket; asked = n.command; answer = Some r.answer } in
        let its : r.answer.command ≡ n.command = some_is r.answer.command n.command (sym r.of_command ∙ ap (command_under ticket) none ∙ command_is) in
        record {
          event = record { reply = said reply; put = t ∷ [] };
          taken = record { taken = t; once = refl; same = refl; replied = ap said (sym r.told) };
          put = refl;
          said = ((r.stands, r.of_ticket, its), tt);
          ends = sym is;
        }
    event_of after why none (inr (may, is)) =
        let t : Taken = record { ticket = ticket; asked = n.command; answer = None } in
        record {
          event = record { reply = replies.No refusal.Late; put = t ∷ [] };
          taken = record { taken = t; once = refl; same = refl; replied = (refl, late_now may) };
          put = refl;
          said = (tt, tt);
          ends = sym is;
        }

    pub gotten_more : (after : D) (why : Option Refusal) (more : Option Missed) (count' : ℕ) → IsGot parts now after ticket why → (parts after).standing ≡ with_waiting (without ticket (parts now).standing.waiting) (parts now).standing → (parts after).taken ≡ (parts now).taken
        → NothingIsLost (parts now).transcript (parts after).transcript → more ≡ first_missed missed count why → count' ≡ count + 1 → AreGotten text left tickets count' after more
    gotten_more after why more count' f waits none kept is_more next =
        let e = event_of after why none f in
        record {
          got = g.got ++ p ∷ [];
          rest = n.others;
          named = g.named ∙ ap tickets_of all_is;
          first = subst (AreFirst zone text left) all_is g.first;
          done = g.done ++ e.event ∷ [];
          many = (let many = g.many in let longer = length-append g.done (e.event ∷ []) in omega (arith, many, longer, next));
          replied = replied_more Refusing Lateness g.done g.got e.event p g.replied e.taken e.put;
          said = subst (AreAnswered (parts after).transcript) (sym (all_put_one g.done e.event))
              (answered_both (parts after).transcript (all_put g.done) e.event.put (answered_still (parts now).transcript (parts after).transcript (all_put g.done) kept g.said) e.said);
          added = none ∙ g.added ∙ ap (λ (l : List (ℕ × Asked)). (parts before).taken ++ l) all_is;
          waits = waits ∙ ap (λ (x : Standing O). with_waiting (without ticket x.waiting) x) g.waits
              ∙ ap (λ (w : List ℕ). with_waiting w (parts before).standing)
              (ap (without ticket) (ap (λ (l : List (ℕ × Asked)). (parts before).standing.waiting ++ tickets_of l) n.is) ∙ without_middle ticket (parts before).standing.waiting (tickets_of n.others) not_before not_later);
          new = subst (AreNew (parts before).taken (parts before).standing.waiting) all_is g.new;
          kept = λ t answer h. kept t answer (g.kept t answer h);
          knows = subst (λ (m : Option Missed). Knows m (g.done ++ e.event ∷ [])) (sym is_more) (knows_more missed g.done e.event count why g.many g.knows e.ends);
        }

  -- ---- what fits

  module _ (text left tickets : List ℕ) (count : ℕ) (now : D) (missed : Option Missed) (g : AreGotten text left tickets count now missed) where
    pub put_fits : (lines : ℕ) → lines ≡ length tickets → lines + length left ≤ length text
    put_fits lines is =
        let fits = g.first.fits in
        let named = ap length g.named ∙ tickets_many (g.got ++ g.rest) in
        omega (arith, fits, is, named)

    pub missed_fits : (m : Missed) → missed ≡ Some m → m.place + length left ≤ length text
    missed_fits m is =
        let k = subst (λ (x : Option Missed). Knows x g.done) is g.knows in
        let fits = g.first.fits in
        let both = length-append g.got g.rest in
        let many = replied_many Refusing Lateness g.done g.got g.replied in
        let size = ap length k.parts ∙ length-append k.front (k.last ∷ k.later) in
        let place = k.place in
        omega (arith, fits, both, many, size, place)

  -- ---- all were got

  record IsSplit (rs : List Request) (front later : List Event) : Type 0 where
    done : List Request
    request : Request
    ahead : List Request
    parts_are : rs ≡ done ++ request ∷ ahead
    each : length front ≡ length done

  split : (rs : List Request) (front : List Event) (last : Event) (later : List Event) → length rs ≡ length (front ++ last ∷ later) → IsSplit rs front later
  split [] [] last later e = absurd (omega (arith, e))
  split (r ∷ rs) [] last later e = record { done = []; request = r; ahead = rs; parts_are = refl; each = refl }
  split [] (x ∷ front) last later e = absurd (omega (arith, e))
  split (r ∷ rs) (x ∷ front) last later e =
      let s = split rs front last later (omega (arith, e)) in
      record { done = r ∷ s.done; request = s.request; ahead = s.ahead; parts_are = ap (λ (l : List Request). r ∷ l) s.parts_are; each = ap suc s.each }

  all_front : {X : Type 0} (P : X → Type 0) (xs : List X) (x : X) (ys : List X) → AllByRecursion P (xs ++ x ∷ ys) → AllByRecursion P xs × P x
  all_front P [] x ys f = (tt, f.0)
  all_front P (y ∷ xs) x ys f = let rest = all_front P xs x ys f.1 in ((f.0, rest.0), rest.1)

  none_over : (l : List (ℕ × Asked)) (n : ℕ) → n + length l ≤ n → l ≡ []
  none_over [] n e = refl
  none_over (x ∷ l) n e = absurd (omega (arith, e))

  module _ (text left tickets : List ℕ) (now : D) (missed : Option Missed) (count : ℕ) (g : AreGotten text left tickets count now missed) (all : count ≡ length tickets) where
    count_is : count ≡ length g.got
    count_is = sym g.many ∙ replied_many Refusing Lateness g.done g.got g.replied

    none_left : g.rest ≡ []
    none_left =
        let both = length-append g.got g.rest in
        let named = ap length g.named ∙ tickets_many (g.got ++ g.rest) in
        none_over g.rest count (omega (arith, count_is, all, named, both))

    whole_is : g.got ++ g.rest ≡ g.got
    whole_is = ap (λ (l : List (ℕ × Asked)). g.got ++ l) none_left ∙ append-nil g.got

    its : AreFirst zone text left g.got
    its = subst (AreFirst zone text left) whole_is g.first

    pub stands_as_before : (parts now).standing ≡ (parts before).standing
    stands_as_before = g.waits ∙ ap (λ (l : List (ℕ × Asked)). with_waiting ((parts before).standing.waiting ++ tickets_of l) (parts before).standing) none_left
        ∙ ap (λ (w : List ℕ). with_waiting w (parts before).standing) (append-nil (parts before).standing.waiting)

    handed : AreHanded zone parts before now its.requests g.done
    handed = record {
      served = served_all Refusing Lateness (parts before).standing.shards zone its.requests g.done g.got its.come g.replied;
      taken = g.added ∙ ap (λ (l : List (ℕ × Asked)). (parts before).taken ++ l) (whole_is ∙ sym (replied_put Refusing Lateness g.done g.got g.replied));
      said = g.said;
    }

    free : NoneIsBarred zone parts before now its.requests
    free = come_free zone its.requests g.got its.come

    requests_are : length its.requests ≡ count
    requests_are = come_many zone its.requests g.got its.come ∙ sym count_is

    pub all_accepted : missed ≡ None → (lines : ℕ) → lines ≡ length tickets → IsUnderway zone parts before now text left lines
    all_accepted none lines is = record {
      done = its.requests;
      events = g.done;
      requests = its.whole;
      rest = its.rest;
      accepted = (handed, free, subst (λ (m : Option Missed). Knows m g.done) none g.knows);
      counted = omega (arith, is, all, requests_are);
      fits = (let fits = its.fits in omega (arith, fits, is, all, count_is));
      kept = g.kept;
      same = stands_as_before;
    }

    pub one_missed : (place : ℕ) (why : Refusal) → missed ≡ Some (record { place = place; why = why }) → IsEndedAt zone parts before now text (place + 1) why
    one_missed place why is =
        let k = subst (λ (m : Option Missed). Knows m g.done) is g.knows in
        let as_many : length its.requests ≡ length (k.front ++ k.last ∷ k.later) = requests_are ∙ sym g.many ∙ ap length k.parts in
        let s = split its.requests k.front k.last k.later as_many in
        let of_done = all_front (λ (r : Request). is_barred (asks_of zone r) ≡ false) s.done s.request s.ahead (subst (NoneIsBarred zone parts before now) s.parts_are free) in
        record {
          done = s.done;
          request = s.request;
          ahead = s.ahead;
          others = line_requests left;
          requests = its.whole ∙ ap (λ l. l ++ line_requests left) s.parts_are ∙ append_assoc s.done (s.request ∷ s.ahead) (line_requests left);
          counted = (let first = k.place in let each = s.each in omega (arith, first, each));
          few = (let few = its.few in let size = ap length s.parts_are ∙ length-append s.done (s.request ∷ s.ahead) in omega (arith, few, size, requests_are, count_is));
          events = k.front;
          each = s.each;
          unbarred = of_done.0;
          priced = k.priced;
          ended = inl (
            k.last,
            k.later,
            of_done.1,
            subst (λ (rs : List Request). AreHanded zone parts before now rs (k.front ++ k.last ∷ k.later)) s.parts_are (subst (AreHanded zone parts before now its.requests) k.parts handed),
            k.ends,
          );
        }
