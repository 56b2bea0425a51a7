-- A session from its start.
use Rattle.std.proofs.Common.{◌≡◌, ℕ, Bool, true, false, cond, nat_lt, List, [], ◌∷◌, ◌++◌, length, sym, ap, ◌∙◌, subst, refl, append_assoc, append-nil, Some, None, Option, IfSome, zero-add}
use Rattle.std.specs.List.{list_any}
use Rattle.pay_wire.specs.declared.limits.TheConstants.{MOST_LINE_BYTES}
use Rattle.pay_session.specs.Requests.{has_newline, is_quit, line_requests, quits, request_of_rest, requests_of, rest_of, through_quit, unread}
use Rattle.pay_session.specs.Events.{Event}
use Rattle.pay_session.specs.SessionSteps.{Position, facing, with_ahead, Runs, IsTold, Advances, BringsMore, BringsEnd, BringsQuit, LosesReader, LosesWriter, EndsRest, FaltersAtRest, Brings, Loses, RunsToEnd, RunsToRead, RunsToWrite, RunsSo}
use Rattle.pay_session.specs.Stops.{IsWriteFailure, fault_of}
use Rattle.pay_session.specs.declared.progress.Fill.{Fill}
use Rattle.pay_session.specs.declared.request.Request.{Request}
use Rattle.pay_session.specs.declared.request.Request.TheVariants as requests
use Rattle.pay_session.specs.declared.stop.Stop.{Stop}
use Rattle.pay_session.specs.declared.stop.Stop.TheVariants.{Read, NoMoreFills, Write}
use Rattle.pay_session.proofs.InputPieces.{line_requests_part, rest_of_part, unread_part}
use Rattle.pay_session.proofs.SessionSteps.{Advances_none, Advances_then, Advances_more, Quits_then, Breaks_then, Runs_then, Runs_one, told_then, through_quit_append}

-- the position before an input
abbrev pub beginning : {S : Type 0} → S → Option (List ℕ) → List ℕ → Position S
beginning first held input = record { state = first; ahead = input; written = held; answered = 0; lacked = false }

-- what is known to be left is left
same_back : (remaining : Option (List ℕ)) (xs ys : List ℕ) → remaining ≡ Some xs → remaining ≡ Some ys → xs ≡ ys
same_back remaining xs ys e f = cc

-- two facts of what is known, joined where it is known
join : (first remaining : Option (List ℕ)) (U B C : List ℕ → Type 0) → ((input : List ℕ) → U input → (back : List ℕ) × (remaining ≡ Some back))
    → ((input left : List ℕ) → remaining ≡ Some left → U input → B left → C input) → IfSome first U → IfSome remaining B → IfSome first C
join None remaining U B C known f u b = tt
join (Some input) None U B C known f u b = absurd (none_some (known input u).0 (known input u).1)
  where
    none_some : (xs : List ℕ) → ◌≡◌ {A = Option (List ℕ)} None (Some xs) → ⊥
    none_some xs e = cc
join (Some input) (Some left) U B C known f u b = f input left refl u b

-- the input, as what was taken, what is shown and what comes after
parts_of : (input front back left bytes more : List ℕ) → input ≡ front ++ back → left ≡ back → left ≡ bytes ++ more → input ≡ (front ++ bytes) ++ more
parts_of input front back left bytes more p same q = p ∙ ap (λ l. front ++ l) (sym same ∙ q) ∙ sym (append_assoc front bytes more)

-- what is asked for by bytes that no newline ends is no QUIT
pub rest_stays : (y : List ℕ) → through_quit (request_of_rest y) ≡ request_of_rest y
rest_stays [] = refl
rest_stays (b ∷ bs) = elim (nat_lt MOST_LINE_BYTES (length (b ∷ bs))) as (λ c. through_quit (cond c requests.LongLine requests.BadLine ∷ []) ≡ cond c requests.LongLine requests.BadLine ∷ []) [ true ↦ refl | false ↦ refl ]

module _ {S : Type 0} (Serves : S → Request → Event → S → Type 0) where
  -- so far: the bytes that were taken from the input, and those that are left
  pub record Underway (first : S) (held : Option (List ℕ)) (input : List ℕ) (remaining : Option (List ℕ)) (now : Position S) : Type 0 where
    pub front : List ℕ
    pub back : List ℕ
    pub parts : input ≡ front ++ back
    pub unread : remaining ≡ Some back
    pub advances : Advances Serves (beginning first held front) now

  from_start : (first : S) (held : Option (List ℕ)) (ahead : List ℕ) (answered : ℕ) (lacked : Bool) → ahead ≡ [] → answered ≡ 0 → lacked ≡ false
      → Advances Serves (beginning first held []) (record { state = first; ahead = ahead; written = held; answered = answered; lacked = lacked })
  from_start first held ahead answered lacked e f g =
      subst (λ l. Advances Serves (beginning first held []) (record { state = first; ahead = l; written = held; answered = answered; lacked = lacked })) (sym e)
      (subst (λ n. Advances Serves (beginning first held []) (record { state = first; ahead = []; written = held; answered = n; lacked = lacked })) (sym f)
      (subst (λ b. Advances Serves (beginning first held []) (record { state = first; ahead = []; written = held; answered = 0; lacked = b })) (sym g) (Advances_none Serves (beginning first held []))))

  pub Underway_start : (p : Position S) (remaining : Option (List ℕ)) → p.ahead ≡ [] → p.answered ≡ 0 → p.lacked ≡ false → IfSome remaining (λ input. Underway p.state p.written input remaining p)
  Underway_start p None none zero ample = tt
  Underway_start p (Some input) none zero ample = record {
    front = [];
    back = input;
    parts = refl;
    unread = refl;
    advances = from_start p.state p.written p.ahead p.answered p.lacked none zero ample;
  }

  -- ---- more bytes

  more_brought : (first : S) (held remaining new : Option (List ℕ)) (p q : Position S) (input left : List ℕ) → remaining ≡ Some left → Underway first held input remaining p → BringsMore Serves p left new q → Underway first held input new q
  more_brought first held remaining new p q input left e u b = record {
    front = u.front ++ b.bytes;
    back = b.rest;
    parts = parts_of input u.front u.back left b.bytes b.rest u.parts (same_back remaining left u.back e u.unread) b.parts;
    unread = b.unread;
    advances = Advances_then Serves (beginning first held (u.front ++ b.bytes)) (facing p b.bytes) q (Advances_more Serves (beginning first held u.front) p b.bytes u.advances) b.advances;
  }

  pub Underway_more : (first : S) (held known remaining new : Option (List ℕ)) (p q : Position S) → IfSome known (λ input. Underway first held input remaining p) → IfSome remaining (λ input. BringsMore Serves p input new q)
      → IfSome known (λ input. Underway first held input new q)
  Underway_more first held known remaining new p q =
      join known remaining (λ input. Underway first held input remaining p) (λ input. BringsMore Serves p input new q) (λ input. Underway first held input new q)
      (λ input u. (u.back, u.unread)) (λ input left e u b. more_brought first held remaining new p q input left e u b)

  -- ---- QUIT

  quit_ends : (first : S) (held remaining new : Option (List ℕ)) (p q : Position S) (input left : List ℕ) → remaining ≡ Some left → Underway first held input remaining p → BringsQuit Serves p left new q
      → RunsToEnd Serves first input new held q.written q.answered true q.lacked q.state
  quit_ends first held remaining new p q input left e u b =
      let taken = u.front ++ b.bytes in
      let parts : input ≡ taken ++ b.more = parts_of input u.front u.back left b.bytes b.more u.parts (same_back remaining left u.back e u.unread) b.parts in
      let all = Quits_then Serves (beginning first held taken) (facing p b.bytes) (with_ahead q b.rest) (Advances_more Serves (beginning first held u.front) p b.bytes u.advances) b.quits in
      let asked : requests_of input ≡ all.done = ap (λ l. through_quit (line_requests l ++ request_of_rest (rest_of input))) parts ∙ all.requests b.more (request_of_rest (rest_of input)) in
      record {
        events = all.events;
        runs = subst (λ rs. Runs Serves first rs all.events q.state) (sym asked) all.runs;
        written = all.told.written;
        counted = all.told.counted ∙ zero-add _;
        lacked = all.told.lacked;
        ended = sym (ap quits parts ∙ all.quits b.more);
        unread = b.unread ∙ ap Some (sym (ap unread parts ∙ all.unread b.more));
      }

  pub RunsToEnd_quit : (first : S) (held known remaining new : Option (List ℕ)) (p q : Position S) → IfSome known (λ input. Underway first held input remaining p) → IfSome remaining (λ input. BringsQuit Serves p input new q)
      → IfSome known (λ input. RunsToEnd Serves first input new held q.written q.answered true q.lacked q.state)
  RunsToEnd_quit first held known remaining new p q =
      join known remaining (λ input. Underway first held input remaining p) (λ input. BringsQuit Serves p input new q) (λ input. RunsToEnd Serves first input new held q.written q.answered true q.lacked q.state)
      (λ input u. (u.back, u.unread)) (λ input left e u b. quit_ends first held remaining new p q input left e u b)

  -- ---- the end of the input

  -- a whole input was answered, but for its rest
  pub record AtEnd (first : S) (held : Option (List ℕ)) (input : List ℕ) (remaining : Option (List ℕ)) (now : Position S) : Type 0 where
    pub done : List Request
    pub events : List Event
    pub requests : requests_of input ≡ done ++ request_of_rest now.ahead
    pub runs : Runs Serves first done events now.state
    pub quits : quits input ≡ false
    pub left : unread input ≡ []
    pub unread : remaining ≡ Some []
    pub told : IsTold Serves events (beginning first held []) now

  at_end : (first : S) (held new : Option (List ℕ)) (p : Position S) (input front : List ℕ) → has_newline p.ahead ≡ false → input ≡ front ++ [] → new ≡ Some [] → Advances Serves (beginning first held front) p → AtEnd first held input new p
  at_end first held new p input front unended parts none f =
      let lines : line_requests input ≡ f.done = ap line_requests parts ∙ f.requests [] ∙ ap (λ l. f.done ++ line_requests l) (append-nil p.ahead) ∙ ap (λ l. f.done ++ l) (line_requests_part p.ahead unended) ∙ append-nil f.done in
      let rest : request_of_rest (rest_of input) ≡ request_of_rest p.ahead =
      ap (λ l. request_of_rest (rest_of l)) parts ∙ f.rest [] ∙ ap (λ l. request_of_rest (rest_of l)) (append-nil p.ahead) ∙ ap request_of_rest (rest_of_part p.ahead unended) in
      record {
        done = f.done;
        events = f.events;
        requests = ap (λ l. through_quit (l ++ request_of_rest (rest_of input))) lines ∙ ap (λ l. through_quit (f.done ++ l)) rest ∙ through_quit_append f.done (request_of_rest p.ahead) f.goes_on ∙ ap (λ l. f.done ++ l) (rest_stays p.ahead);
        runs = f.runs;
        quits = ap (list_any is_quit) lines ∙ f.goes_on;
        left = ap unread parts ∙ f.unread [] ∙ ap unread (append-nil p.ahead) ∙ unread_part p.ahead unended;
        unread = none;
        told = record { written = f.told.written; counted = f.told.counted; lacked = f.told.lacked };
      }

  end_brought : (first : S) (held remaining new : Option (List ℕ)) (p q : Position S) (input left : List ℕ) → has_newline p.ahead ≡ false → remaining ≡ Some left → Underway first held input remaining p → BringsEnd Serves p left new q
      → AtEnd first held input new q
  end_brought first held remaining new p q input left unended e u b =
      subst (λ k. AtEnd first held input new k) (sym b.same)
      (at_end first held new p input u.front unended (u.parts ∙ ap (λ l. u.front ++ l) (sym (same_back remaining left u.back e u.unread) ∙ b.none)) b.unread u.advances)

  pub AtEnd_brought : (first : S) (held known remaining new : Option (List ℕ)) (p q : Position S) → has_newline p.ahead ≡ false → IfSome known (λ input. Underway first held input remaining p) → IfSome remaining (λ input. BringsEnd Serves p input new q)
      → IfSome known (λ input. AtEnd first held input new q)
  AtEnd_brought first held known remaining new p q unended =
      join known remaining (λ input. Underway first held input remaining p) (λ input. BringsEnd Serves p input new q) (λ input. AtEnd first held input new q)
      (λ input u. (u.back, u.unread)) (λ input left e u b. end_brought first held remaining new p q input left unended e u b)

  pub RunsToEnd_end : (first : S) (held known new : Option (List ℕ)) (p q : Position S) → IfSome known (λ input. AtEnd first held input new p) → EndsRest Serves p q
      → IfSome known (λ input. RunsToEnd Serves first input new held q.written q.answered false q.lacked q.state)
  RunsToEnd_end first held None new p q u f = tt
  RunsToEnd_end first held (Some input) new p q u f =
      let told = told_then Serves (beginning first held []) p q u.events f.events u.told f.told in
      record {
        events = u.events ++ f.events;
        runs = subst (λ rs. Runs Serves first rs (u.events ++ f.events) q.state) (sym u.requests)
            (Runs_then Serves u.done (request_of_rest p.ahead) u.events f.events first p.state q.state u.runs f.runs);
        written = told.written;
        counted = told.counted ∙ zero-add _;
        lacked = told.lacked;
        ended = sym u.quits;
        unread = u.unread ∙ ap Some (sym u.left);
      }

  rest_falters : (first : S) (held known new : Option (List ℕ)) (p q : Position S) → IfSome known (λ input. AtEnd first held input new p) → FaltersAtRest Serves p q
      → IfSome known (λ input. RunsToWrite Serves first input held q.written q.answered q.state)
  rest_falters first held None new p q u f = tt
  rest_falters first held (Some input) new p q u f =
      let g = f.falters in
      record {
        done = u.done ++ f.request ∷ [];
        others = [];
        requests = u.requests ∙ ap (λ l. u.done ++ l) f.asked ∙ sym (append-nil (u.done ++ f.request ∷ []));
        events = u.events;
        next = g.event;
        runs = Runs_then Serves u.done (f.request ∷ []) u.events (g.event ∷ []) first p.state q.state u.runs (Runs_one Serves f.request g.event p.state q.state g.serves);
        whole = p.written;
        written = u.told.written;
        broken = g.broken;
        counted = g.counted ∙ u.told.counted ∙ zero-add _;
      }

  pub RunsSo_end : (stop : Stop) (first : S) (held known new : Option (List ℕ)) (p q : Position S) → IsWriteFailure stop → IfSome known (λ input. AtEnd first held input new p) → FaltersAtRest Serves p q
      → IfSome known (λ input. RunsSo Serves (fault_of stop q.answered) first input new held q.written q.state)
  RunsSo_end (Read kind) first held known new p q failed u f = absurd failed
  RunsSo_end NoMoreFills first held known new p q failed u f = absurd failed
  RunsSo_end (Write failure) first held known new p q failed u f = rest_falters first held known new p q u f

  -- ---- a reader that fails

  pub RunsToRead_underway : (first : S) (held known remaining : Option (List ℕ)) (p : Position S) → has_newline p.ahead ≡ false → IfSome known (λ input. Underway first held input remaining p)
      → IfSome known (λ input. RunsToRead Serves first input remaining held p.written p.answered p.state)
  RunsToRead_underway first held None remaining p unended u = tt
  RunsToRead_underway first held (Some input) remaining p unended u =
      let f = u.advances in
      let lines : line_requests u.front ≡ f.done = ap line_requests (sym (append-nil u.front)) ∙ f.requests [] ∙ ap (λ l. f.done ++ line_requests l) (append-nil p.ahead) ∙ ap (λ l. f.done ++ l) (line_requests_part p.ahead unended) ∙ append-nil f.done in
      record {
        front = u.front;
        back = u.back;
        parts = u.parts;
        unread = u.unread;
        goes_on = ap (list_any is_quit) lines ∙ f.goes_on;
        events = f.events;
        runs = subst (λ rs. Runs Serves first rs f.events p.state) (sym lines) f.runs;
        written = f.told.written;
        counted = f.told.counted ∙ zero-add _;
      }

  reader_lost : (first : S) (held remaining new : Option (List ℕ)) (p q : Position S) (input left : List ℕ) → remaining ≡ Some left → Underway first held input remaining p → LosesReader Serves p left new q → Underway first held input new q
  reader_lost first held remaining new p q input left e u l = record {
    front = u.front;
    back = left;
    parts = u.parts ∙ ap (λ k. u.front ++ k) (sym (same_back remaining left u.back e u.unread));
    unread = l.unread;
    advances = subst (Advances Serves (beginning first held u.front)) (sym l.same) u.advances;
  }

  -- ---- a writer that fails

  writer_lost : (first : S) (held remaining : Option (List ℕ)) (p q : Position S) (input left : List ℕ) → remaining ≡ Some left → Underway first held input remaining p → LosesWriter Serves p left q
      → RunsToWrite Serves first input held q.written q.answered q.state
  writer_lost first held remaining p q input left e u l =
      let taken = u.front ++ l.bytes in
      let parts : input ≡ taken ++ l.more = parts_of input u.front u.back left l.bytes l.more u.parts (same_back remaining left u.back e u.unread) l.parts in
      let k = Breaks_then Serves (beginning first held taken) (facing p l.bytes) q (Advances_more Serves (beginning first held u.front) p l.bytes u.advances) l.breaks in
      let rest = k.requests l.more (request_of_rest (rest_of input)) in
      record {
        done = k.done;
        others = rest.0;
        requests = ap (λ l. through_quit (line_requests l ++ request_of_rest (rest_of input))) parts ∙ rest.1;
        events = k.events;
        next = k.next;
        runs = k.runs;
        whole = k.between;
        written = k.written;
        broken = k.broken;
        counted = k.counted ∙ zero-add _;
      }

  -- a fault of either side, in the midst
  pub RunsSo_lost : (stop : Stop) (first : S) (held known remaining new : Option (List ℕ)) (p q : Position S) → has_newline p.ahead ≡ false → IfSome known (λ input. Underway first held input remaining p)
      → IfSome remaining (λ input. Loses Serves stop p input new q) → IfSome known (λ input. RunsSo Serves (fault_of stop q.answered) first input new held q.written q.state)
  RunsSo_lost (Read kind) first held known remaining new p q unended =
      join known remaining (λ input. Underway first held input remaining p) (λ input. LosesReader Serves p input new q) (λ input. RunsToRead Serves first input new held q.written q.answered q.state)
      (λ input u. (u.back, u.unread))
      (λ input left e u l. RunsToRead_underway first held (Some input) new q (ap (λ (k : Position S). has_newline k.ahead) l.same ∙ unended) (reader_lost first held remaining new p q input left e u l))
  RunsSo_lost NoMoreFills first held known remaining new p q unended =
      join known remaining (λ input. Underway first held input remaining p) (λ input. ⊥) (λ input. RunsToRead Serves first input new held q.written q.answered q.state)
      (λ input u. (u.back, u.unread)) (λ input left e u l. absurd l)
  RunsSo_lost (Write failure) first held known remaining new p q unended =
      join known remaining (λ input. Underway first held input remaining p) (λ input. LosesWriter Serves p input q) (λ input. RunsToWrite Serves first input held q.written q.answered q.state)
      (λ input u. (u.back, u.unread)) (λ input left e u l. writer_lost first held remaining p q input left e u l)

  -- ---- the arms of a fill

  pub brings_at : (fill f : Fill) (known remaining : Option (List ℕ)) (p q : Position S) → fill ≡ f → IfSome known (λ input. Brings Serves fill p input remaining q) → IfSome known (λ input. Brings Serves f p input remaining q)
  brings_at fill f known remaining p q e b =
      let P : Fill → Type 0 = λ f. IfSome known (λ input. Brings Serves f p input remaining q) in subst P e b
