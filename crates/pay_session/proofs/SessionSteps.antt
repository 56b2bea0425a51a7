-- How the steps of a session join.
use Rattle.std.proofs.Common.{◌≡◌, ◌≤◌, ℕ, ◌+◌, Bool, true, false, ◌||◌, cond, List, [], ◌∷◌, ◌++◌, length, sym, ap, ◌∙◌, subst, refl, arith, append_assoc, append-nil, length-append, Option}
use Rattle.std.specs.List.{list_any}
use Rattle.std.proofs.lemmas.List.Folds.{list_any-append}
use Rattle.std.proofs.lemmas.Grind.{flat_map-append}
use Rattle.std.proofs.KnownBytes.{Appends-nil, Appends-trans}
use Rattle.std.specs.Io.KnownBytes.{Appends}
use Rattle.pay_wire.specs.Words.{spelling_of_reply}
use Rattle.pay_session.specs.Requests.{has_newline, is_quit, kept_of, line_requests, request_of, request_of_rest, rest_of, through_quit, unread}
use Rattle.pay_session.specs.Events.{Event, text_of, lacks_memory, any_lacks_memory}
use Rattle.pay_session.specs.SessionSteps.{Position, with_ahead, facing, Runs, IsTold, Advances, Quits, Breaks, EndsLine, Replies, Falters, TakesToQuit, IsAnswered, Ran}
use Rattle.pay_wire.specs.declared.reply.SpelledReply.{SpelledReply}
use Rattle.pay_session.specs.declared.request.Request.{Request}
use Rattle.pay_session.proofs.InputPieces.{false_or, kept_alike, line_requests_line, unread_line, rest_of_line, has_newline_both, has_newline_kept}

or_false : (b : Bool) → (b || false) ≡ b
or_false true = refl
or_false false = refl

or_assoc : (a b c : Bool) → ((a || b) || c) ≡ (a || (b || c))
or_assoc true b c = refl
or_assoc false b c = refl

pub through_quit_append : (done rs : List Request) → list_any is_quit done ≡ false → through_quit (done ++ rs) ≡ done ++ through_quit rs
through_quit_append [] rs h = refl
through_quit_append (r ∷ done) rs h =
    let both = false_or (is_quit r) (list_any is_quit done) h in
    ap (λ b. cond b (r ∷ []) (r ∷ through_quit (done ++ rs))) both.0 ∙ ap (λ l. r ∷ l) (through_quit_append done rs both.1)

-- one line more
parts_with_line : (bytes front ahead text rest : List ℕ) → bytes ≡ front ++ ahead → ahead ≡ text ++ 10 ∷ rest → bytes ≡ (front ++ (text ++ 10 ∷ [])) ++ rest
parts_with_line bytes front ahead text rest parts cut = parts ∙ ap (λ k. front ++ k) (cut ∙ sym (append_assoc text (10 ∷ []) rest)) ∙ sym (append_assoc front (text ++ 10 ∷ []) rest)

pub unended_part : (line ahead kept : List ℕ) → has_newline line ≡ false → has_newline ahead ≡ false → kept ≡ kept_of (line ++ ahead) → has_newline kept ≡ false
unended_part line ahead kept h none e = ap has_newline e ∙ has_newline_kept (line ++ ahead) (has_newline_both line ahead h none)

-- ---- what was written, counted and noted

pub both_written : (a b c : Option (List ℕ)) (t u : List Event) → Appends a b (text_of t) → Appends b c (text_of u) → Appends a c (text_of (t ++ u))
both_written a b c t u f g = subst (Appends a c) (sym (flat_map-append (λ (e : Event). spelling_of_reply e.reply) t u)) (Appends-trans a b c (text_of t) (text_of u) f g)

one_written : (a b : Option (List ℕ)) (e : Event) → Appends a b (spelling_of_reply e.reply) → Appends a b (text_of (e ∷ []))
one_written a b e h = subst (Appends a b) (sym (append-nil (spelling_of_reply e.reply))) h

both_lacked : (k m n : Bool) (t u : List Event) → m ≡ (k || any_lacks_memory t) → n ≡ (m || any_lacks_memory u) → n ≡ (k || any_lacks_memory (t ++ u))
both_lacked k m n t u e h =
    h ∙ ap (λ b. b || any_lacks_memory u) e ∙ or_assoc k (any_lacks_memory t) (any_lacks_memory u) ∙ sym (ap (λ b. k || b) (list_any-append (λ (e : Event). lacks_memory e.reply) t u))

pub both_counted : (k m n : ℕ) (t u : List Event) → m ≡ k + length t → n ≡ m + length u → n ≡ k + length (t ++ u)
both_counted k m n t u e f = omega (arith, e, f, length-append t u)

-- ---- a line and its newline

-- a line and its newline
beyond : (line text rest more : List ℕ) → (line ++ (text ++ 10 ∷ rest)) ++ more ≡ (line ++ text) ++ 10 ∷ (rest ++ more)
beyond line text rest more = ap (λ l. l ++ more) (sym (append_assoc line text (10 ∷ rest))) ∙ append_assoc (line ++ text) (10 ∷ rest) more

first_of_lines : (line text rest more : List ℕ) → has_newline (line ++ text) ≡ false → line_requests ((line ++ (text ++ 10 ∷ rest)) ++ more) ≡ request_of (line ++ text) ∷ line_requests (rest ++ more)
first_of_lines line text rest more h = ap line_requests (beyond line text rest more) ∙ line_requests_line (line ++ text) (rest ++ more) h

-- what is left unread after a line
unread_after : (line text rest more : List ℕ) (quit : Bool) → has_newline (line ++ text) ≡ false → is_quit (request_of (line ++ text)) ≡ quit
    → unread ((line ++ (text ++ 10 ∷ rest)) ++ more) ≡ cond quit (rest ++ more) (unread (rest ++ more))
unread_after line text rest more quit h q =
    ap unread (beyond line text rest more) ∙ unread_line (line ++ text) (rest ++ more) h ∙ ap (λ b. cond b (rest ++ more) (unread (rest ++ more))) q

module _ {S : Type 0} (Serves : S → Request → Event → S → Type 0) where
  pub told_none : (p : Position S) (xs ys : List ℕ) → IsTold Serves [] (with_ahead p xs) (with_ahead p ys)
  told_none p xs ys = record { written = Appends-nil p.written; counted = omega arith; lacked = sym (or_false p.lacked) }

  pub told_then : (p q r : Position S) (es more : List Event) → IsTold Serves es p q → IsTold Serves more q r → IsTold Serves (es ++ more) p r
  told_then p q r es more f g = record {
    written = both_written p.written q.written r.written es more f.written g.written;
    counted = both_counted p.answered q.answered r.answered es more f.counted g.counted;
    lacked = both_lacked p.lacked q.lacked r.lacked es more f.lacked g.lacked;
  }

  -- what is ahead does not matter
  told_ahead : (p q : Position S) (xs ys : List ℕ) (es : List Event) → IsTold Serves es p q → IsTold Serves es (with_ahead p xs) (with_ahead q ys)
  told_ahead p q xs ys es f = record { written = f.written; counted = f.counted; lacked = f.lacked }

  -- ---- runs

  -- one run after another
  pub Runs_then : (rs later : List Request) (es more : List Event) (a b c : S) → Runs Serves a rs es b → Runs Serves b later more c → Runs Serves a (rs ++ later) (es ++ more) c
  Runs_then [] later [] more a b c f g = subst (λ s. Runs Serves s later more c) f g
  Runs_then [] later (e ∷ es) more a b c f g = absurd f
  Runs_then (r ∷ rs) later [] more a b c f g = absurd f
  Runs_then (r ∷ rs) later (e ∷ es) more a b c f g = (f.0, f.1, Runs_then rs later es more f.0 b c f.2 g)

  pub Runs_one : (r : Request) (e : Event) (a b : S) → Serves a r e b → Runs Serves a (r ∷ []) (e ∷ []) b
  Runs_one r e a b f = (b, f, refl)

  pub Ran_none : (a b : S) → b ≡ a → Ran Serves a b
  Ran_none a b same = record { requests = []; events = []; runs = same }

  pub Ran_one : (request : Request) (reply : SpelledReply) (a b : S) → IsAnswered Serves request a b reply → Ran Serves a b
  Ran_one request reply a b f = record { requests = request ∷ []; events = f.event ∷ []; runs = Runs_one request f.event a b f.serves }

  pub Ran_then : (a b c : S) → Ran Serves a b → Ran Serves b c → Ran Serves a c
  Ran_then a b c f g = record { requests = f.requests ++ g.requests; events = f.events ++ g.events; runs = Runs_then f.requests g.requests f.events g.events a b c f.runs g.runs }

  -- ---- one step after another

  pub Advances_none : (p : Position S) → Advances Serves p p
  Advances_none p = record {
    done = [];
    events = [];
    requests = λ _. refl;
    rest = λ _. refl;
    unread = λ _. refl;
    goes_on = refl;
    runs = refl;
    told = told_none p p.ahead p.ahead;
  }

  pub Advances_then : (p q r : Position S) → Advances Serves p q → Advances Serves q r → Advances Serves p r
  Advances_then p q r f g = record {
    done = f.done ++ g.done;
    events = f.events ++ g.events;
    requests = λ more. f.requests more ∙ ap (λ l. f.done ++ l) (g.requests more) ∙ sym (append_assoc f.done g.done _);
    rest = λ more. f.rest more ∙ g.rest more;
    unread = λ more. f.unread more ∙ g.unread more;
    goes_on = list_any-append is_quit f.done g.done ∙ ap (λ b. b || list_any is_quit g.done) f.goes_on ∙ g.goes_on;
    runs = Runs_then f.done g.done f.events g.events p.state q.state r.state f.runs g.runs;
    told = told_then p q r f.events g.events f.told g.told;
  }

  pub Quits_then : (p q r : Position S) → Advances Serves p q → Quits Serves q r → Quits Serves p r
  Quits_then p q r f g = record {
    done = f.done ++ g.done;
    events = f.events ++ g.events;
    requests = λ more rest. ap (λ k. through_quit (k ++ rest)) (f.requests more) ∙ ap through_quit (append_assoc f.done _ rest) ∙ through_quit_append f.done _ f.goes_on ∙ ap (λ k. f.done ++ k) (g.requests more rest);
    quits = λ more. ap (list_any is_quit) (f.requests more) ∙ list_any-append is_quit f.done _ ∙ ap (λ b. b || list_any is_quit (line_requests (q.ahead ++ more))) f.goes_on ∙ g.quits more;
    unread = λ more. f.unread more ∙ g.unread more;
    runs = Runs_then f.done g.done f.events g.events p.state q.state r.state f.runs g.runs;
    told = told_then p q r f.events g.events f.told g.told;
  }

  pub Breaks_then : (p q r : Position S) → Advances Serves p q → Breaks Serves q r → Breaks Serves p r
  Breaks_then p q r f g = record {
    done = f.done ++ g.done;
    events = f.events ++ g.events;
    next = g.next;
    requests = λ more rest. let k = g.requests more rest in
        (k.0, ap (λ k. through_quit (k ++ rest)) (f.requests more) ∙ ap through_quit (append_assoc f.done _ rest) ∙ through_quit_append f.done _ f.goes_on ∙ ap (λ k. f.done ++ k) k.1 ∙ sym (append_assoc f.done g.done k.0));
    runs = subst (λ es. Runs Serves p.state (f.done ++ g.done) es r.state) (sym (append_assoc f.events g.events (g.next ∷ [])))
        (Runs_then f.done g.done f.events (g.events ++ g.next ∷ []) p.state q.state r.state f.runs g.runs);
    between = g.between;
    written = both_written p.written q.written g.between f.events g.events f.told.written g.written;
    broken = g.broken;
    counted = both_counted p.answered q.answered r.answered f.events g.events f.told.counted g.counted;
  }

  -- the bytes that come after stay ahead
  pub Advances_more : (p q : Position S) (more : List ℕ) → Advances Serves p q → Advances Serves (facing p more) (facing q more)
  Advances_more p q more f = record {
    done = f.done;
    events = f.events;
    requests = λ after. ap line_requests (append_assoc p.ahead more after) ∙ f.requests (more ++ after) ∙ ap (λ l. f.done ++ line_requests l) (sym (append_assoc q.ahead more after));
    rest = λ after. ap (λ l. request_of_rest (rest_of l)) (append_assoc p.ahead more after) ∙ f.rest (more ++ after) ∙ ap (λ l. request_of_rest (rest_of l)) (sym (append_assoc q.ahead more after));
    unread = λ after. ap unread (append_assoc p.ahead more after) ∙ f.unread (more ++ after) ∙ ap unread (sym (append_assoc q.ahead more after));
    goes_on = f.goes_on;
    runs = f.runs;
    told = told_ahead p q (p.ahead ++ more) (q.ahead ++ more) f.events f.told;
  }

  -- a part of a line is kept
  pub Advances_kept : (p : Position S) (text : List ℕ) → has_newline p.ahead ≡ false → has_newline text ≡ false → Advances Serves (facing p text) (with_ahead p (kept_of (p.ahead ++ text)))
  Advances_kept p text h i =
      let whole = has_newline_both p.ahead text h i in
      record {
        done = [];
        events = [];
        requests = λ more. sym (kept_alike (p.ahead ++ text) more whole).requests;
        rest = λ more. sym (kept_alike (p.ahead ++ text) more whole).rest;
        unread = λ more. sym (kept_alike (p.ahead ++ text) more whole).unread;
        goes_on = refl;
        runs = refl;
        told = told_none p (p.ahead ++ text) (kept_of (p.ahead ++ text));
      }

  -- ---- a line

  -- the request of a line was answered
  record Answered (p q : Position S) (request : Request) : Type 0 where
    pub event : Event
    pub serves : Serves p.state request event q.state
    pub told : IsTold Serves (event ∷ []) p q

  Advances_line : (p q : Position S) (text rest : List ℕ) → has_newline (p.ahead ++ text) ≡ false → is_quit (request_of (p.ahead ++ text)) ≡ false → Answered p q (request_of (p.ahead ++ text))
      → Advances Serves (facing p (text ++ 10 ∷ rest)) (with_ahead q rest)
  Advances_line p q text rest h going f = record {
    done = request_of (p.ahead ++ text) ∷ [];
    events = f.event ∷ [];
    requests = λ more. first_of_lines p.ahead text rest more h;
    rest = λ more. ap (λ l. request_of_rest (rest_of l)) (beyond p.ahead text rest more) ∙ ap request_of_rest (rest_of_line (p.ahead ++ text) (rest ++ more));
    unread = λ more. unread_after p.ahead text rest more false h going;
    goes_on = ap (λ b. b || false) going;
    runs = Runs_one (request_of (p.ahead ++ text)) f.event p.state q.state f.serves;
    told = told_ahead p q (p.ahead ++ (text ++ 10 ∷ rest)) rest (f.event ∷ []) f.told;
  }

  Quits_line : (p q : Position S) (text rest : List ℕ) → has_newline (p.ahead ++ text) ≡ false → is_quit (request_of (p.ahead ++ text)) ≡ true → Answered p q (request_of (p.ahead ++ text))
      → Quits Serves (facing p (text ++ 10 ∷ rest)) (with_ahead q rest)
  Quits_line p q text rest h quit f =
      let first = request_of (p.ahead ++ text) in
      record {
        done = first ∷ [];
        events = f.event ∷ [];
        requests = λ more rs. ap (λ l. through_quit (l ++ rs)) (first_of_lines p.ahead text rest more h) ∙ ap (λ b. cond b (first ∷ []) (first ∷ through_quit (line_requests (rest ++ more) ++ rs))) quit;
        quits = λ more. ap (list_any is_quit) (first_of_lines p.ahead text rest more h) ∙ ap (λ b. b || list_any is_quit (line_requests (rest ++ more))) quit;
        unread = λ more. unread_after p.ahead text rest more true h quit;
        runs = Runs_one first f.event p.state q.state f.serves;
        told = told_ahead p q (p.ahead ++ (text ++ 10 ∷ rest)) rest (f.event ∷ []) f.told;
      }

  -- a line of which the line buffer was emptied, and its answer
  pub EndsLine_answered : (p q : Position S) (text line : List ℕ) (r : Request) (quit : Bool) → has_newline (p.ahead ++ text) ≡ false → r ≡ request_of (p.ahead ++ text) → quit ≡ is_quit r
      → Replies Serves r (with_ahead p line) q → EndsLine Serves p text q quit
  EndsLine_answered p q text line r quit h asked is f =
      let answered : Answered p q (request_of (p.ahead ++ text)) = record {
        event = f.event;
        serves = subst (λ (r : Request). Serves p.state r f.event q.state) asked f.serves;
        told = record { written = f.told.written; counted = f.told.counted; lacked = f.told.lacked };
      } in
      let quits : is_quit (request_of (p.ahead ++ text)) ≡ quit = sym (is ∙ ap is_quit asked) in
      record {
        going = λ rest e. Advances_line p q text rest h (quits ∙ e) answered;
        quits = λ rest e. Quits_line p q text rest h (quits ∙ e) answered;
      }

  through_first : (r : Request) (rs : List Request) → through_quit (r ∷ rs) ≡ r ∷ cond (is_quit r) [] (through_quit rs)
  through_first r rs = elim (is_quit r) as (λ b. cond b (r ∷ []) (r ∷ through_quit rs) ≡ r ∷ cond b [] (through_quit rs)) [ true ↦ refl | false ↦ refl ]

  pub Breaks_line : (p q : Position S) (text line rest : List ℕ) (r : Request) → has_newline (p.ahead ++ text) ≡ false → r ≡ request_of (p.ahead ++ text) → Falters Serves r (with_ahead p line) q
      → Breaks Serves (facing p (text ++ 10 ∷ rest)) q
  Breaks_line p q text line rest r h asked f =
      let first = request_of (p.ahead ++ text) in
      record {
        done = first ∷ [];
        events = [];
        next = f.event;
        requests = λ more rs. (
          cond (is_quit first) [] (through_quit (line_requests (rest ++ more) ++ rs)),
          ap (λ l. through_quit (l ++ rs)) (first_of_lines p.ahead text rest more h) ∙ through_first first (line_requests (rest ++ more) ++ rs),
        );
        runs = Runs_one first f.event p.state q.state (subst (λ (r : Request). Serves p.state r f.event q.state) asked f.serves);
        between = p.written;
        written = Appends-nil p.written;
        broken = f.broken;
        counted = omega (arith, f.counted);
      }

  -- ---- the bytes of one fill

  -- so far, of these bytes: those ahead are still to be taken
  pub record TakesFront (before : Position S) (bytes : List ℕ) (now : Position S) (ahead : List ℕ) : Type 0 where
    pub advances : Advances Serves (facing before bytes) (facing now ahead)
    pub unended : has_newline now.ahead ≡ false
    pub count : now.answered + length ahead ≤ before.answered + length bytes
    pub front : List ℕ
    pub parts : bytes ≡ front ++ ahead

  pub Ran_front : (p q : Position S) (bytes ahead : List ℕ) → TakesFront p bytes q ahead → Ran Serves p.state q.state
  Ran_front p q bytes ahead f = record { requests = f.advances.done; events = f.advances.events; runs = f.advances.runs }

  pub TakesFront_none : (p : Position S) (bytes : List ℕ) → has_newline p.ahead ≡ false → TakesFront p bytes p bytes
  TakesFront_none p bytes h = record {
    advances = Advances_none (facing p bytes);
    unended = h;
    count = omega arith;
    front = [];
    parts = refl;
  }

  pub TakesFront_line : (p q r : Position S) (bytes ahead text rest : List ℕ) (quit : Bool) → TakesFront p bytes q ahead → EndsLine Serves q text r quit → ahead ≡ text ++ 10 ∷ rest
      → r.answered ≡ q.answered + 1 → r.ahead ≡ [] → quit ≡ false → TakesFront p bytes r rest
  TakesFront_line p q r bytes ahead text rest quit f g cut counted none going = record {
    advances = Advances_then (facing p bytes) (facing q ahead) (facing r rest) f.advances
        (subst (λ k. Advances Serves (facing q k) (facing r rest)) (sym cut) (subst (λ k. Advances Serves (facing q (text ++ 10 ∷ rest)) (with_ahead r (k ++ rest))) (sym none) (g.going rest going)));
    unended = ap has_newline none;
    count = omega (arith, f.count, counted, ap length cut, length-append text (10 ∷ rest));
    front = f.front ++ (text ++ 10 ∷ []);
    parts = parts_with_line bytes f.front ahead text rest f.parts cut;
  }

  pub Advances_part : (p q : Position S) (bytes ahead kept : List ℕ) → TakesFront p bytes q ahead → has_newline ahead ≡ false → kept ≡ kept_of (q.ahead ++ ahead) → Advances Serves (facing p bytes) (with_ahead q kept)
  Advances_part p q bytes ahead kept f none e = Advances_then (facing p bytes) (facing q ahead) (with_ahead q kept) f.advances
      (subst (λ k. Advances Serves (facing q ahead) (with_ahead q k)) (sym e) (Advances_kept q ahead f.unended none))

  pub TakesToQuit_line : (p q r : Position S) (bytes ahead text rest : List ℕ) (quit : Bool) → TakesFront p bytes q ahead → EndsLine Serves q text r quit → ahead ≡ text ++ 10 ∷ rest → quit ≡ true
      → TakesToQuit Serves p bytes (length rest) r
  TakesToQuit_line p q r bytes ahead text rest quit f g cut is = record {
    front = f.front ++ (text ++ 10 ∷ []);
    rest = rest;
    parts = parts_with_line bytes f.front ahead text rest f.parts cut;
    size = refl;
    quits = Quits_then (facing p bytes) (facing q ahead) (with_ahead r rest) f.advances (subst (λ k. Quits Serves (facing q k) (with_ahead r rest)) (sym cut) (g.quits rest is));
  }

  pub Breaks_front : (p q r : Position S) (bytes ahead text rest : List ℕ) → TakesFront p bytes q ahead → ((rest : List ℕ) → Breaks Serves (facing q (text ++ 10 ∷ rest)) r) → ahead ≡ text ++ 10 ∷ rest
      → Breaks Serves (facing p bytes) r
  Breaks_front p q r bytes ahead text rest f g cut =
      Breaks_then (facing p bytes) (facing q ahead) r f.advances (subst (λ k. Breaks Serves (facing q k) r) (sym cut) (g rest))
