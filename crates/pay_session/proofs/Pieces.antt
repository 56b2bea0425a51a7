-- Pieces over a port, a desk and a till.
use Rattle.std.proofs.Common.{◌≡◌, ℕ, false, ◌||◌, List, [], ◌∷◌, ◌++◌, Option, Some, None, IfSome, IfNone, Result, sym, ap, ◌∙◌, append_assoc, append-nil}
use Rattle.std.specs.List.{list_any}
use Rattle.std.proofs.lemmas.List.Folds.{list_any-append}
use Rattle.pay_rules.specs.declared.posting.Posting.{Posting}
use Rattle.pay_shard.specs.Words.{DeskParts}
use Rattle.pay_till.specs.Words.{Taken}
use Rattle.pay_wire.specs.declared.refusal.Refusal.{Refusal}
use Rattle.pay_session.specs.Events.{Event}
use Rattle.pay_session.specs.Pieces.{IsAfter, AreAnsweredAt, TakesPiece, TakesThroughQuit, StopsInPiece, EndsPieces, StopsAtEnd}
use Rattle.pay_session.specs.Requests.{has_newline, is_quit, line_requests, requests_of, request_of_rest, rest_of, through_quit, unread}
use Rattle.pay_session.specs.SessionSteps.{at, facing, at_hand, Runs, Advances, TakesToQuit, Breaks, EndsRest, FaltersAtRest}
use Rattle.pay_session.specs.declared.progress.Progress.{Progress}
use Rattle.pay_session.specs.declared.request.Request.{Request}
use Rattle.pay_session.specs.declared.service.Service.{Service}
use Rattle.pay_session.proofs.InputPieces.{line_requests_part, rest_of_part}
use Rattle.pay_session.proofs.OverDesk.{Serves, leads}
use Rattle.pay_session.proofs.SessionSteps.{Runs_one, through_quit_append}
use Rattle.pay_session.proofs.WholeSession.{rest_stays}

-- ---- the bytes

-- what comes after all bytes and a piece comes after what was kept and the piece
lines_beyond : (input kept piece more : List ℕ) → IsAfter input kept → line_requests ((input ++ piece) ++ more) ≡ line_requests input ++ line_requests ((kept ++ piece) ++ more)
lines_beyond input kept piece more is = ap line_requests (append_assoc input piece more) ∙ is.lines (piece ++ more) ∙ ap (λ l. line_requests input ++ line_requests l) (sym (append_assoc kept piece more))

rest_beyond : (input kept piece more : List ℕ) → IsAfter input kept → request_of_rest (rest_of ((input ++ piece) ++ more)) ≡ request_of_rest (rest_of ((kept ++ piece) ++ more))
rest_beyond input kept piece more is = ap (λ l. request_of_rest (rest_of l)) (append_assoc input piece more) ∙ is.rest (piece ++ more) ∙ ap (λ l. request_of_rest (rest_of l)) (sym (append_assoc kept piece more))

unread_beyond : (input kept piece more : List ℕ) → IsAfter input kept → unread ((input ++ piece) ++ more) ≡ unread ((kept ++ piece) ++ more)
unread_beyond input kept piece more is = ap unread (append_assoc input piece more) ∙ is.unread (piece ++ more) ∙ ap unread (sym (append_assoc kept piece more))

-- what all bytes ask for, where those of a piece ask through a QUIT for this
requests_beyond : (input kept piece more : List ℕ) (asked : List Request) → IsAfter input kept
    → through_quit (line_requests ((kept ++ piece) ++ more) ++ request_of_rest (rest_of ((input ++ piece) ++ more))) ≡ asked
    → requests_of ((input ++ piece) ++ more) ≡ line_requests input ++ asked
requests_beyond input kept piece more asked is f =
    let rest = request_of_rest (rest_of ((input ++ piece) ++ more)) in
    ap (λ l. through_quit (l ++ rest)) (lines_beyond input kept piece more is) ∙ ap through_quit (append_assoc (line_requests input) (line_requests ((kept ++ piece) ++ more)) rest)
    ∙ through_quit_append (line_requests input) (line_requests ((kept ++ piece) ++ more) ++ rest) is.goes_on ∙ ap (λ l. line_requests input ++ l) f

-- the lines that end in a piece
module _ (kept piece kept_now : List ℕ) (done : List Request) (unended : has_newline kept_now ≡ false) (asked : (more : List ℕ) → line_requests ((kept ++ piece) ++ more) ≡ done ++ line_requests (kept_now ++ more)) where
  ended : line_requests (kept ++ piece) ≡ done
  ended = ap line_requests (sym (append-nil (kept ++ piece))) ∙ asked [] ∙ ap (λ l. done ++ line_requests l) (append-nil kept_now) ∙ ap (λ l. done ++ l) (line_requests_part kept_now unended) ∙ append-nil done

  lines_of : (input : List ℕ) → IsAfter input kept → line_requests (input ++ piece) ≡ line_requests input ++ done
  lines_of input is = is.lines piece ∙ ap (λ l. line_requests input ++ l) ended

  after_piece : ((more : List ℕ) → request_of_rest (rest_of ((kept ++ piece) ++ more)) ≡ request_of_rest (rest_of (kept_now ++ more))) → ((more : List ℕ) → unread ((kept ++ piece) ++ more) ≡ unread (kept_now ++ more)) → list_any is_quit done ≡ false
      → (input : List ℕ) → IsAfter input kept → IsAfter (input ++ piece) kept_now
  after_piece rest left goes_on input is = record {
    lines = λ more. lines_beyond input kept piece more is ∙ ap (λ l. line_requests input ++ l) (asked more) ∙ sym (append_assoc (line_requests input) done (line_requests (kept_now ++ more)))
        ∙ ap (λ l. l ++ line_requests (kept_now ++ more)) (sym (lines_of input is));
    rest = λ more. rest_beyond input kept piece more is ∙ rest more;
    unread = λ more. unread_beyond input kept piece more is ∙ left more;
    goes_on = ap (list_any is_quit) (lines_of input is) ∙ list_any-append is_quit (line_requests input) done ∙ ap (λ b. b || list_any is_quit done) is.goes_on ∙ goes_on;
  }

-- what all bytes ask for that have no more after them
at_the_end : (input kept : List ℕ) → has_newline kept ≡ false → IsAfter input kept → requests_of input ≡ line_requests input ++ request_of_rest kept
at_the_end input kept unended is =
    let rest : request_of_rest (rest_of input) ≡ request_of_rest kept =
    ap (λ l. request_of_rest (rest_of l)) (sym (append-nil input)) ∙ is.rest [] ∙ ap (λ l. request_of_rest (rest_of l)) (append-nil kept) ∙ ap request_of_rest (rest_of_part kept unended) in
    ap (λ l. through_quit (line_requests input ++ l)) rest ∙ through_quit_append (line_requests input) (request_of_rest kept) is.goes_on ∙ ap (λ l. line_requests input ++ l) (rest_stays kept)

-- ---- the events

module _ {D O T K : Type 0} (parts : D → DeskParts O) (Closes : T → ℕ → ℕ → List Taken → Result (List Posting) Refusal → T → Type 0) (till_origin : T → K) where
  answered : (rs : List Request) (es : List Event) (a b : Service D T) → Runs (Serves parts Closes till_origin) a rs es b → AreAnsweredAt parts Closes a.port (a.desk.now, a.till.now) (b.desk.now, b.till.now) rs es
  answered rs es a b runs = let l = leads parts Closes till_origin rs es a b runs in record { served = l.served; taken = l.added; said = l.said }

  module _ (a b : Service D T) (p q : Progress) (held new : Option (List ℕ)) where
    one_piece : (piece : List ℕ) → has_newline q.line ≡ false → Advances (Serves parts Closes till_origin) (facing (at p a held) piece) (at q b new) → TakesPiece parts Closes a.port piece (at_hand a p held) (at_hand b q new)
    one_piece piece unended f = record {
      requests = f.done;
      events = f.events;
      answered = answered f.done f.events a b f.runs;
      written = f.told.written;
      lines = lines_of p.line piece q.line f.done unended f.requests;
      goes_on = after_piece p.line piece q.line f.done unended f.requests f.rest f.unread f.goes_on;
    }

    pub takes_piece : (left : Option ℕ) (piece : List ℕ) → has_newline q.line ≡ false → IfNone left (Advances (Serves parts Closes till_origin) (facing (at p a held) piece) (at q b new))
        → IfNone left (TakesPiece parts Closes a.port piece (at_hand a p held) (at_hand b q new))
    takes_piece None piece unended f = one_piece piece unended f
    takes_piece (Some n) piece unended f = tt

    one_quit : (piece : List ℕ) (left : ℕ) → TakesToQuit (Serves parts Closes till_origin) (at p a held) piece left (at q b new) → TakesThroughQuit parts Closes a.port (piece, left) (at_hand a p held) (at_hand b q new)
    one_quit piece left f = record {
      front = f.front;
      rest = f.rest;
      cut = f.parts;
      size = f.size;
      requests = f.quits.done;
      events = f.quits.events;
      answered = answered f.quits.done f.quits.events a b f.quits.runs;
      written = f.quits.told.written;
      lines = λ input is more. requests_beyond input p.line piece more f.quits.done is (f.quits.requests more _);
      quits = λ input is more. ap (list_any is_quit) (lines_beyond input p.line piece more is) ∙ list_any-append is_quit (line_requests input) (line_requests ((p.line ++ piece) ++ more))
          ∙ ap (λ b. b || list_any is_quit (line_requests ((p.line ++ piece) ++ more))) is.goes_on ∙ f.quits.quits more;
      unread = λ input is more. unread_beyond input p.line piece more is ∙ f.quits.unread more;
    }

    pub takes_quit : (left : Option ℕ) (piece : List ℕ) → IfSome left (λ n. TakesToQuit (Serves parts Closes till_origin) (at p a held) piece n (at q b new))
        → IfSome left (λ n. TakesThroughQuit parts Closes a.port (piece, n) (at_hand a p held) (at_hand b q new))
    takes_quit None piece f = tt
    takes_quit (Some n) piece f = one_quit piece n f

    pub stops_in_piece : (piece : List ℕ) → Breaks (Serves parts Closes till_origin) (facing (at p a held) piece) (at q b new) → (r : Progress) → StopsInPiece parts Closes a.port piece (at_hand a p held) (at_hand b r new)
    stops_in_piece piece f r = record {
      requests = f.done;
      events = f.events;
      next = f.next;
      answered = answered f.done (f.events ++ f.next ∷ []) a b f.runs;
      whole = f.between;
      written = f.written;
      broken = f.broken;
      lines = λ input is more. let asked = f.requests more (request_of_rest (rest_of ((input ++ piece) ++ more))) in (asked.0, requests_beyond input p.line piece more (f.done ++ asked.0) is asked.1);
    }

    pub ends_pieces : has_newline p.line ≡ false → EndsRest (Serves parts Closes till_origin) (at p a held) (at q b new) → (r : Progress) → EndsPieces parts Closes a.port (at_hand a p held) (at_hand b r new)
    ends_pieces unended f r = record {
      requests = request_of_rest p.line;
      events = f.events;
      answered = answered (request_of_rest p.line) f.events a b f.runs;
      written = f.told.written;
      lines = λ input is. at_the_end input p.line unended is;
    }

    pub stops_at_end : has_newline p.line ≡ false → FaltersAtRest (Serves parts Closes till_origin) (at p a held) (at q b new) → (r : Progress) → StopsAtEnd parts Closes a.port (at_hand a p held) (at_hand b r new)
    stops_at_end unended f r = record {
      requests = f.request ∷ [];
      next = f.falters.event;
      answered = answered (f.request ∷ []) (f.falters.event ∷ []) a b (Runs_one (Serves parts Closes till_origin) f.request f.falters.event a b f.falters.serves);
      broken = f.falters.broken;
      lines = λ input is. at_the_end input p.line unended is ∙ ap (λ l. line_requests input ++ l) f.asked;
    }
