-- What follows a fault doesn't mend it.
use Rattle.std.proofs.Common.{◌≡◌, ◌∙◌, ℕ, ◌+◌, ◌≤◌, Bool, true, false, List, ◌∷◌, ◌++◌, length, take, drop, Option, Some, Result, Ok, Err, refl, sym, ap, subst, arith, append_assoc, length-append, length-drop, ◌-◌}
use Rattle.std.specs.Prelude.{nat_lt}
use Rattle.std.proofs.lemmas.Bool.{ltb-true, ltb-false}
use Rattle.std.proofs.lemmas.List.{drop-append-le, take-append-le}
use Rattle.pay_nats.specs.Faults.{HasLongLine, HasMessage, HasNoEnd, HasNoNewline, HasStrangeLine, most_at}
use Rattle.pay_nats.specs.Frames.{Told, frame_bytes, message_line}
use Rattle.pay_nats.specs.Laws.{FaultsStay, NoFrameBegins}
use Rattle.pay_nats.specs.Lines.{crlf}
use Rattle.pay_nats.specs.declared.frame.FrameFault.{FrameFault}
use Rattle.pay_nats.specs.declared.frame.FrameFault.TheVariants.{Line, LongLine, LongPayload, Unended}
use Rattle.pay_nats.proofs.Faulted.{faulted}
use Rattle.pay_nats.proofs.Frontings.{most_front, most_within}
use Rattle.pay_nats.proofs.Reframed.{frame_again}

module _ (bytes more : List ℕ) where
  line_stays : HasStrangeLine bytes → HasStrangeLine (bytes ++ more)
  line_stays it =
      let all : length bytes ≡ length it.text + length (10 ∷ it.rest) = ap length it.whole ∙ length-append it.text (10 ∷ it.rest) in
      record {
        text = it.text;
        rest = it.rest ++ more;
        whole = ap (λ (x : List ℕ). x ++ more) it.whole ∙ append_assoc it.text (10 ∷ it.rest) more;
        first = it.first;
        short = by all (nat_lt (length bytes) 5) refl;
        strange = it.strange;
      }
    where
      by : length bytes ≡ length it.text + length (10 ∷ it.rest) → (t : Bool) → nat_lt (length bytes) 5 ≡ t → length it.text ≤ most_at (bytes ++ more) + 1
      by all true few = omega (arith, all, ltb-true (length bytes) 5 few, (most_within (bytes ++ more)).1)
      by all false many = omega (arith, it.short, most_front bytes more (ltb-false (length bytes) 5 many))

  long_line_stays : HasLongLine bytes → HasLongLine (bytes ++ more)
  long_line_stays it =
      let same : most_at bytes ≡ most_at (bytes ++ more) = most_front bytes more (omega (arith, it.many, (most_within bytes).1)) in
      let front : take (most_at bytes + 2) (bytes ++ more) ≡ take (most_at bytes + 2) bytes = take-append-le (most_at bytes + 2) bytes more it.many in
      record {
        many = omega (arith, it.many, same, length-append bytes more);
        none_ends = subst (λ (n : ℕ). HasNoNewline (take (n + 2) (bytes ++ more))) same (subst HasNoNewline (sym front) it.none_ends);
      }

  message_stays : (total : ℕ) (rest : List ℕ) → HasMessage bytes total rest → HasMessage (bytes ++ more) total (rest ++ more)
  message_stays total rest it =
      record {
        address = it.address;
        headers = it.headers;
        sized = it.sized;
        short = it.short;
        whole = ap (λ (x : List ℕ). x ++ more) it.whole ∙ append_assoc (message_line it.address it.headers total) (crlf ++ rest) more;
      }

  no_end_stays : HasNoEnd bytes → HasNoEnd (bytes ++ more)
  no_end_stays it =
      let without_front : drop it.total (it.rest ++ more) ≡ drop it.total it.rest ++ more = drop-append-le it.total it.rest more (omega (arith, it.all)) in
      let size : length (drop it.total it.rest) ≡ length it.rest - it.total = length-drop it.total it.rest in
      let same : take 2 (drop it.total (it.rest ++ more)) ≡ take 2 (drop it.total it.rest) = ap (take 2) without_front ∙ take-append-le 2 (drop it.total it.rest) more (omega (arith, size, it.all)) in
      record {
        total = it.total;
        rest = it.rest ++ more;
        message = message_stays it.total it.rest it.message;
        few = it.few;
        all = omega (arith, it.all, length-append it.rest more);
        unended = λ e. it.unended (sym same ∙ e);
      }

pub stay : FaultsStay
stay bytes more Line it = line_stays bytes more it
stay bytes more LongLine it = long_line_stays bytes more it
stay bytes more LongPayload it = (it.0, it.1 ++ more, message_stays bytes more it.0 it.1 it.2, it.3)
stay bytes more Unended it = no_end_stays bytes more it

pub no_frame : NoFrameBegins
no_frame bytes more rest fault frame it is e =
    apart (frame, length (frame_bytes frame)) (sym (frame_again (bytes ++ more) rest frame is e) ∙ faulted (bytes ++ more) fault (stay bytes more fault it))
  where
    apart : (found : Told × ℕ) → ◌≡◌ {A = Result (Option (Told × ℕ)) FrameFault} (Ok (Some found)) (Err fault) → ⊥
    apart found e = cc
