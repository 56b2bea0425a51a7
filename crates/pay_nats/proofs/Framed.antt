-- A frame is found, and is the one that stands there.
use Rattle.std.proofs.Common.{◌≡◌, ◌∙◌, ℕ, ◌+◌, ◌≤◌, List, [], ◌++◌, length, drop, Option, Some, None, option_map, Result, Ok, Err, refl, sym, ap, subst, arith, append_assoc, length-append, drop_at}
use Rattle.std.specs.Prelude.{IfOk, IfSome}
use Rattle.pay_nats.specs.Seen.{seen, told}
use Rattle.pay_nats.specs.declared.frame.Frame.{Frame}
use Rattle.std.proofs.lemmas.Option.{some_pair_parts}
use Rattle.pay_nats.specs.Lines.{content, crlf, sizes}
use Rattle.pay_nats.specs.Frames.{Address, Done, Fault, Info, IsFrame, IsMeaning, IsSized, Meaning, Message, Ping, Pong, Sized, StandsAt, Told, Whole, frame_body, frame_bytes, frame_line, message_line, most_line}
use Rattle.pay_nats.specs.Faults.{most_at}
use Rattle.pay_nats.specs.Reading.{first_line, frame_after, frame_at, frame_by, meaning_of, message_at, with_taken}
use Rattle.pay_nats.specs.declared.frame.FrameFault.{FrameFault}
use Rattle.pay_nats.specs.declared.limits.TheConstants.{MOST_LINE_BYTES, MOST_PAYLOAD_BYTES}
use Rattle.pay_nats.proofs.FirstLines.{LineAt, line_is}
use Rattle.pay_nats.proofs.Frontings.{most_by}
use Rattle.pay_nats.proofs.LineMeanings.{meaning_is}
use Rattle.pay_nats.proofs.Payloads.{message_is}

abbrev Found : Type 0
Found = Result (Option (Told × ℕ)) FrameFault

-- ---- what is found stands there

stands : (bytes rest : List ℕ) (frame : Told) (taken : ℕ) → IsFrame frame → taken ≡ length (frame_bytes frame) → bytes ≡ frame_bytes frame ++ rest → StandsAt bytes frame taken
stands bytes rest frame taken sound size whole =
    let back : drop taken bytes ≡ rest = ap (drop taken) whole ∙ drop_at (frame_bytes frame) rest taken (sym size) in
    record { sound = sound; taken_are = size; whole = whole ∙ ap (λ (x : List ℕ). frame_bytes frame ++ x) (sym back) }

alone_body : (frame : Told) → IsMeaning (Whole frame) → frame_body frame ≡ []
alone_body (Info text) it = refl
alone_body (Message address headers payload) it = absurd it.0
alone_body Ping it = refl
alone_body Pong it = refl
alone_body Done it = refl
alone_body (Fault text) it = refl

alone_stands : (bytes line : List ℕ) (frame : Told) → LineAt bytes line → IsMeaning (Whole frame) × (line ≡ frame_line frame) → StandsAt bytes frame (length line + 2)
alone_stands bytes line frame at it =
    let body = alone_body frame it.0 in
    let same : frame_bytes frame ≡ line ++ crlf = ap (λ (x : List ℕ). frame_line frame ++ (crlf ++ x)) body ∙ ap (λ (x : List ℕ). x ++ crlf) (sym it.1) in
    let whole : bytes ≡ frame_bytes frame ++ drop (length line + 2) bytes = at.whole ∙ (sym (append_assoc line crlf (drop (length line + 2) bytes)) ∙ ap (λ (x : List ℕ). x ++ drop (length line + 2) bytes) (sym same)) in
    let most : most_at bytes ≡ most_line frame = ap most_at (at.whole ∙ ap (λ (x : List ℕ). x ++ (crlf ++ drop (length line + 2) bytes)) it.1) ∙ most_by (Whole frame) it.0 (crlf ++ drop (length line + 2) bytes) in
    let size : length line + 2 ≡ length (frame_bytes frame) = sym (ap length same ∙ length-append line crlf) in
    stands bytes (drop (length line + 2) bytes) frame (length line + 2) (record { parts = it.0.1; line = subst (λ (x : List ℕ). length x ≤ most_line frame) it.1 (omega (arith, at.short, most)) }) size whole

regroup : (line content rest : List ℕ) → line ++ (crlf ++ (content ++ (crlf ++ rest))) ≡ (line ++ (crlf ++ (content ++ crlf))) ++ rest
regroup line content rest = simp append_assoc

size_of : (line content : List ℕ) → length line + length content + 4 ≡ length (line ++ (crlf ++ (content ++ crlf)))
size_of line content = omega (arith, length-append line (crlf ++ (content ++ crlf)), length-append content crlf)

module _ (bytes line : List ℕ) (address : Address) (sizes : Option ℕ) (total : ℕ) (at : LineAt bytes line) (it : IsSized address sizes total × (line ≡ message_line address sizes total)) where
  pub most_message : most_at bytes ≡ MOST_LINE_BYTES
  most_message =
      ap most_at (at.whole ∙ ap (λ (x : List ℕ). x ++ (crlf ++ drop (length line + 2) bytes)) it.1) ∙ most_by (Sized address sizes total) it.0 (crlf ++ drop (length line + 2) bytes)

  message_stands : (headers : Option (List ℕ)) (payload : List ℕ) → option_map length headers ≡ sizes → length (content headers payload) ≡ total → total ≤ MOST_PAYLOAD_BYTES
      → drop (length line + 2) bytes ≡ content headers payload ++ (crlf ++ drop (total + 2) (drop (length line + 2) bytes)) → StandsAt bytes (Message address headers payload) (length line + total + 4)
  message_stands headers payload are is most there =
      let rest = drop (total + 2) (drop (length line + 2) bytes) in
      let same : line ≡ frame_line (Message address headers payload) = it.1 ∙ sym (rw (are, is) refl) in
      let whole : bytes ≡ frame_bytes (Message address headers payload) ++ rest =
      at.whole ∙ (ap (λ (x : List ℕ). line ++ (crlf ++ x)) there ∙ (regroup line (content headers payload) rest ∙ ap (λ (x : List ℕ). (x ++ (crlf ++ (content headers payload ++ crlf))) ++ rest) same)) in
      let size : length line + total + 4 ≡ length (frame_bytes (Message address headers payload)) =
      ap (λ (n : ℕ). length line + n + 4) (sym is) ∙ (size_of line (content headers payload) ∙ ap (λ (x : List ℕ). length (x ++ (crlf ++ (content headers payload ++ crlf)))) same) in
      stands bytes rest (Message address headers payload) (length line + total + 4)
      (record { parts = (it.0.addressed, omega (arith, is, most)); line = subst (λ (x : List ℕ). length x ≤ MOST_LINE_BYTES) same (omega (arith, at.short, most_message)) }) size whole

pub same_found : (a b : Told) (m n : ℕ) → ◌≡◌ {A = Found} (Ok (Some (a, m))) (Ok (Some (b, n))) → (a ≡ b) × (m ≡ n)
same_found a b m n e =
    let inner : ◌≡◌ {A = Option (Told × ℕ)} (Some (a, m)) (Some (b, n)) = cc in
    some_pair_parts a b m n inner

taken_is : (n taken : ℕ) (r : Result (Option Told) FrameFault) (frame : Told) → with_taken n r ≡ Ok (Some (frame, taken)) → (r ≡ Ok (Some frame)) × (n ≡ taken)
taken_is n taken (Err fault) frame e = absurd cc
taken_is n taken (Ok None) frame e = absurd cc
taken_is n taken (Ok (Some it)) frame e = let same = same_found it frame n taken e in (ap (λ (x : Told). Ok (Some x)) same.0, same.1)

found : (bytes line : List ℕ) (o : Option Meaning) → meaning_of line ≡ o → LineAt bytes line → (frame : Told) (taken : ℕ) → frame_by (length line) (drop (length line + 2) bytes) o ≡ Ok (Some (frame, taken)) → StandsAt bytes frame taken
found bytes line None is at frame taken e = absurd cc
found bytes line (Some (Whole it)) is at frame taken e =
    let same = same_found it frame (length line + 2) taken e in
    subst (λ (f : Told). StandsAt bytes f taken) same.0 (subst (StandsAt bytes it) same.1 (alone_stands bytes line it at (meaning_is line (Whole it) is)))
found bytes line (Some (Sized address sizes total)) is at frame taken e =
    let says = meaning_is line (Sized address sizes total) is in
    let same = taken_is (length line + total + 4) taken (message_at address sizes total (drop (length line + 2) bytes)) frame e in
    let there = message_is (drop (length line + 2) bytes) address sizes total frame says.0.within same.0 in
    subst (λ (f : Told). StandsAt bytes f taken) (sym there.frame_is)
    (subst (StandsAt bytes (Message address there.headers there.payload)) same.1 (message_stands bytes line address sizes total at says there.headers there.payload there.sizes_are there.total_is there.most there.whole))

after_line : (bytes : List ℕ) (r : Result (Option (List ℕ)) FrameFault) → first_line bytes ≡ r → (frame : Told) (taken : ℕ) → frame_after bytes r ≡ Ok (Some (frame, taken)) → StandsAt bytes frame taken
after_line bytes (Err fault) is frame taken e = absurd cc
after_line bytes (Ok None) is frame taken e = absurd cc
after_line bytes (Ok (Some line)) is frame taken e = found bytes line (meaning_of line) refl (line_is bytes line is) frame taken e

pub frame_is : (bytes : List ℕ) (frame : Told) (taken : ℕ) → frame_at bytes ≡ Ok (Some (frame, taken)) → StandsAt bytes frame taken
frame_is bytes frame taken e = after_line bytes (first_line bytes) refl frame taken e

-- the same of what is seen of a result
pub seen_is : (bytes : List ℕ) (r : Result (Option (Frame × ℕ)) FrameFault) → seen r ≡ frame_at bytes → IfOk r (λ it. IfSome it (λ it. StandsAt bytes (told it.0) it.1))
seen_is bytes (Err fault) e = tt
seen_is bytes (Ok None) e = tt
seen_is bytes (Ok (Some it)) e = frame_is bytes (told it.0) it.1 (sym e)
