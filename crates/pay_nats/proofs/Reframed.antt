-- A frame that stands there is found, and one that is cut wants more.
use Rattle.std.proofs.Common.{◌≡◌, ◌≢◌, ◌∙◌, ℕ, ◌+◌, ◌≤◌, ◌<◌, ◌^◌, Bool, true, false, List, [], ◌∷◌, ◌++◌, length, drop, Option, Some, None, option_map, Ok, refl, sym, ap, subst, arith, append_assoc, length-append, codes}
use Rattle.std.specs.Prelude.{decimal, IfSome, nat_lt}
use Rattle.std.proofs.lemmas.Bool.{ltb-true, ltb-false}
use Rattle.pay_nats.specs.Lines.{content, crlf, sizes, spaced, with_h, with_word}
use Rattle.pay_nats.specs.Frames.{Address, Done, Fault, HasParts, Info, IsFrame, IsMeaning, IsSized, Meaning, Message, Ping, Pong, Sized, Told, Whole, frame_body, frame_bytes, frame_line, meaning_line, message_line, most_line}
use Rattle.pay_nats.specs.Faults.{HasNoNewline, is_newline, most_at}
use Rattle.pay_nats.specs.Reading.{first_line, frame_after, frame_at, frame_by, meaning_of, with_taken}
use Rattle.pay_nats.specs.Subjects.{is_subject}
use Rattle.pay_nats.proofs.Bytes.{no_newline_in, no_newline_of, no_newline_text}
use Rattle.pay_nats.proofs.FirstLines.{line_again, line_front}
use Rattle.pay_nats.proofs.Firsts.{without_front, none_in_both, none_in_front}
use Rattle.pay_nats.proofs.Frontings.{goes_on, most_by, most_front, most_of, most_within}
use Rattle.pay_nats.proofs.LineMeanings.{meaning_again}
use Rattle.pay_nats.proofs.Payloads.{message_again, message_front}

-- what the line of a frame says
unfoldable pub meaning_of_frame : Told → Meaning
meaning_of_frame (Info text) = Whole (Info text)
meaning_of_frame (Message address headers payload) = Sized address (option_map length headers) (length (content headers payload))
meaning_of_frame Ping = Whole Ping
meaning_of_frame Pong = Whole Pong
meaning_of_frame Done = Whole Done
meaning_of_frame (Fault text) = Whole (Fault text)

pub within : (headers : Option (List ℕ)) (payload : List ℕ) → IfSome (option_map length headers) (λ bytes. bytes ≤ length (content headers payload))
within None payload = tt
within (Some headers) payload = omega (arith, length-append headers payload)

sound : (frame : Told) → IsFrame frame → IsMeaning (meaning_of_frame frame)
unfolding meaning_of_frame
sound (Info text) it = (tt, it.parts)
sound (Message address headers payload) it = record { addressed = it.parts.0; within = within headers payload; small = omega (arith, it.parts.1) }
sound Ping it = (tt, tt)
sound Pong it = (tt, tt)
sound Done it = (tt, tt)
sound (Fault text) it = (tt, it.parts)

line_of : (frame : Told) → meaning_line (meaning_of_frame frame) ≡ frame_line frame
unfolding meaning_of_frame
line_of (Info text) = refl
line_of (Message address headers payload) = refl
line_of Ping = refl
line_of Pong = refl
line_of Done = refl
line_of (Fault text) = refl

most_same : (frame : Told) → most_of (meaning_of_frame frame) ≡ most_line frame
unfolding meaning_of_frame
most_same (Info text) = refl
most_same (Message address headers payload) = refl
most_same Ping = refl
most_same Pong = refl
most_same Done = refl
most_same (Fault text) = refl

-- ---- no line has an LF

pub no_newline_word : (word : Option (List ℕ)) (rest : List ℕ) → IfSome word HasNoNewline → HasNoNewline rest → HasNoNewline (with_word word rest)
no_newline_word None rest one e = e
no_newline_word (Some word) rest one e = none_in_both is_newline word (spaced rest) one e

pub no_newline_reply : (reply : Option (List ℕ)) → IfSome reply (λ it. is_subject it ≡ true) → IfSome reply HasNoNewline
no_newline_reply None it = tt
no_newline_reply (Some reply) it = no_newline_of reply it

pub no_newline_sizes : (headers : Option ℕ) (total : ℕ) → IfSome headers (λ bytes. bytes ≤ total) → total < 2 ^ 64 → HasNoNewline (sizes headers total)
no_newline_sizes None total within small = no_newline_in total small
no_newline_sizes (Some bytes) total within small =
    none_in_both is_newline (decimal bytes) (spaced (decimal total)) (no_newline_in bytes (let least : bytes ≤ total = within in omega arith)) (no_newline_in total small)

pub no_newline_message : (address : Address) (headers : Option ℕ) (total : ℕ) → IsSized address headers total → HasNoNewline (message_line address headers total)
no_newline_message address headers total it =
    none_in_both is_newline (with_h headers (codes "MSG ")) (address.subject ++ spaced (decimal address.sid ++ spaced (with_word address.reply (sizes headers total)))) (verb headers)
    (none_in_both is_newline address.subject (spaced (decimal address.sid ++ spaced (with_word address.reply (sizes headers total)))) (no_newline_of address.subject it.addressed.subject)
    (none_in_both is_newline (decimal address.sid) (spaced (with_word address.reply (sizes headers total))) (no_newline_in address.sid it.addressed.sid)
    (no_newline_word address.reply (sizes headers total) (no_newline_reply address.reply it.addressed.reply) (no_newline_sizes headers total it.within it.small))))
  where
    verb : (headers : Option ℕ) → HasNoNewline (with_h headers (codes "MSG "))
    verb None = refl
    verb (Some bytes) = refl

no_newline_meaning : (meaning : Meaning) → IsMeaning meaning → HasNoNewline (meaning_line meaning)
no_newline_meaning (Whole (Info text)) it = no_newline_text text it.1
no_newline_meaning (Whole (Message address headers payload)) it = absurd it.0
no_newline_meaning (Whole Ping) it = refl
no_newline_meaning (Whole Pong) it = refl
no_newline_meaning (Whole Done) it = refl
no_newline_meaning (Whole (Fault text)) it = no_newline_text text it.1
no_newline_meaning (Sized address headers total) it = no_newline_message address headers total it

pub no_newline_line : (frame : Told) → IsFrame frame → HasNoNewline (frame_line frame)
no_newline_line frame it = subst HasNoNewline (line_of frame) (no_newline_meaning (meaning_of_frame frame) (sound frame it))

-- ---- a whole frame

-- what is found of a frame's line
pub line_says : (frame : Told) → IsFrame frame → meaning_of (frame_line frame) ≡ Some (meaning_of_frame frame)
line_says frame it = ap meaning_of (sym (line_of frame)) ∙ meaning_again (meaning_of_frame frame) (sound frame it)

module _ (frame : Told) (it : IsFrame frame) where
  most_is : (rest : List ℕ) → most_at (frame_line frame ++ rest) ≡ most_line frame
  most_is rest = ap (λ (x : List ℕ). most_at (x ++ rest)) (sym (line_of frame)) ∙ (most_by (meaning_of_frame frame) (sound frame it) rest ∙ most_same frame)

  -- what is read after the line of a frame
  line_then : (bytes rest : List ℕ) → bytes ≡ frame_line frame ++ (crlf ++ rest) → frame_at bytes ≡ frame_by (length (frame_line frame)) rest (Some (meaning_of_frame frame))
  line_then bytes rest e =
      let most : most_at bytes ≡ most_line frame = ap most_at e ∙ most_is (crlf ++ rest) in
      let line : first_line bytes ≡ Ok (Some (frame_line frame)) = line_again bytes (frame_line frame) rest e (no_newline_line frame it) (omega (arith, it.line, most)) in
      let back : drop (length (frame_line frame) + 2) bytes ≡ rest = ap (drop (length (frame_line frame) + 2)) e ∙ without_front (frame_line frame) (crlf ++ rest) 2 in
      let says = line_says frame it in
      ap (frame_after bytes) line ∙ rw (back, says) refl

size_alone : (line : List ℕ) → length line + 2 ≡ length (line ++ (crlf ++ []))
size_alone line = sym (length-append line (crlf ++ []))

size_of : (line content : List ℕ) → length line + length content + 4 ≡ length (line ++ (crlf ++ (content ++ crlf)))
size_of line content = omega (arith, length-append line (crlf ++ (content ++ crlf)), length-append content crlf)

frame_of_line : (frame : Told) → IsFrame frame → (more : List ℕ) → frame_by (length (frame_line frame)) (frame_body frame ++ more) (Some (meaning_of_frame frame)) ≡ Ok (Some (frame, length (frame_bytes frame)))
unfolding meaning_of_frame
frame_of_line (Info text) it more = ap (λ (n : ℕ). Ok (Some (Info text, n))) (size_alone (frame_line (Info text)))
frame_of_line (Message address headers payload) it more =
    ap (with_taken (length (frame_line (Message address headers payload)) + length (content headers payload) + 4)) (message_again (frame_body (Message address headers payload) ++ more) more address headers payload it.parts.1 refl)
    ∙ ap (λ (n : ℕ). Ok (Some (Message address headers payload, n))) (size_of (frame_line (Message address headers payload)) (content headers payload))
frame_of_line Ping it more = refl
frame_of_line Pong it more = refl
frame_of_line Done it more = refl
frame_of_line (Fault text) it more = ap (λ (n : ℕ). Ok (Some (Fault text, n))) (size_alone (frame_line (Fault text)))

-- a frame that stands there is found, whatever follows
pub frame_again : (bytes rest : List ℕ) (frame : Told) → IsFrame frame → bytes ≡ frame_bytes frame ++ rest → frame_at bytes ≡ Ok (Some (frame, length (frame_bytes frame)))
frame_again bytes rest frame it e =
    let whole : bytes ≡ frame_line frame ++ (crlf ++ (frame_body frame ++ rest)) = e ∙ append_assoc (frame_line frame) (crlf ++ frame_body frame) rest in
    line_then frame it bytes (frame_body frame ++ rest) whole ∙ frame_of_line frame it rest

-- ---- a frame that is cut

module _ (frame : Told) (it : IsFrame frame) (bytes more : List ℕ) (e : bytes ++ more ≡ frame_bytes frame) (some : 0 < length more) where
  within_line : length bytes < length (frame_line frame) + 2 → frame_at bytes ≡ Ok None
  within_line short =
      let line = frame_line frame in
      let whole : (line ++ 13 ∷ []) ++ (10 ∷ frame_body frame) ≡ bytes ++ more = append_assoc line (13 ∷ []) (10 ∷ frame_body frame) ∙ sym e in
      let front = (goes_on (line ++ 13 ∷ []) (10 ∷ frame_body frame) bytes more whole (omega (arith, short, length-append line (13 ∷ [])))).0 in
      let none : HasNoNewline (line ++ 13 ∷ []) = none_in_both is_newline line (13 ∷ []) (no_newline_line frame it) refl in
      let own : HasNoNewline bytes = none_in_front is_newline bytes (drop (length bytes) (line ++ 13 ∷ [])) (subst HasNoNewline front none) in
      let most : most_at (bytes ++ more) ≡ most_line frame = ap most_at e ∙ most_is frame it (crlf ++ frame_body frame) in
      ap (frame_after bytes) (line_front bytes own (by (nat_lt (length bytes) 5) refl most))
    where
      by : (t : Bool) → nat_lt (length bytes) 5 ≡ t → most_at (bytes ++ more) ≡ most_line frame → length bytes ≤ most_at bytes + 1
      by true few most = omega (arith, ltb-true (length bytes) 5 few, (most_within bytes).1)
      by false many most = omega (arith, short, it.line, most, most_front bytes more (ltb-false (length bytes) 5 many))

  body_cut : (frame : Told) → (rest : List ℕ) → rest ++ more ≡ frame_body frame → HasParts frame → frame_by (length (frame_line frame)) rest (Some (meaning_of_frame frame)) ≡ Ok None
  unfolding meaning_of_frame
  body_cut (Info text) rest e parts = absurd (omega (arith, some, ap length e, length-append rest more))
  body_cut (Message address headers payload) rest e parts =
      ap (with_taken (length (frame_line (Message address headers payload)) + length (content headers payload) + 4))
      (message_front rest address (option_map length headers) (length (content headers payload)) parts.1 (omega (arith, some, ap length e, length-append rest more, length-append (content headers payload) crlf)))
  body_cut Ping rest e parts = absurd (omega (arith, some, ap length e, length-append rest more))
  body_cut Pong rest e parts = absurd (omega (arith, some, ap length e, length-append rest more))
  body_cut Done rest e parts = absurd (omega (arith, some, ap length e, length-append rest more))
  body_cut (Fault text) rest e parts = absurd (omega (arith, some, ap length e, length-append rest more))

  within_body : length (frame_line frame) + 2 ≤ length bytes → frame_at bytes ≡ Ok None
  within_body long =
      let line = frame_line frame in
      let whole : bytes ++ more ≡ (line ++ crlf) ++ frame_body frame = e ∙ sym (append_assoc line crlf (frame_body frame)) in
      let parts = goes_on bytes more (line ++ crlf) (frame_body frame) whole (omega (arith, long, length-append line crlf)) in
      let rest = drop (length (line ++ crlf)) bytes in
      line_then frame it bytes rest (parts.0 ∙ append_assoc line crlf rest) ∙ body_cut frame rest parts.1 it.parts

-- wants more
pub frame_front : (bytes more : List ℕ) (frame : Told) → IsFrame frame → more ≢ [] → bytes ++ more ≡ frame_bytes frame → frame_at bytes ≡ Ok None
frame_front bytes [] frame it some e = absurd (some refl)
frame_front bytes (x ∷ more) frame it some e = by (nat_lt (length bytes) (length (frame_line frame) + 2)) refl
  where
    by : (t : Bool) → nat_lt (length bytes) (length (frame_line frame) + 2) ≡ t → frame_at bytes ≡ Ok None
    by true short = within_line frame it bytes (x ∷ more) e (omega arith) (ltb-true _ _ short)
    by false long = within_body frame it bytes (x ∷ more) e (omega arith) (ltb-false _ _ long)
