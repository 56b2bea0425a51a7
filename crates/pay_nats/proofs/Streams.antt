-- Frames one after another.
use Rattle.std.proofs.Common.{◌≡◌, ◌∙◌, ℕ, ◌+◌, ◌≤◌, [], ◌∷◌, ◌++◌, length, Some, refl, sym, ap, arith, length-append}
use Rattle.std.specs.List.{flat_map}
use Rattle.std.proofs.lemmas.List.{append_cancel_left}
use Rattle.pay_nats.specs.Frames.{Done, Fault, Info, Meaning, Message, Ping, Pong, Sized, Told, Whole, frame_body, frame_bytes, frame_line}
use Rattle.pay_nats.specs.Laws.{FramesAreToldApart, LinesTellLengths, StreamsAreReadInOneWay}
use Rattle.pay_nats.specs.Lines.{content, crlf}
use Rattle.pay_nats.specs.Reading.{meaning_of}
use Rattle.pay_nats.proofs.Framed.{same_found}
use Rattle.pay_nats.proofs.Reframed.{frame_again, meaning_of_frame, line_says}

pub apart : FramesAreToldApart
apart one other a b is is_other e =
    let first = frame_again (frame_bytes one ++ a) a one is refl in
    let second = frame_again (frame_bytes one ++ a) b other is_other e in
    let same = (same_found one other (length (frame_bytes one)) (length (frame_bytes other)) (sym first ∙ second)).0 in
    (same, append_cancel_left (frame_bytes one) a b (e ∙ ap (λ (x : Told). frame_bytes x ++ b) (sym same)))

-- a frame has bytes
some_bytes : (frame : Told) → 2 ≤ length (frame_bytes frame)
some_bytes frame = omega (arith, length-append (frame_line frame) (crlf ++ frame_body frame))

pub streams : StreamsAreReadInOneWay
streams [] [] all all_others e = refl
streams [] (other ∷ others) all all_others e = absurd (omega (arith, some_bytes other, ap length e, length-append (frame_bytes other) (flat_map frame_bytes others)))
streams (one ∷ these) [] all all_others e = absurd (omega (arith, some_bytes one, ap length e, length-append (frame_bytes one) (flat_map frame_bytes these)))
streams (one ∷ these) (other ∷ others) all all_others e =
    let first = apart one other (flat_map frame_bytes these) (flat_map frame_bytes others) all.0 all_others.0 e in
    let rest = streams these others all.1 all_others.1 first.1 in
    cc (first.0, rest)

-- how many bytes stand after a line that says this
rest_size : Meaning → ℕ
rest_size (Whole frame) = 0
rest_size (Sized address headers total) = total + 2

body_size : (frame : Told) → length (frame_body frame) ≡ rest_size (meaning_of_frame frame)
unfolding meaning_of_frame rest_size
body_size (Info text) = refl
body_size (Message address headers payload) = length-append (content headers payload) crlf
body_size Ping = refl
body_size Pong = refl
body_size Done = refl
body_size (Fault text) = refl

size : (frame : Told) → length (frame_bytes frame) ≡ length (frame_line frame) + 2 + rest_size (meaning_of_frame frame)
size frame = omega (arith, length-append (frame_line frame) (crlf ++ frame_body frame), body_size frame)

pub lengths : LinesTellLengths
lengths one other is is_other e =
    let same : meaning_of_frame one ≡ meaning_of_frame other = same_meaning (meaning_of_frame one) (meaning_of_frame other) (sym (line_says one is) ∙ (ap meaning_of e ∙ line_says other is_other)) in
    size one ∙ (cc (ap length e, ap rest_size same) ∙ sym (size other))
  where
    same_meaning : (a b : Meaning) → Some a ≡ Some b → a ≡ b
    same_meaning a b e = cc
