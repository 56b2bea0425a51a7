-- What is taken of a server, up to one newline after another.
use Rattle.std.proofs.Common.{◌≡◌, ℕ, ◌==◌, Bool, true, false, if◌then◌else◌, List, [], ◌∷◌, ◌++◌, append_assoc, append-nil, length, drop, refl, sym, ap, ◌∙◌, subst, Option, Some, None, IfSome, Ok, Err}
use Rattle.std.specs.Prelude.{Result, OnOk}
use Rattle.std.specs.Io.BufRead.{take_through, drop_through, DropsThrough}
use Rattle.std.proofs.Math.Seq.{drop-length}
use Rattle.std.specs.List.{AllByRecursion, flat_map}
use Rattle.pay_nats.specs.Frames.{IsFrame, Told, StandsAt, frame_bytes}
use Rattle.pay_jetstream.specs.Answered.{IsAnswer, IsAnswerIn, IsAnswered}
use Rattle.pay_jetstream.specs.Given.{IsGivenBy}
use Rattle.pay_jetstream.specs.Taken.{GivesIn, HasTakenFrames, IsWhole, Takes}

through : (byte : ℕ) (xs : List ℕ) → take_through byte xs ++ drop_through byte xs ≡ xs
through byte [] = refl
through byte (x ∷ xs) = by (x == byte) refl (through byte xs)
  where
    by : (b : Bool) → (x == byte) ≡ b → take_through byte xs ++ drop_through byte xs ≡ xs → take_through byte (x ∷ xs) ++ drop_through byte (x ∷ xs) ≡ x ∷ xs
    by true e later = rw e refl
    by false e later = rw e (ap (λ l. x ∷ l) later)

pub takes_nothing : (before : Option (List ℕ)) (held : List ℕ) → held ≡ [] → Takes before before held
takes_nothing None held none = tt
takes_nothing (Some all) held none = (all, refl, ap (λ l. l ++ all) (sym none))

pub takes_on : (first before after : Option (List ℕ)) (held now : List ℕ) → Takes first before held → IfSome before (λ xs. now ≡ held ++ take_through 10 xs) → DropsThrough before after 10 → Takes first after now
takes_on None before after held now takes reads drops = tt
takes_on (Some all) before after held now takes reads drops =
    let rest = takes.0 in
    let read = subst (λ (o : Option (List ℕ)). IfSome o (λ xs. now ≡ held ++ take_through 10 xs)) takes.1 reads in
    let left = subst (λ (o : Option (List ℕ)). DropsThrough o after 10) takes.1 drops in (
      drop_through 10 rest,
      left,
      takes.2 ∙ ap (λ l. held ++ l) (sym (through 10 rest)) ∙ sym (append_assoc held (take_through 10 rest) (drop_through 10 rest)) ∙ ap (λ l. l ++ drop_through 10 rest) (sym read),
    )

pub on_ok : {A E : Type 0} (r : Result A E) (P : Type 0) → P → OnOk r P
on_ok (Ok a) P p = p
on_ok (Err e) P p = tt

pub whole_if : {E : Type 0} (r : Result (Unit {0}) E) (held : List ℕ) (frame : Told) (len : ℕ) → OnOk r (len ≡ length held) → StandsAt held frame len → OnOk r (IsWhole held)
whole_if (Ok a) held frame len all stands = (
  frame,
  stands.sound,
  stands.whole ∙ ap (λ n. frame_bytes frame ++ drop n held) all ∙ ap (λ l. frame_bytes frame ++ l) (drop-length held) ∙ append-nil (frame_bytes frame),
)
whole_if (Err e) held frame len all stands = tt

-- ---- one frame more

all_more : (frames : List Told) (frame : Told) → AllByRecursion IsFrame frames → IsFrame frame → AllByRecursion IsFrame (frames ++ frame ∷ [])
all_more [] frame all one = (one, tt)
all_more (f ∷ frames) frame all one = (all.0, all_more frames frame all.1 one)

bytes_more : (frames : List Told) (frame : Told) → flat_map frame_bytes (frames ++ frame ∷ []) ≡ flat_map frame_bytes frames ++ frame_bytes frame
bytes_more [] frame = append-nil (frame_bytes frame)
bytes_more (f ∷ frames) frame = ap (λ l. frame_bytes f ++ l) (bytes_more frames frame) ∙ sym (append_assoc (frame_bytes f) (flat_map frame_bytes frames) (frame_bytes frame))

-- after whole frames, a whole one was taken
pub took_frame : (began before after : Option (List ℕ)) (held : List ℕ) → HasTakenFrames began before → Takes before after held → IsWhole held → HasTakenFrames began after
took_frame None before after held taken takes whole = tt
took_frame (Some all) before after held taken takes whole =
    let frames = taken.0 in
    let rest = taken.1 in
    let are = taken.3 in
    let left = subst (λ (o : Option (List ℕ)). Takes o after held) taken.2 takes in
    let frame = whole.0 in (
      frames ++ frame ∷ [],
      left.0,
      left.1,
      record {
        sound = all_more frames frame are.sound whole.1;
        whole = are.whole ∙ ap (λ l. flat_map frame_bytes frames ++ l) (left.2 ∙ ap (λ l. l ++ left.0) whole.2)
            ∙ sym (append_assoc (flat_map frame_bytes frames) (frame_bytes frame) left.0) ∙ ap (λ l. l ++ left.0) (sym (bytes_more frames frame));
      },
    )

-- and one that gives a line is one that the server sent
pub given_line : (began before after : Option (List ℕ)) (held : List ℕ) (sid place : ℕ) (line : List ℕ) → HasTakenFrames began before → Takes before after held → GivesIn sid held place line → IsGivenBy (sid, began) place line
given_line None before after held sid place line taken takes gives = tt
given_line (Some all) before after held sid place line taken takes gives =
    let frames = taken.0 in
    let are = taken.3 in
    let left = subst (λ (o : Option (List ℕ)). Takes o after held) taken.2 takes in
    let frame = gives.0 in
    let rest = gives.1 in
    record {
      before = frames;
      frame = frame;
      rest = rest ++ left.0;
      are = record {
        sound = are.sound;
        whole = are.whole ∙ ap (λ l. flat_map frame_bytes frames ++ l) (left.2 ∙ ap (λ l. l ++ left.0) gives.3 ∙ append_assoc (frame_bytes frame) rest left.0);
      };
      sound = gives.2;
      gives = gives.4;
    }

-- ---- an answer

pub took_none : (began : Option (List ℕ)) → HasTakenFrames began began
took_none None = tt
took_none (Some all) = ([], all, refl, record { sound = tt; whole = refl })

pub answered : {A E : Type 0} (r : Result A E) (began before after : Option (List ℕ)) (held payload answer : List ℕ) → HasTakenFrames began before → Takes before after held → IsAnswerIn held payload
    → OnOk r (answer ≡ payload) → OnOk r (IsAnswered began answer)
answered (Err e) began before after held payload answer taken takes heard same = tt
answered (Ok a) None before after held payload answer taken takes heard same = tt
answered (Ok a) (Some all) before after held payload answer taken takes heard same =
    let are = taken.3 in
    let left = subst (λ (o : Option (List ℕ)). Takes o after held) taken.2 takes in
    let frame = heard.0 in (
      taken.0,
      frame,
      heard.1 ++ left.0,
      record {
        sound = are.sound;
        whole = are.whole ∙ ap (λ l. flat_map frame_bytes taken.0 ++ l) (left.2 ∙ ap (λ l. l ++ left.0) heard.3 ∙ append_assoc (frame_bytes frame) heard.1 left.0);
      },
      heard.2,
      subst (IsAnswer frame) (sym same) heard.4,
    )
