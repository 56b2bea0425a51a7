-- A message is found by its sizes, and its content stands there.
use Rattle.std.proofs.Common.{◌≡◌, ◌∙◌, ℕ, ◌+◌, ◌≤◌, ◌<◌, Bool, true, false, cond, List, ◌++◌, length, take, drop, Option, Some, None, option_map, Result, Ok, Err, refl, sym, ap, subst, arith, append_assoc, length-append, take-append-drop, take_at, drop_at, length-take-le, drop-drop}
use Rattle.std.specs.Prelude.{nat_lt, IfSome}
use Rattle.std.specs.Str.{bytes_eq}
use Rattle.std.proofs.lemmas.Bool.{le-ltb, lt-ltb, ltb-false}
use Rattle.std.proofs.lemmas.Slice.Eq.{bytes_eq-Decides}
use Rattle.pay_nats.specs.Lines.{content, crlf}
use Rattle.pay_nats.specs.Frames.{Address, Message, Told}
use Rattle.pay_nats.specs.Reading.{message_at, message_of}
use Rattle.pay_nats.specs.declared.frame.FrameFault.{FrameFault}
use Rattle.pay_nats.specs.declared.frame.FrameFault.TheVariants.{LongPayload, Unended}
use Rattle.pay_nats.specs.declared.limits.TheConstants.{MOST_PAYLOAD_BYTES}

-- a message with these sizes, whose content stands at the front
pub record MessageIn (rest : List ℕ) (address : Address) (sizes : Option ℕ) (total : ℕ) (frame : Told) : Type 0 where
  pub headers : Option (List ℕ)
  pub payload : List ℕ
  pub frame_is : frame ≡ Message address headers payload
  pub sizes_are : option_map length headers ≡ sizes
  pub total_is : length (content headers payload) ≡ total
  pub most : total ≤ MOST_PAYLOAD_BYTES
  pub whole : rest ≡ content headers payload ++ (crlf ++ drop (total + 2) rest)

same_frame : (a b : Told) → ◌≡◌ {A = Result (Option Told) FrameFault} (Ok (Some a)) (Ok (Some b)) → a ≡ b
same_frame a b e = cc

-- the content of the frame that is made of some bytes is those
made : (rest bytes : List ℕ) (address : Address) (sizes : Option ℕ) (frame : Told) → IfSome sizes (λ n. n ≤ length bytes) → length bytes ≤ MOST_PAYLOAD_BYTES → message_of address sizes bytes ≡ frame
    → rest ≡ bytes ++ (crlf ++ drop (length bytes + 2) rest) → MessageIn rest address sizes (length bytes) frame
made rest bytes address None frame within most is e = record { headers = None; payload = bytes; frame_is = sym is; sizes_are = refl; total_is = refl; most = most; whole = e }
made rest bytes address (Some n) frame within most is e =
    let both : take n bytes ++ drop n bytes ≡ bytes = take-append-drop n bytes in
    record {
      headers = Some (take n bytes);
      payload = drop n bytes;
      frame_is = sym is;
      sizes_are = ap (λ (x : ℕ). Some x) (length-take-le n bytes within);
      total_is = ap length both;
      most = most;
      whole = e ∙ ap (λ (x : List ℕ). x ++ (crlf ++ drop (length bytes + 2) rest)) (sym both);
    }

split_twice : (rest : List ℕ) (total : ℕ) → take 2 (drop total rest) ≡ crlf → rest ≡ take total rest ++ (crlf ++ drop (total + 2) rest)
split_twice rest total e =
    sym (take-append-drop total rest) ∙ ap (λ (x : List ℕ). take total rest ++ x) (sym (take-append-drop 2 (drop total rest)) ∙ cc (e, drop-drop 2 total rest))

-- what is found stands there
pub message_is : (rest : List ℕ) (address : Address) (sizes : Option ℕ) (total : ℕ) (frame : Told) → IfSome sizes (λ n. n ≤ total) → message_at address sizes total rest ≡ Ok (Some frame) → MessageIn rest address sizes total frame
unfolding message_at
message_is rest address sizes total frame within e = by (nat_lt MOST_PAYLOAD_BYTES total) (nat_lt (length rest) (total + 2)) (bytes_eq (take 2 (drop total rest)) crlf) refl refl refl e
  where
    by : (a b c : Bool) → nat_lt MOST_PAYLOAD_BYTES total ≡ a → nat_lt (length rest) (total + 2) ≡ b → bytes_eq (take 2 (drop total rest)) crlf ≡ c
        → cond a (Err LongPayload) (cond b (Ok None) (cond c (Ok (Some (message_of address sizes (take total rest)))) (Err Unended))) ≡ Ok (Some frame) → MessageIn rest address sizes total frame
    by true b c _ _ _ e = absurd cc
    by false true c _ _ _ e = absurd cc
    by false false true small long ended e =
        let size : length (take total rest) ≡ total = length-take-le total rest (omega (arith, ltb-false _ _ long)) in
        let crlf_is = (bytes_eq-Decides (take 2 (drop total rest)) crlf).0 ended in
        subst (λ (n : ℕ). MessageIn rest address sizes n frame) size
        (made rest (take total rest) address sizes frame (rw size within) (omega (arith, size, ltb-false _ _ small)) (same_frame (message_of address sizes (take total rest)) frame e)
        (rw size (split_twice rest total crlf_is)))
    by false false false _ _ _ e = absurd cc

made_again : (address : Address) (headers : Option (List ℕ)) (payload : List ℕ) → message_of address (option_map length headers) (content headers payload) ≡ Message address headers payload
made_again address None payload = refl
made_again address (Some headers) payload = rw (take_at headers payload (length headers) refl, drop_at headers payload (length headers) refl) refl

-- what stands there is found
pub message_again : (rest more : List ℕ) (address : Address) (headers : Option (List ℕ)) (payload : List ℕ) → length (content headers payload) ≤ MOST_PAYLOAD_BYTES → rest ≡ (content headers payload ++ crlf) ++ more
    → message_at address (option_map length headers) (length (content headers payload)) rest ≡ Ok (Some (Message address headers payload))
unfolding message_at
message_again rest more address headers payload most e =
    let whole : rest ≡ content headers payload ++ (crlf ++ more) = e ∙ append_assoc (content headers payload) crlf more in
    let size : length rest ≡ length (content headers payload) + (2 + length more) = ap length whole ∙ (length-append (content headers payload) (crlf ++ more) ∙ omega arith) in
    let small : nat_lt MOST_PAYLOAD_BYTES (length (content headers payload)) ≡ false = le-ltb _ _ most in
    let long : nat_lt (length rest) (length (content headers payload) + 2) ≡ false = le-ltb _ _ (omega (arith, size)) in
    let front : take (length (content headers payload)) rest ≡ content headers payload = ap (take (length (content headers payload))) whole ∙ take_at (content headers payload) (crlf ++ more) _ refl in
    let ended : drop (length (content headers payload)) rest ≡ crlf ++ more = ap (drop (length (content headers payload))) whole ∙ drop_at (content headers payload) (crlf ++ more) _ refl in
    rw (small, long, ended, front) (ap (λ (x : Told). Ok (Some x)) (made_again address headers payload))

-- a front wants more
pub message_front : (rest : List ℕ) (address : Address) (sizes : Option ℕ) (total : ℕ) → total ≤ MOST_PAYLOAD_BYTES → length rest < total + 2 → message_at address sizes total rest ≡ Ok None
unfolding message_at
message_front rest address sizes total most short =
    rw (le-ltb MOST_PAYLOAD_BYTES total most, lt-ltb (length rest) (total + 2) short) refl
