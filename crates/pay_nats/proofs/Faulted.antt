-- Each fault has its reason, and each reason makes the fault.
use Rattle.std.proofs.Common.{◌≡◌, ◌≢◌, ◌∙◌, ℕ, ◌+◌, ◌-◌, ◌≤◌, ◌<◌, Bool, true, false, cond, not, List, [], ◌∷◌, ◌++◌, length, take, drop, get_or, Option, Some, None, Result, Ok, Err, refl, sym, ap, subst, arith, append_assoc, length-append, take-take, take-append-drop, length-take-le, get_or-take, take_at, true≢false}
use Rattle.std.specs.Prelude.{◌==◌, nat_lt}
use Rattle.std.specs.List.{after_first, list_any, position_or_len}
use Rattle.std.specs.Str.{bytes_eq}
use Rattle.std.proofs.lemmas.Bool.{eqb-false, eqb-true, le-ltb, lt-ltb, ltb-true, ltb-false, false_from_ne_true, ne_eqb}
use Rattle.std.proofs.lemmas.List.{append_cancel_right}
use Rattle.std.proofs.lemmas.List.Folds.{list_any_at}
use Rattle.std.proofs.lemmas.List.Sums.{split_at_first, passes_at_first, prefix_len-le-length}
use Rattle.std.proofs.lemmas.Slice.Eq.{bytes_eq-Decides}
use Rattle.pay_nats.specs.Lines.{crlf}
use Rattle.pay_nats.specs.Faults.{Because, HasLongLine, HasLongPayload, HasMessage, HasNoEnd, HasNoNewline, HasStrangeLine, is_newline, most_at}
use Rattle.pay_nats.specs.Frames.{Address, IsMeaning, IsSized, Meaning, Sized, Told, Whole, meaning_line, message_line}
use Rattle.pay_nats.specs.Reading.{first_line, frame_after, frame_at, frame_by, line_to, meaning_of, message_at, message_of, with_taken, without_cr}
use Rattle.pay_nats.specs.declared.frame.FrameFault.{FrameFault}
use Rattle.pay_nats.specs.declared.frame.FrameFault.TheVariants.{Line, LongLine, LongPayload, Unended}
use Rattle.pay_nats.specs.declared.limits.TheConstants.{MOST_FRAME_BYTES, MOST_LINE_BYTES, MOST_PAYLOAD_BYTES}
use Rattle.pay_nats.proofs.FirstLines.{LineAt, cr_again, cr_is, line_again, line_is}
use Rattle.pay_nats.proofs.Firsts.{without_front, first_at, none_before, none_in_both, none_in_front}
use Rattle.pay_nats.proofs.Framed.{most_message}
use Rattle.pay_nats.proofs.Frontings.{most_by, most_within}
use Rattle.pay_nats.proofs.LineMeanings.{meaning_again, meaning_is}
use Rattle.pay_nats.proofs.Reframed.{no_newline_message}

-- ---- the reason of a fault

fault_is : {A : Type 0} (a b : FrameFault) → ◌≡◌ {A = Result A FrameFault} (Err a) (Err b) → a ≡ b
fault_is a b e = cc

ok_err : {A : Type 0} (a : A) (fault : FrameFault) → ◌≡◌ {A = Result A FrameFault} (Ok a) (Err fault) → ⊥
ok_err a fault e = cc

no_cr : (front : List ℕ) (fault : FrameFault) → without_cr front ≡ Err fault → (fault ≡ Line) × ((line : List ℕ) → front ≢ line ++ 13 ∷ [])
no_cr front fault e = (by (bytes_eq (drop (length front - 1) front) (13 ∷ [])) e, λ line is. ok_err (Some line) fault (sym (ap without_cr is ∙ cr_again line) ∙ e))
  where
    by : (t : Bool) → cond t (Ok (Some (take (length front - 1) front))) (Err Line) ≡ Err fault → fault ≡ Line
    by true e = absurd (ok_err (Some (take (length front - 1) front)) fault e)
    by false e = sym (fault_is Line fault e)

-- of the line
line_fault : (bytes : List ℕ) (fault : FrameFault) → first_line bytes ≡ Err fault → Because fault bytes
unfolding first_line
line_fault bytes fault e = by (nat_lt (most_at bytes + 1) (position_or_len is_newline bytes)) refl (position_or_len is_newline bytes == length bytes) refl e
  where
    long : nat_lt (most_at bytes + 1) (position_or_len is_newline bytes) ≡ true → HasLongLine bytes
    long is =
        let past : most_at bytes + 1 < position_or_len is_newline bytes = ltb-true _ _ is in
        let none : HasNoNewline (take (position_or_len is_newline bytes) bytes) = none_before is_newline bytes in
        let front : take (most_at bytes + 2) (take (position_or_len is_newline bytes) bytes) ≡ take (most_at bytes + 2) bytes = take-take (most_at bytes + 2) (position_or_len is_newline bytes) bytes (omega arith) in
        record {
          many = omega (arith, prefix_len-le-length (λ b. not (is_newline b)) bytes);
          none_ends = subst HasNoNewline front (none_in_front is_newline (take (most_at bytes + 2) (take (position_or_len is_newline bytes) bytes)) (drop (most_at bytes + 2) (take (position_or_len is_newline bytes) bytes))
              (subst HasNoNewline (sym (take-append-drop (most_at bytes + 2) (take (position_or_len is_newline bytes) bytes))) none));
        }

    by : (long : Bool) → nat_lt (most_at bytes + 1) (position_or_len is_newline bytes) ≡ long → (none : Bool) → (position_or_len is_newline bytes == length bytes) ≡ none
        → cond long (Err LongLine) (cond none (Ok None) (without_cr (take (position_or_len is_newline bytes) bytes))) ≡ Err fault → Because fault bytes
    by true is none _ e = subst (λ (f : FrameFault). Because f bytes) (fault_is LongLine fault e) (long is)
    by false _ true _ e = absurd cc
    by false short false some e =
        let it = no_cr (take (position_or_len is_newline bytes) bytes) fault e in
        let apart : position_or_len is_newline bytes ≢ length bytes = eqb-false _ _ some in
        let within : position_or_len is_newline bytes < length bytes = omega (arith, apart, prefix_len-le-length (λ b. not (is_newline b)) bytes) in
        let newline : get_or bytes (position_or_len is_newline bytes) 0 ≡ 10 = eqb-true _ _ (passes_at_first is_newline bytes 0 within) in
        let whole = split_at_first is_newline bytes 0 within in
        let taken : length (take (position_or_len is_newline bytes) bytes) ≡ position_or_len is_newline bytes = length-take-le (position_or_len is_newline bytes) bytes (omega arith) in
        subst (λ (f : FrameFault). Because f bytes) (sym it.0) (record {
          text = take (position_or_len is_newline bytes) bytes;
          rest = after_first is_newline bytes;
          whole = whole ∙ ap (λ (n : ℕ). take (position_or_len is_newline bytes) bytes ++ n ∷ after_first is_newline bytes) newline;
          first = none_before is_newline bytes;
          short = omega (arith, taken, ltb-false _ _ short);
          strange = λ meaning is. it.1 (meaning_line meaning);
        })

-- of a line that says nothing
strange_line : (bytes line : List ℕ) → LineAt bytes line → meaning_of line ≡ None → HasStrangeLine bytes
strange_line bytes line at none =
    record {
      text = line ++ 13 ∷ [];
      rest = drop (length line + 2) bytes;
      whole = at.whole ∙ sym (append_assoc line (13 ∷ []) (10 ∷ drop (length line + 2) bytes));
      first = none_in_both is_newline line (13 ∷ []) at.first refl;
      short = omega (arith, at.short, length-append line (13 ∷ []));
      strange = λ meaning is e. some_none meaning (sym (ap meaning_of (append_cancel_right line (meaning_line meaning) (13 ∷ []) e) ∙ meaning_again meaning is) ∙ none);
    }
  where
    some_none : (meaning : Meaning) → Some meaning ≡ None → ⊥
    some_none meaning e = cc

module _ (bytes line : List ℕ) (at : LineAt bytes line) where
  -- of a message
  payload_fault : (address : Address) (headers : Option ℕ) (total : ℕ) (fault : FrameFault) → meaning_of line ≡ Some (Sized address headers total)
      → message_at address headers total (drop (length line + 2) bytes) ≡ Err fault → Because fault bytes
  unfolding message_at
  payload_fault address headers total fault is e = by (nat_lt MOST_PAYLOAD_BYTES total) (nat_lt (length rest) (total + 2)) (bytes_eq (take 2 (drop total rest)) crlf) refl refl refl e
    where
      rest : List ℕ
      rest = drop (length line + 2) bytes

      says : IsSized address headers total × (line ≡ message_line address headers total)
      says = meaning_is line (Sized address headers total) is

      message : HasMessage bytes total (drop (length line + 2) bytes)
      message = record {
        address = address;
        headers = headers;
        sized = says.0;
        short = subst (λ (x : List ℕ). length x ≤ MOST_LINE_BYTES) says.1 (omega (arith, at.short, most_message bytes line address headers total at says));
        whole = at.whole ∙ ap (λ (x : List ℕ). x ++ (crlf ++ drop (length line + 2) bytes)) says.1;
      }

      by : (a b c : Bool) → nat_lt MOST_PAYLOAD_BYTES total ≡ a → nat_lt (length (drop (length line + 2) bytes)) (total + 2) ≡ b → bytes_eq (take 2 (drop total (drop (length line + 2) bytes))) crlf ≡ c
          → cond a (Err LongPayload) (cond b (Ok None) (cond c (Ok (Some (message_of address headers (take total (drop (length line + 2) bytes))))) (Err Unended))) ≡ Err fault → Because fault bytes
      by true b c long _ _ e = subst (λ (f : FrameFault). Because f bytes) (fault_is LongPayload fault e) (total, drop (length line + 2) bytes, message, ltb-true _ _ long)
      by false true c _ _ _ e = absurd cc
      by false false true _ _ _ e = absurd cc
      by false false false few all unended e =
          subst (λ (f : FrameFault). Because f bytes) (fault_is Unended fault e) (record {
            total = total;
            rest = drop (length line + 2) bytes;
            message = message;
            few = ltb-false _ _ few;
            all = ltb-false _ _ all;
            unended = λ same. true≢false (sym ((bytes_eq-Decides (take 2 (drop total (drop (length line + 2) bytes))) crlf).1 same) ∙ unended);
          })

  taken_fault : (n : ℕ) (r : Result (Option Told) FrameFault) (fault : FrameFault) → with_taken n r ≡ Err fault → r ≡ Err fault
  taken_fault n (Err it) fault e = ap (λ (f : FrameFault). Err f) (fault_is it fault e)
  taken_fault n (Ok None) fault e = absurd cc
  taken_fault n (Ok (Some it)) fault e = absurd cc

  said_fault : (o : Option Meaning) → meaning_of line ≡ o → (fault : FrameFault) → frame_by (length line) (drop (length line + 2) bytes) o ≡ Err fault → Because fault bytes
  said_fault None is fault e = subst (λ (f : FrameFault). Because f bytes) (fault_is Line fault e) (strange_line bytes line at is)
  said_fault (Some (Whole frame)) is fault e = absurd cc
  said_fault (Some (Sized address headers total)) is fault e =
      payload_fault address headers total fault is (taken_fault (length line + total + 4) (message_at address headers total (drop (length line + 2) bytes)) fault e)

after_fault : (bytes : List ℕ) (r : Result (Option (List ℕ)) FrameFault) → first_line bytes ≡ r → (fault : FrameFault) → frame_after bytes r ≡ Err fault → Because fault bytes
after_fault bytes (Err it) is fault e = subst (λ (f : FrameFault). Because f bytes) (fault_is it fault e) (line_fault bytes it is)
after_fault bytes (Ok None) is fault e = absurd cc
after_fault bytes (Ok (Some line)) is fault e = said_fault bytes line (line_is bytes line is) (meaning_of line) refl fault e

-- a fault has its reason
pub reason : (bytes : List ℕ) (fault : FrameFault) → frame_at bytes ≡ Err fault → Because fault bytes
reason bytes fault e = after_fault bytes (first_line bytes) refl fault e

-- ---- and each reason makes its fault

-- an LF that is not within a front stands after it
past_front : (bytes : List ℕ) (n : ℕ) → n ≤ length bytes → HasNoNewline (take n bytes) → n ≤ position_or_len is_newline bytes
past_front bytes n long none = by (nat_lt (position_or_len is_newline bytes) n) refl
  where
    by : (t : Bool) → nat_lt (position_or_len is_newline bytes) n ≡ t → n ≤ position_or_len is_newline bytes
    by false is = ltb-false _ _ is
    by true is =
        let before : position_or_len is_newline bytes < n = ltb-true _ _ is in
        let newline : is_newline (get_or bytes (position_or_len is_newline bytes) 0) ≡ true = passes_at_first is_newline bytes 0 (omega arith) in
        let same : get_or (take n bytes) (position_or_len is_newline bytes) 0 ≡ get_or bytes (position_or_len is_newline bytes) 0 = get_or-take n bytes (position_or_len is_newline bytes) 0 before in
        let some : list_any is_newline (take n bytes) ≡ true = list_any_at is_newline (take n bytes) (position_or_len is_newline bytes) 0 (omega (arith, length-take-le n bytes long)) (ap is_newline same ∙ newline) in
        absurd (true≢false (sym some ∙ none))

long_line : (bytes : List ℕ) → HasLongLine bytes → frame_at bytes ≡ Err LongLine
unfolding first_line
long_line bytes it =
    let past = past_front bytes (most_at bytes + 2) it.many it.none_ends in
    let long : nat_lt (most_at bytes + 1) (position_or_len is_newline bytes) ≡ true = lt-ltb _ _ (omega arith) in
    rw long refl

-- a line that says nothing, also one without a CR
no_meaning : (bytes text : List ℕ) → ((meaning : Meaning) → IsMeaning meaning → text ≢ meaning_line meaning ++ 13 ∷ []) → frame_after bytes (without_cr text) ≡ Err Line
no_meaning bytes text strange = by (without_cr text) refl
  where
    by : (r : Result (Option (List ℕ)) FrameFault) → without_cr text ≡ r → frame_after bytes r ≡ Err Line
    by (Err fault) is = ap (λ (f : FrameFault). Err f) (no_cr text fault is).0
    by (Ok None) is = absurd (never (bytes_eq (drop (length text - 1) text) (13 ∷ [])) is)
      where
        never : (t : Bool) → cond t (Ok (Some (take (length text - 1) text))) (Err Line) ≡ Ok None → ⊥
        never true e = cc
        never false e = cc
    by (Ok (Some line)) is = said (meaning_of line) refl
      where
        said : (o : Option Meaning) → meaning_of line ≡ o → frame_after bytes (Ok (Some line)) ≡ Err Line
        said None none = ap (frame_by (length line) (drop (length line + 2) bytes)) none
        said (Some meaning) some =
            let it = meaning_is line meaning some in
            absurd (strange meaning it.0 (cr_is text line is ∙ ap (λ (x : List ℕ). x ++ 13 ∷ []) it.1))

strange : (bytes : List ℕ) → HasStrangeLine bytes → frame_at bytes ≡ Err Line
unfolding first_line
strange bytes it =
    let at : position_or_len is_newline bytes ≡ length it.text = ap (position_or_len is_newline) it.whole ∙ first_at is_newline it.text 10 it.rest it.first refl in
    let all : length bytes ≡ length it.text + (1 + length it.rest) = ap length it.whole ∙ (length-append it.text (10 ∷ it.rest) ∙ omega arith) in
    let fits : nat_lt (most_at bytes + 1) (length it.text) ≡ false = le-ltb _ _ it.short in
    let some : (length it.text == length bytes) ≡ false = ne_eqb _ _ (λ is. absurd (omega (arith, all, is))) in
    let front : take (length it.text) bytes ≡ it.text = ap (take (length it.text)) it.whole ∙ take_at it.text (10 ∷ it.rest) (length it.text) refl in
    ap (λ (n : ℕ). frame_after bytes (line_to bytes n)) at ∙ rw (fits, some, front) (no_meaning bytes it.text it.strange)

-- what is read of a message's line
message_read : (bytes rest : List ℕ) (total : ℕ) (it : HasMessage bytes total rest) → frame_at bytes ≡ with_taken (length (message_line it.address it.headers total) + total + 4) (message_at it.address it.headers total rest)
message_read bytes rest total it =
    let line = message_line it.address it.headers total in
    let most : most_at bytes ≡ MOST_LINE_BYTES = ap most_at it.whole ∙ most_by (Sized it.address it.headers total) it.sized (crlf ++ rest) in
    let found : first_line bytes ≡ Ok (Some line) = line_again bytes line rest it.whole (no_newline_message it.address it.headers total it.sized) (omega (arith, it.short, most)) in
    let back : drop (length line + 2) bytes ≡ rest = ap (drop (length line + 2)) it.whole ∙ without_front line (crlf ++ rest) 2 in
    let says : meaning_of line ≡ Some (Sized it.address it.headers total) = meaning_again (Sized it.address it.headers total) it.sized in
    ap (frame_after bytes) found ∙ rw (back, says) refl

long_payload : (bytes : List ℕ) → HasLongPayload bytes → frame_at bytes ≡ Err LongPayload
unfolding message_at
long_payload bytes it =
    let long : nat_lt MOST_PAYLOAD_BYTES it.0 ≡ true = lt-ltb _ _ it.3 in
    message_read bytes it.1 it.0 it.2 ∙ rw long refl

no_end : (bytes : List ℕ) → HasNoEnd bytes → frame_at bytes ≡ Err Unended
unfolding message_at
no_end bytes it =
    let few : nat_lt MOST_PAYLOAD_BYTES it.total ≡ false = le-ltb _ _ it.few in
    let all : nat_lt (length it.rest) (it.total + 2) ≡ false = le-ltb _ _ it.all in
    let not_ended : bytes_eq (take 2 (drop it.total it.rest)) crlf ≡ false = false_from_ne_true _ (λ is. it.unended ((bytes_eq-Decides (take 2 (drop it.total it.rest)) crlf).0 is)) in
    message_read bytes it.rest it.total it.message ∙ rw (few, all, not_ended) refl

-- a reason makes its fault
pub faulted : (bytes : List ℕ) (fault : FrameFault) → Because fault bytes → frame_at bytes ≡ Err fault
faulted bytes Line it = strange bytes it
faulted bytes LongLine it = long_line bytes it
faulted bytes LongPayload it = long_payload bytes it
faulted bytes Unended it = no_end bytes it

-- ---- how many bytes are waited for

err_none : {A : Type 0} (fault : FrameFault) → ◌≡◌ {A = Result (Option A) FrameFault} (Err fault) (Ok None) → ⊥
err_none fault e = cc

some_none : {A : Type 0} (a : A) → ◌≡◌ {A = Result (Option A) FrameFault} (Ok (Some a)) (Ok None) → ⊥
some_none a e = cc

line_waits : (bytes : List ℕ) → first_line bytes ≡ Ok None → length bytes ≤ most_at bytes + 1
unfolding first_line
line_waits bytes e = by (nat_lt (most_at bytes + 1) (position_or_len is_newline bytes)) refl (position_or_len is_newline bytes == length bytes) refl e
  where
    never : (front : List ℕ) → without_cr front ≡ Ok None → ⊥
    never front e = over (bytes_eq (drop (length front - 1) front) (13 ∷ [])) e
      where
        over : (t : Bool) → cond t (Ok (Some (take (length front - 1) front))) (Err Line) ≡ Ok None → ⊥
        over true e = some_none (take (length front - 1) front) e
        over false e = err_none Line e

    by : (long : Bool) → nat_lt (most_at bytes + 1) (position_or_len is_newline bytes) ≡ long → (none : Bool) → (position_or_len is_newline bytes == length bytes) ≡ none
        → cond long (Err LongLine) (cond none (Ok None) (without_cr (take (position_or_len is_newline bytes) bytes))) ≡ Ok None → length bytes ≤ most_at bytes + 1
    by true _ none _ e = absurd (err_none LongLine e)
    by false short true none e = let at : position_or_len is_newline bytes ≡ length bytes = eqb-true _ _ none in omega (arith, ltb-false _ _ short)
    by false _ false _ e = absurd (never (take (position_or_len is_newline bytes) bytes) e)

message_waits : (rest : List ℕ) (address : Address) (headers : Option ℕ) (total : ℕ) → message_at address headers total rest ≡ Ok None → (total ≤ MOST_PAYLOAD_BYTES) × (length rest < total + 2)
unfolding message_at
message_waits rest address headers total e = by (nat_lt MOST_PAYLOAD_BYTES total) refl (nat_lt (length rest) (total + 2)) refl (bytes_eq (take 2 (drop total rest)) crlf) e
  where
    by : (a : Bool) → nat_lt MOST_PAYLOAD_BYTES total ≡ a → (b : Bool) → nat_lt (length rest) (total + 2) ≡ b → (c : Bool)
        → cond a (Err LongPayload) (cond b (Ok None) (cond c (Ok (Some (message_of address headers (take total rest)))) (Err Unended))) ≡ Ok None → (total ≤ MOST_PAYLOAD_BYTES) × (length rest < total + 2)
    by true _ b _ c e = absurd (err_none LongPayload e)
    by false few true short c e = (ltb-false _ _ few, ltb-true _ _ short)
    by false _ false _ true e = absurd (some_none (message_of address headers (take total rest)) e)
    by false _ false _ false e = absurd (err_none Unended e)

-- a frame that is not whole has fewer bytes than the longest
pub waits : (bytes : List ℕ) → frame_at bytes ≡ Ok None → length bytes < MOST_FRAME_BYTES
waits bytes e = after (first_line bytes) refl e
  where
    line_then : (line : List ℕ) → LineAt bytes line → (o : Option Meaning) → meaning_of line ≡ o → frame_by (length line) (drop (length line + 2) bytes) o ≡ Ok None → length bytes < MOST_FRAME_BYTES
    line_then line at None is e = absurd (err_none Line e)
    line_then line at (Some (Whole frame)) is e = absurd (some_none (frame, length line + 2) e)
    line_then line at (Some (Sized address headers total)) is e =
        let most = most_message bytes line address headers total at (meaning_is line (Sized address headers total) is) in
        let it = message_waits (drop (length line + 2) bytes) address headers total (taken (message_at address headers total (drop (length line + 2) bytes)) e) in
        omega (arith, it.0, it.1, at.short, most, ap length at.whole, length-append line (crlf ++ drop (length line + 2) bytes))
      where
        taken : (r : Result (Option Told) FrameFault) → with_taken (length line + total + 4) r ≡ Ok None → r ≡ Ok None
        taken (Err fault) e = absurd (err_none fault e)
        taken (Ok None) e = refl
        taken (Ok (Some frame)) e = absurd (some_none (frame, length line + total + 4) e)

    after : (r : Result (Option (List ℕ)) FrameFault) → first_line bytes ≡ r → frame_after bytes r ≡ Ok None → length bytes < MOST_FRAME_BYTES
    after (Err fault) is e = absurd (err_none fault e)
    after (Ok None) is e = omega (arith, line_waits bytes is, (most_within bytes).0)
    after (Ok (Some line)) is e = line_then line (line_is bytes line is) (meaning_of line) refl e
