-- The first line is found, and is the one that stands there.
use Rattle.std.proofs.Common.{◌≡◌, ◌≢◌, ◌∙◌, ℕ, ◌+◌, ◌-◌, ◌≤◌, ◌<◌, Bool, true, false, cond, not, List, [], ◌∷◌, ◌++◌, length, take, drop, get_or, Option, Some, None, Result, Ok, Err, refl, sym, ap, subst, arith, append_assoc, length-append, take-append-drop, take_at, drop_at, length-take-le}
use Rattle.std.specs.Prelude.{◌==◌, nat_lt}
use Rattle.std.specs.List.{after_first, position_or_len}
use Rattle.std.specs.Str.{bytes_eq}
use Rattle.std.proofs.lemmas.Bool.{eq-eqb, ne_eqb, eqb-false, eqb-true, le-ltb, ltb-false}
use Rattle.std.proofs.lemmas.List.Sums.{split_at_first, passes_at_first, prefix_len-le-length}
use Rattle.std.proofs.lemmas.Slice.Eq.{bytes_eq-Decides}
use Rattle.pay_nats.specs.Lines.{crlf}
use Rattle.pay_nats.specs.Faults.{HasNoNewline, is_newline, most_at}
use Rattle.pay_nats.specs.Reading.{first_line, line_to, without_cr}
use Rattle.pay_nats.specs.declared.frame.FrameFault.{FrameFault}
use Rattle.pay_nats.specs.declared.frame.FrameFault.TheVariants.{Line, LongLine}
use Rattle.pay_nats.proofs.Firsts.{without_front, first_at, none_before, none_first, none_in_both, none_in_front}

-- a line stands at the front
pub record LineAt (bytes line : List ℕ) : Type 0 where
  pub whole : bytes ≡ line ++ (crlf ++ drop (length line + 2) bytes)
  pub first : HasNoNewline line
  pub short : length line ≤ most_at bytes

same_line : (a b : List ℕ) → ◌≡◌ {A = Result (Option (List ℕ)) FrameFault} (Ok (Some a)) (Ok (Some b)) → a ≡ b
same_line a b e = cc

-- a line with its CR
pub cr_is : (front line : List ℕ) → without_cr front ≡ Ok (Some line) → front ≡ line ++ 13 ∷ []
cr_is front line e = by (bytes_eq (drop (length front - 1) front) (13 ∷ [])) refl e
  where
    by : (t : Bool) → bytes_eq (drop (length front - 1) front) (13 ∷ []) ≡ t → cond t (Ok (Some (take (length front - 1) front))) (Err Line) ≡ Ok (Some line) → front ≡ line ++ 13 ∷ []
    by true is e =
        let last = (bytes_eq-Decides (drop (length front - 1) front) (13 ∷ [])).0 is in
        sym (take-append-drop (length front - 1) front) ∙ cc (last, same_line (take (length front - 1) front) line e)
    by false is e = absurd cc

pub cr_again : (line : List ℕ) → without_cr (line ++ 13 ∷ []) ≡ Ok (Some line)
cr_again line =
    let size : length (line ++ 13 ∷ []) - 1 ≡ length line = omega (arith, length-append line (13 ∷ [])) in
    rw (size, drop_at line (13 ∷ []) (length line) refl, take_at line (13 ∷ []) (length line) refl) refl

put_back : (bytes line rest : List ℕ) → bytes ≡ (line ++ 13 ∷ []) ++ 10 ∷ rest → bytes ≡ line ++ (crlf ++ drop (length line + 2) bytes)
put_back bytes line rest e =
    let whole : bytes ≡ line ++ (crlf ++ rest) = e ∙ append_assoc line (13 ∷ []) (10 ∷ rest) in
    let rest_of_it : drop (length line + 2) bytes ≡ rest = ap (drop (length line + 2)) whole ∙ without_front line (crlf ++ rest) 2 in
    whole ∙ ap (λ (x : List ℕ). line ++ (crlf ++ x)) (sym rest_of_it)

-- what is found stands there
pub line_is : (bytes line : List ℕ) → first_line bytes ≡ Ok (Some line) → LineAt bytes line
unfolding first_line
line_is bytes line e = by (position_or_len is_newline bytes) refl (nat_lt (most_at bytes + 1) (position_or_len is_newline bytes)) refl (position_or_len is_newline bytes == length bytes) refl e
  where
    by : (end : ℕ) → position_or_len is_newline bytes ≡ end → (long : Bool) → nat_lt (most_at bytes + 1) (position_or_len is_newline bytes) ≡ long → (none : Bool) → (position_or_len is_newline bytes == length bytes) ≡ none
        → cond long (Err LongLine) (cond none (Ok None) (without_cr (take (position_or_len is_newline bytes) bytes))) ≡ Ok (Some line) → LineAt bytes line
    by end at true _ none _ e = absurd cc
    by end at false _ true _ e = absurd cc
    by end at false short false some e =
        let apart : position_or_len is_newline bytes ≢ length bytes = eqb-false _ _ some in
        let within : position_or_len is_newline bytes < length bytes = omega (arith, apart, prefix_len-le-length (λ b. not (is_newline b)) bytes) in
        let newline : get_or bytes (position_or_len is_newline bytes) 0 ≡ 10 = eqb-true _ _ (passes_at_first is_newline bytes 0 within) in
        let front = cr_is (take (position_or_len is_newline bytes) bytes) line e in
        let whole = split_at_first is_newline bytes 0 within in
        let size : length (take (position_or_len is_newline bytes) bytes) ≡ length line + 1 = ap length front ∙ length-append line (13 ∷ []) in
        let taken : length (take (position_or_len is_newline bytes) bytes) ≡ position_or_len is_newline bytes = length-take-le (position_or_len is_newline bytes) bytes (omega arith) in
        record {
          whole = put_back bytes line (after_first is_newline bytes) (whole ∙ cc (newline, front));
          first = none_in_front is_newline line (13 ∷ []) (subst HasNoNewline front (none_before is_newline bytes));
          short = omega (arith, ltb-false _ _ short, size, taken);
        }

-- what stands there is found
pub line_again : (bytes line rest : List ℕ) → bytes ≡ line ++ (crlf ++ rest) → HasNoNewline line → length line ≤ most_at bytes → first_line bytes ≡ Ok (Some line)
unfolding first_line
line_again bytes line rest e none short =
    let whole : bytes ≡ (line ++ 13 ∷ []) ++ 10 ∷ rest = e ∙ sym (append_assoc line (13 ∷ []) (10 ∷ rest)) in
    let at : position_or_len is_newline bytes ≡ length (line ++ 13 ∷ []) = ap (position_or_len is_newline) whole ∙ first_at is_newline (line ++ 13 ∷ []) 10 rest (none_in_both is_newline line (13 ∷ []) none refl) refl in
    let size : length (line ++ 13 ∷ []) ≡ length line + 1 = length-append line (13 ∷ []) in
    let all : length bytes ≡ length (line ++ 13 ∷ []) + (1 + length rest) = ap length whole ∙ (length-append (line ++ 13 ∷ []) (10 ∷ rest) ∙ omega arith) in
    let front : take (length (line ++ 13 ∷ [])) bytes ≡ line ++ 13 ∷ [] = ap (take (length (line ++ 13 ∷ []))) whole ∙ take_at (line ++ 13 ∷ []) (10 ∷ rest) (length (line ++ 13 ∷ [])) refl in
    let fits : nat_lt (most_at bytes + 1) (length (line ++ 13 ∷ [])) ≡ false = le-ltb _ _ (omega (arith, size)) in
    let some : (length (line ++ 13 ∷ []) == length bytes) ≡ false = ne_eqb _ _ (λ is. absurd (omega (arith, all, is))) in
    ap (line_to bytes) at ∙ rw (fits, some, front) (cr_again line)

-- a front without an LF, no longer than a line may be, wants more
pub line_front : (bytes : List ℕ) → HasNoNewline bytes → length bytes ≤ most_at bytes + 1 → first_line bytes ≡ Ok None
unfolding first_line
line_front bytes none short =
    let fits : nat_lt (most_at bytes + 1) (length bytes) ≡ false = le-ltb _ _ short in
    ap (line_to bytes) (none_first is_newline bytes none) ∙ rw (fits, eq-eqb (length bytes) (length bytes) refl) refl
