-- The lines of an input that comes in pieces.
use Rattle.std.proofs.Common.{◌≡◌, ℕ, ◌+◌, ◌<◌, Bool, true, false, ◌||◌, cond, eqb, List, [], ◌∷◌, ◌++◌, map, length, sym, ap, ◌∙◌, refl, arith, append_assoc, append-nil, take_all, lt-ltb, length-append, length-take-le, take-append-drop, drop, eqb-true, inl, inr}
use Rattle.std.specs.Prelude.{◌⊎◌}
use Rattle.std.proofs.lemmas.List.Folds.{list_any-append}
use Rattle.std.proofs.lemmas.Bool.{cases_lt}
use Rattle.pay_wire.specs.declared.limits.TheConstants.{MOST_LINE_BYTES}
use Rattle.pay_wire.specs.Words.{command_of}
use Rattle.pay_session.specs.Requests.{InputLine, asked, onto_first, input_lines, rest_of, has_newline, kept_of, request_of, request_of_rest, line_requests, after_quit, unread, is_quit}
use Rattle.pay_session.specs.declared.request.Request.TheVariants as requests

pub false_or : (a b : Bool) → (a || b) ≡ false → (a ≡ false) × (b ≡ false)
false_or true b h = (h, absurd_from h)
  where
    absurd_from : {P : Type 0} → true ≡ false → P
    absurd_from e = cc
false_or false b h = (refl, h)

-- the first line, and the lines after it
pub lines_of_line : (p more : List ℕ) → has_newline p ≡ false → input_lines (p ++ 10 ∷ more) ≡ record { text = p; after = more } ∷ input_lines more
lines_of_line [] more h = refl
lines_of_line (b ∷ p) more h =
    let both = false_or (eqb b 10) (has_newline p) h in
    ap (λ c. cond c (record { text = []; after = p ++ 10 ∷ more } ∷ input_lines (p ++ 10 ∷ more)) (onto_first b (input_lines (p ++ 10 ∷ more)))) both.0
    ∙ ap (onto_first b) (lines_of_line p more both.1)

pub lines_of_part : (p : List ℕ) → has_newline p ≡ false → input_lines p ≡ []
lines_of_part [] h = refl
lines_of_part (b ∷ p) h =
    let both = false_or (eqb b 10) (has_newline p) h in
    ap (λ c. cond c (record { text = []; after = p } ∷ input_lines p) (onto_first b (input_lines p))) both.0
    ∙ ap (onto_first b) (lines_of_part p both.1)

pub has_newline_line : (p more : List ℕ) → has_newline (p ++ 10 ∷ more) ≡ true
has_newline_line [] more = refl
has_newline_line (b ∷ p) more = ap (λ c. eqb b 10 || c) (has_newline_line p more) ∙ or_true (eqb b 10)
  where
    or_true : (c : Bool) → (c || true) ≡ true
    or_true true = refl
    or_true false = refl

pub rest_of_line : (p more : List ℕ) → rest_of (p ++ 10 ∷ more) ≡ rest_of more
rest_of_line [] more = refl
rest_of_line (b ∷ p) more =
    ap (λ c. cond c (rest_of (p ++ 10 ∷ more)) (b ∷ (p ++ 10 ∷ more))) (has_newline_line (b ∷ p) more) ∙ rest_of_line p more

pub rest_of_part : (p : List ℕ) → has_newline p ≡ false → rest_of p ≡ p
rest_of_part [] h = refl
rest_of_part (b ∷ p) h = ap (λ c. cond c (rest_of p) (b ∷ p)) h

-- the front of a list up to a newline, if it has one
pub first_line : (xs : List ℕ) → (has_newline xs ≡ false) ⊎ ((z : List ℕ) × (more : List ℕ) × (xs ≡ z ++ 10 ∷ more) × (has_newline z ≡ false))
first_line [] = inl refl
first_line (b ∷ xs) = by_byte (eqb b 10) refl (first_line xs)
  where
    by_byte : (c : Bool) → eqb b 10 ≡ c → (has_newline xs ≡ false) ⊎ ((z : List ℕ) × (more : List ℕ) × (xs ≡ z ++ 10 ∷ more) × (has_newline z ≡ false))
        → (has_newline (b ∷ xs) ≡ false) ⊎ ((z : List ℕ) × (more : List ℕ) × (b ∷ xs ≡ z ++ 10 ∷ more) × (has_newline z ≡ false))
    by_byte true e h = inr ([], xs, ap (λ x. x ∷ xs) (eqb-true b 10 e), refl)
    by_byte false e (inl h) = inl (ap (λ c. c || has_newline xs) e ∙ h)
    by_byte false e (inr h) = inr (b ∷ h.0, h.1, ap (λ l. b ∷ l) h.2, ap (λ c. c || has_newline h.0) e ∙ h.3)

-- a line of more bytes than it may have is too long
too_long : (l : List ℕ) → MOST_LINE_BYTES < length l → request_of l ≡ requests.LongLine
unfolding request_of
too_long l h = ap (λ c. cond c requests.LongLine (asked (command_of l))) (lt-ltb MOST_LINE_BYTES (length l) h)

too_long_rest : (l : List ℕ) → MOST_LINE_BYTES < length l → request_of_rest l ≡ requests.LongLine ∷ []
too_long_rest [] h = absurd (omega arith)
too_long_rest (b ∷ l) h = ap (λ c. cond c requests.LongLine requests.BadLine ∷ []) (lt-ltb MOST_LINE_BYTES (length (b ∷ l)) h)

-- a list is kept whole, or its front and it are longer than a line
kept_or_long : (p z : List ℕ) → (kept_of p ≡ p) ⊎ ((MOST_LINE_BYTES < length (kept_of p ++ z)) × (MOST_LINE_BYTES < length (p ++ z)))
kept_or_long p z = elim (cases_lt (MOST_LINE_BYTES + 1) (length p)) [
  | inl long ↦ let whole : length (kept_of p) ≡ (MOST_LINE_BYTES + 1) = length-take-le (MOST_LINE_BYTES + 1) p (omega arith) in
      inr (omega (arith, length-append (kept_of p) z), omega (arith, length-append p z))
  | inr short ↦ inl (take_all (MOST_LINE_BYTES + 1) p short)
]

-- a line of which a front is kept asks for what the whole asks for, whatever comes after
pub request_of_kept : (p z : List ℕ) → request_of (kept_of p ++ z) ≡ request_of (p ++ z)
request_of_kept p z = elim (kept_or_long p z) [
  | inl same ↦ ap (λ l. request_of (l ++ z)) same
  | inr long ↦ too_long _ long.0 ∙ sym (too_long _ long.1)
]

pub request_kept : (p : List ℕ) → request_of (kept_of p) ≡ request_of p
request_kept p = ap request_of (sym (append-nil (kept_of p))) ∙ request_of_kept p [] ∙ ap request_of (append-nil p)

pub request_of_rest_kept : (p z : List ℕ) → request_of_rest (kept_of p ++ z) ≡ request_of_rest (p ++ z)
request_of_rest_kept p z = elim (kept_or_long p z) [
  | inl same ↦ ap (λ l. request_of_rest (l ++ z)) same
  | inr long ↦ too_long_rest _ long.0 ∙ sym (too_long_rest _ long.1)
]

pub has_newline_both : (p z : List ℕ) → has_newline p ≡ false → has_newline z ≡ false → has_newline (p ++ z) ≡ false
has_newline_both p z h i = list_any-append (λ b. eqb b 10) p z ∙ ap (λ c. c || has_newline z) h ∙ i

pub has_newline_kept : (p : List ℕ) → has_newline p ≡ false → has_newline (kept_of p) ≡ false
has_newline_kept p h = (false_or (has_newline (kept_of p)) (has_newline (drop (MOST_LINE_BYTES + 1) p)) (sym (list_any-append (λ b. eqb b 10) (kept_of p) (drop (MOST_LINE_BYTES + 1) p)) ∙ ap has_newline (take-append-drop (MOST_LINE_BYTES + 1) p) ∙ h)).0

-- the three things that an input says, of a line that is kept and of the whole, whatever comes after
pub record Alike (p q : List ℕ) : Type 0 where
  pub requests : line_requests p ≡ line_requests q
  pub rest : request_of_rest (rest_of p) ≡ request_of_rest (rest_of q)
  pub unread : unread p ≡ unread q

-- a line at the front of an input
pub line_requests_line : (p more : List ℕ) → has_newline p ≡ false → line_requests (p ++ 10 ∷ more) ≡ request_of p ∷ line_requests more
line_requests_line p more h = ap (map (λ (l : InputLine). request_of l.text)) (lines_of_line p more h)

pub line_requests_part : (p : List ℕ) → has_newline p ≡ false → line_requests p ≡ []
line_requests_part p h = ap (map (λ (l : InputLine). request_of l.text)) (lines_of_part p h)

pub unread_line : (p more : List ℕ) → has_newline p ≡ false → unread (p ++ 10 ∷ more) ≡ cond (is_quit (request_of p)) more (unread more)
unread_line p more h = ap after_quit (lines_of_line p more h)

pub unread_part : (p : List ℕ) → has_newline p ≡ false → unread p ≡ []
unread_part p h = ap after_quit (lines_of_part p h)

pub kept_alike : (p xs : List ℕ) → has_newline p ≡ false → Alike (kept_of p ++ xs) (p ++ xs)
kept_alike p xs h = elim (first_line xs) [
  | inl none ↦
      let kept = kept_of p ++ xs in
      let all = p ++ xs in
      let whole = has_newline_both p xs h none in
      let front = has_newline_both (kept_of p) xs (has_newline_kept p h) none in
      record {
        requests = line_requests_part kept front ∙ sym (line_requests_part all whole);
        rest = ap request_of_rest (rest_of_part kept front) ∙ request_of_rest_kept p xs ∙ ap request_of_rest (sym (rest_of_part all whole));
        unread = unread_part kept front ∙ sym (unread_part all whole);
      }
  | inr line ↦
      let z = line.0 in
      let more = line.1 in
      let whole = has_newline_both p z h line.3 in
      let front = has_newline_both (kept_of p) z (has_newline_kept p h) line.3 in
      let joined : (l : List ℕ) → l ++ xs ≡ (l ++ z) ++ 10 ∷ more = λ l. ap (λ m. l ++ m) line.2 ∙ sym (append_assoc l z (10 ∷ more)) in
      let same = request_of_kept p z in
      record {
        requests = ap line_requests (joined (kept_of p)) ∙ line_requests_line _ more front ∙ ap (λ r. r ∷ line_requests more) same
            ∙ sym (line_requests_line _ more whole) ∙ ap line_requests (sym (joined p));
        rest = ap request_of_rest (ap rest_of (joined (kept_of p)) ∙ rest_of_line (kept_of p ++ z) more ∙ sym (rest_of_line (p ++ z) more) ∙ ap rest_of (sym (joined p)));
        unread = ap unread (joined (kept_of p)) ∙ unread_line _ more front ∙ ap (λ r. cond (is_quit r) more (unread more)) same
            ∙ sym (unread_line _ more whole) ∙ ap unread (sym (joined p));
      }
]
