-- The number in the first word of a line, read from its digits.
use Rattle.std.proofs.Common.{◌≡◌, ℕ, zero, suc, ◌+◌, ◌<◌, ◌≤◌, Bool, true, false, not, List, [], ◌∷◌, length, get_or, take, drop, if◌then◌else◌, Option, Some, None, refl, sym, ap, ◌∙◌, arith, inl, inr}
use Rattle.std.specs.Char.{is_ascii_digit}
use Rattle.std.specs.List.{position_or_len}
use Rattle.std.specs.Str.Parse.{AllDigits, digits_value}
use Rattle.std.proofs.Math.Nat.{eq-or-lt_of_le}
use Rattle.std.proofs.lemmas.Bool.{cases_lt, eqb-true, not-true, not-false}
use Rattle.std.proofs.lemmas.List.{get_or-take, length-take-le, take-append-drop, take-append-le}
use Rattle.std.proofs.lemmas.List.Sums.{prefix_len_stops}
use Rattle.std.proofs.lemmas.Fmt.{length-decimal-le}
use Rattle.std.proofs.lemmas.Str.Parse.{digit_from_value}
use Rattle.pay_wire.specs.Fields.{is_space, words, words_after, ends_word, field}
use Rattle.pay_wire.specs.Numbers.{number_of, value_of_digits, has_leading_zero, is_plain}
use Rattle.pay_wire.proofs.Digits.{other_byte, too_large, whole}
use Rattle.pay_wire.proofs.Numerals.{number_is}
use Rattle.pay_wire.proofs.Spaces.{first_space, space_within, split_at_end}

-- a digit is no space
no_space : (line : List ℕ) (end k : ℕ) → AllDigits 10 (take end line) → k < end → get_or line k 0 ≡ 32 → ⊥
no_space [] end k digits lt e = absurd (omega (arith, e))
no_space (c ∷ cs) zero k digits lt e = absurd (omega (arith, lt))
no_space (c ∷ cs) (suc end) zero digits lt e = absurd (omega (arith, digit_from_value c digits.0, e))
no_space (c ∷ cs) (suc end) (suc k) digits lt e = no_space cs end k digits.1 (omega (arith, lt)) e

abbrev word_end : List ℕ → ℕ
word_end line = position_or_len is_space line

abbrev first_word : List ℕ → List ℕ
first_word line = take (word_end line) line

space_there : (line : List ℕ) → word_end line < length line → get_or line (word_end line) 0 ≡ 32
space_there line lt = eqb-true _ _ (not-false (is_space (get_or line (word_end line) 0)) (prefix_len_stops (λ b. not (is_space b)) line 0 lt))

-- the digits that stand first belong to the first word
reaches : (line : List ℕ) (end : ℕ) → end ≤ length line → AllDigits 10 (take end line) → end ≤ word_end line
reaches line end within digits =
    elim (cases_lt (word_end line) end) [
      | inl lt ↦ absurd (no_space line end (word_end line) digits lt (space_there line (omega (arith, lt, within))))
      | inr le ↦ le
    ]

field_none : (read : List ℕ → Option ℕ) (word : List ℕ) (more : List (List ℕ)) → read word ≡ None → field read (word ∷ more) ≡ None
field_none read word more e = rw e refl

field_some : (read : List ℕ → Option ℕ) (word : List ℕ) (more : List (List ℕ)) (n : ℕ) → read word ≡ Some n → field read (word ∷ more) ≡ Some (n, more)
field_some read word more n e = rw e refl

refused : (line : List ℕ) → number_of (first_word line) ≡ None → field number_of (words line) ≡ None
refused line e = rw (split_at_end line) (field_none number_of (first_word line) (words_after (drop (word_end line) line)) e)

neither : (b : Bool) (o : Option ℕ) → o ≡ None → (if b then None else o) ≡ None
neither true o e = refl
neither false o e = e

no_number : (word : List ℕ) → value_of_digits word ≡ None → number_of word ≡ None
no_number [] e = refl
no_number (c ∷ cs) e = neither (has_leading_zero (c ∷ cs)) (value_of_digits (c ∷ cs)) e

-- the digits that stand first are too many already
pub too_large_first : (line : List ℕ) (end : ℕ) → end ≤ length line → AllDigits 10 (take end line) → 4_294_967_295 < digits_value 10 (take end line) → field number_of (words line) ≡ None
too_large_first line end within digits large =
    let long : length (first_word line) ≡ word_end line = length-take-le (word_end line) line (space_within line) in
    let fits : end ≤ length (first_word line) = omega (arith, long, reaches line end within digits) in
    let same : take end line ≡ take end (first_word line) =
    sym (ap (take end) (take-append-drop (word_end line) line)) ∙ take-append-le end (first_word line) (drop (word_end line) line) fits in
    refused line (no_number (first_word line) (too_large (first_word line) end (rw same at large)))

not_plain : (word : List ℕ) → is_plain word ≡ false → number_of word ≡ None
not_plain [] e = refl
not_plain (c ∷ cs) e = rw (not-false (has_leading_zero (c ∷ cs)) e) refl

plain : (word : List ℕ) → is_plain word ≡ true → number_of word ≡ value_of_digits word
plain [] e = absurd cc
plain (c ∷ cs) e = rw (not-true (has_leading_zero (c ∷ cs)) e) refl

ends : (line : List ℕ) (end : ℕ) → ends_word (drop end line) ≡ true → end < length line → get_or line end 0 ≡ 32
ends [] end e lt = absurd (omega (arith, lt))
ends (c ∷ cs) zero e lt = eqb-true _ _ e
ends (c ∷ cs) (suc end) e lt = ends cs end e (omega (arith, lt))

ends_at_byte : (space : Bool) (c : ℕ) (cs : List ℕ) (n : ℕ) → is_space c ≡ space → ends_word (drop n cs) ≡ true → ends_word (drop (if not space then 1 + n else 0) (c ∷ cs)) ≡ true
ends_at_byte true c cs n e there = e
ends_at_byte false c cs n e there = let m : 1 + n ≡ suc n = omega arith in rw m there

ends_there : (line : List ℕ) → ends_word (drop (word_end line) line) ≡ true
ends_there [] = refl
ends_there (c ∷ cs) = ends_at_byte (is_space c) c cs (word_end cs) refl (ends_there cs)

-- the digits that stand first are the first word
first_is : (line : List ℕ) (end : ℕ) → end ≤ length line → AllDigits 10 (take end line) → ends_word (drop end line) ≡ true → end ≡ word_end line
first_is line end within digits e = first_space line end within (λ k lt. no_space line end k digits lt) (ends line end e)

-- a first word of digits, in the form of a number
pub number_first : (line : List ℕ) (end : ℕ) → end ≤ length line → AllDigits 10 (take end line) → digits_value 10 (take end line) ≤ 4_294_967_295 → is_plain (take end line) ≡ true → ends_word (drop end line) ≡ true
    → field number_of (words line) ≡ Some (digits_value 10 (take end line), words_after (drop end line))
number_first line end within digits small form e =
    let number : number_of (take end line) ≡ Some (digits_value 10 (take end line)) = plain (take end line) form ∙ whole (take end line) digits small in
    let split : words line ≡ take end line ∷ words_after (drop end line) = rw (first_is line end within digits e) (split_at_end line) in
    rw split (field_some number_of (take end line) (words_after (drop end line)) (digits_value 10 (take end line)) number)

-- a word of more than ten bytes
too_long : (word : List ℕ) → 10 < length word → number_of word ≡ None
too_long word long = by_answer (number_of word) refl
  where
    by_answer : (answer : Option ℕ) → number_of word ≡ answer → answer ≡ None
    by_answer None e = refl
    by_answer (Some n) e = let spelled = number_is word n e in absurd (omega (arith, ap length spelled.0, length-decimal-le 10 n (omega arith) (omega (arith, spelled.1)) (omega (arith, spelled.1)), long))

-- digits that are not all of the first word, or not in the form of a number
pub other_first : (line : List ℕ) (end : ℕ) → end ≤ length line → AllDigits 10 (take end line) → (end < 10 → end < length line → is_ascii_digit (get_or line end 0) ≡ false) → (ends_word (drop end line) ≡ true → is_plain (take end line) ≡ false) → field number_of (words line) ≡ None
other_first line end within digits stops form =
    let long : length (first_word line) ≡ word_end line = length-take-le (word_end line) line (space_within line) in
    elim (eq-or-lt_of_le (reaches line end within digits)) [
      | inl e ↦ refused line (not_plain (first_word line) (rw e at (form (rw e (ends_there line)))))
      | inr lt ↦ elim (cases_lt end 10) [
        | inl few ↦
            let other : is_ascii_digit (get_or (first_word line) end 0) ≡ false = rw (get_or-take (word_end line) line end 0 lt) (stops few (omega (arith, lt, space_within line))) in
            refused line (no_number (first_word line) (other_byte (first_word line) end (omega (arith, long, lt)) other))
        | inr many ↦ refused line (too_long (first_word line) (omega (arith, long, lt, many)))
      ]
    ]
