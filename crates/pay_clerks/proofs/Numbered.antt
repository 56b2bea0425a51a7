-- The numbers of words.
use Rattle.std.proofs.Common.{◌≡◌, ◌∙◌, ◌^◌, ◌<◌, ◌≤◌, ◌&&◌, ℕ, Bool, List, true, false, refl, sym, ap, arith, None, Result, Ok, Err, true≢false}
use Rattle.std.specs.Prelude.{decimal, nat_le}
use Rattle.std.specs.Option.{option_and_then}
use Rattle.std.specs.Result.{result_ok}
use Rattle.std.specs.Str.{bytes_eq}
use Rattle.std.specs.Str.Parse.{ParsesUnsigned, digits_value}
use Rattle.std.proofs.lemmas.Bool.{and_parts, leb-true}
use Rattle.std.proofs.lemmas.Fmt.{decimal_is_IsNumeral, parse-decimal}
use Rattle.pay_clerks.specs.Numerals.{if_within, number_within}
use Rattle.pay_clerks.proofs.Texts.{same_text}

-- what a number passes, if it is in a range, and a word is its digits
abbrev is_within : ℕ → ℕ → List ℕ → ℕ → Bool
is_within first last word number = nat_le first number && nat_le number last && bytes_eq word (decimal number)

within : (first last : ℕ) (word : List ℕ) (number : ℕ) → is_within first last word number ≡ true → (number ≤ last) × (word ≡ decimal number)
within first last word number e =
    let outer = and_parts (nat_le first number && nat_le number last) (bytes_eq word (decimal number)) e in
    let inner = and_parts (nat_le first number) (nat_le number last) outer.0 in
    (leb-true number last inner.1, same_text word (decimal number) outer.1)

module _ (first last : ℕ) (word : List ℕ) (small : last < 2 ^ 32) where
  -- a word of a number in the range is read as that number
  read : {E : Type 0} (r : Result ℕ E) → ParsesUnsigned 32 10 word r → is_within first last word (digits_value 10 word) ≡ true → r ≡ Ok (digits_value 10 word)
  read r h e =
      let p = within first last word (digits_value 10 word) e in
      parse-decimal 32 (digits_value 10 word) word r (omega (arith, small, p.0)) (omega (arith, small, p.0)) p.1 h

  -- and its digits have that value
  value : (number : ℕ) → is_within first last word number ≡ true → digits_value 10 word ≡ number
  value number e =
      let p = within first last word number e in
      ap (digits_value 10) p.1 ∙ (decimal_is_IsNumeral number (omega (arith, small, p.0))).1

  refused : {E : Type 0} (r : Result ℕ E) → is_within first last word (digits_value 10 word) ≡ false → option_and_then (if_within first last word) (result_ok r) ≡ None
  refused (Err error) none = refl
  refused (Ok number) none = by (is_within first last word number) refl
    where
      by : (t : Bool) → is_within first last word number ≡ t → if_within first last word number ≡ None
      by true e = absurd (true≢false (sym e ∙ (rw (value number e) at none)))
      by false e = rw e refl

  -- the number that is read of a word, if it is in the range and the word is its digits, is the word's
  pub numbered : {E : Type 0} (r : Result ℕ E) → ParsesUnsigned 32 10 word r → option_and_then (if_within first last word) (result_ok r) ≡ number_within first last word
  numbered r h = by (is_within first last word (digits_value 10 word)) refl
    where
      by : (t : Bool) → is_within first last word (digits_value 10 word) ≡ t → option_and_then (if_within first last word) (result_ok r) ≡ number_within first last word
      by true e = rw (read r h e) refl
      by false e = refused r e ∙ sym (rw e refl)
