-- A word is read as the number whose digits it is.
use Rattle.std.proofs.Common.{◌≡◌, ◌∙◌, ◌^◌, ◌<◌, ℕ, Bool, List, true, false, Option, Some, None, refl, sym, ap, arith, Result, Ok, Err, cond}
use Rattle.std.specs.Prelude.{decimal, nat_lt}
use Rattle.std.specs.Option.{option_and_then}
use Rattle.std.specs.Result.{result_ok}
use Rattle.std.specs.Str.{bytes_eq, IsUtf8}
use Rattle.std.proofs.lemmas.Str.{IsUtf8-from_ascii}
use Rattle.std.specs.Str.Parse.{ParsesUnsigned, digits_value, without_leading_plus}
use Rattle.std.proofs.lemmas.Bool.{ltb-true, lt-ltb}
use Rattle.std.proofs.lemmas.Fmt.{decimal_is_IsNumeral, parse-decimal, IsAscii-decimal}
use Rattle.std.proofs.lemmas.Option.{cond_some}
use Rattle.std.proofs.lemmas.Slice.Eq.{bytes_eq-Decides}
use Rattle.pay_numeral.specs.Numerals.{if_numeral, number_of}

-- the numeral of a number is read as that number
pub number_again : (n : ℕ) → n < 2 ^ 64 → number_of (decimal n) ≡ Some n
number_again n small =
    let value : digits_value 10 (decimal n) ≡ n = (decimal_is_IsNumeral n small).1 in
    rw (value, lt-ltb n (2 ^ 64) small, (bytes_eq-Decides (decimal n) (decimal n)).1 refl) refl

-- a word that is read as a number is its numeral
pub number_is : (word : List ℕ) (n : ℕ) → number_of word ≡ Some n → (word ≡ decimal n) × (n < 2 ^ 64)
number_is word n e = by (nat_lt (digits_value 10 word) (2 ^ 64)) refl e
  where
    by : (t : Bool) → nat_lt (digits_value 10 word) (2 ^ 64) ≡ t → cond t (if_numeral word (digits_value 10 word)) None ≡ Some n → (word ≡ decimal n) × (n < 2 ^ 64)
    by true small e =
        let it = cond_some (bytes_eq word (decimal (digits_value 10 word))) (digits_value 10 word) n e in
        let below : digits_value 10 word < 2 ^ 64 = ltb-true _ _ small in
        ((bytes_eq-Decides word (decimal (digits_value 10 word))).0 it.0 ∙ ap decimal it.1, omega (arith, below, it.1))
    by false small e = absurd cc

-- and so a text
pub no_text : (word : List ℕ) → ¬ (IsUtf8 word) → None ≡ number_of word
no_text word none = by (number_of word) refl
  where
    by : (o : Option ℕ) → number_of word ≡ o → None ≡ o
    by None is = refl
    by (Some n) is =
        let it = number_is word n is in
        absurd (none (rw it.0 (IsUtf8-from_ascii (decimal n) (IsAscii-decimal n it.1))))

module _ (word : List ℕ) where
  -- no number with up to 64 bits has this word as its numeral
  no_numeral : number_of word ≡ None → (n : ℕ) → n < 2 ^ 64 → if_numeral word n ≡ None
  no_numeral none n small = by (bytes_eq word (decimal n)) refl
    where
      by : (t : Bool) → bytes_eq word (decimal n) ≡ t → cond t (Some n) None ≡ None
      by true e = absurd (absurd_some (sym (ap number_of ((bytes_eq-Decides word (decimal n)).0 e) ∙ number_again n small) ∙ none))
        where
          absurd_some : Some n ≡ None → ⊥
          absurd_some e = cc
      by false e = refl

  -- the number that is parsed of a word, if the word is its numeral, is the word's
  pub parsed : {E : Type 0} (r : Result ℕ E) → ParsesUnsigned 64 10 word r → option_and_then (if_numeral word) (result_ok r) ≡ number_of word
  parsed r h = by (number_of word) refl r h
    where
      by : {E : Type 0} (o : Option ℕ) → number_of word ≡ o → (r : Result ℕ E) → ParsesUnsigned 64 10 word r → option_and_then (if_numeral word) (result_ok r) ≡ o
      by (Some n) is r h =
          let it = number_is word n is in
          let read : r ≡ Ok n = parse-decimal 64 n word r it.1 it.1 it.0 h in
          rw (read, it.0, (bytes_eq-Decides (decimal n) (decimal n)).1 refl) refl
      by None is (Ok n) h = no_numeral is n (let small : digits_value 10 (without_leading_plus word) < 2 ^ 64 = h.0.1 in omega (arith, h.1))
      by None is (Err e) h = refl
