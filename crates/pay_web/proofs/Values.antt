-- What the values of a query are read as.
use Rattle.std.proofs.Common.{◌≡◌, ◌∙◌, ◌^◌, ◌<◌, ◌≤◌, ◌&&◌, ◌∷◌, [], ℕ, Bool, Bor, List, true, false, refl, sym, ap, subst, arith, nat_eq, nat_lt, Option, None, Some, Result, Ok, Err, option_copied, true≢false}
use Rattle.std.proofs.lemmas.Bool.{ltb-true, lt-ltb}
use Rattle.std.proofs.lemmas.Str.Pattern.{starts_text}
use Rattle.std.specs.Char.{digit_value}
use Rattle.std.specs.List.{list_all, starts_with}
use Rattle.std.specs.Option.{option_and_then}
use Rattle.std.specs.Result.{result_ok}
use Rattle.std.specs.Prelude.{MatchOption, length, drop, nat_le}
use Rattle.std.specs.Str.{IsCharBoundary}
use Rattle.std.specs.Str.Parse.{AllDigits, IsNumeral, ParsesUnsigned, digits_value, without_leading_plus}
use Rattle.std.specs.Str.Pattern.{FindsTextPrefix, StripsPrefix}
use Rattle.pay_dates.specs.Reading.{is_numeral}
use Rattle.pay_web.specs.Asked.{account_of, if_account, value_of}
use Rattle.pay_web.specs.Forms.{number_of}

-- what is left of a text without its prefix
pub stripped : (name text : List ℕ) (r : Option (Bor (List ℕ))) → MatchOption r (FindsTextPrefix name text None) (λ x. StripsPrefix (FindsTextPrefix name) text x.now) → option_copied r ≡ value_of name text
stripped name text None h = rw (sym (starts_text false name text h)) refl
stripped name text (Some x) h =
    let boundary : IsCharBoundary text h.0 = subst (IsCharBoundary text) (sym h.1.0) h.1.2 in
    rw (sym (starts_text true name text (h.0, h.1, boundary))) (ap Some (h.2 ∙ ap (λ n. drop n text) h.1.0))

-- ---- accounts

abbrev is_digit : ℕ → Bool
is_digit byte = nat_lt (digit_value byte) 10

both : (a b : Bool) → (a && b) ≡ true → (a ≡ true) × (b ≡ true)
both true b e = (refl, e)
both false b e = absurd (true≢false (sym e))

all_digits : (bytes : List ℕ) → list_all is_digit bytes ≡ true → AllDigits 10 bytes
all_digits [] e = tt
all_digits (b ∷ bytes) e =
    let parts = both (is_digit b) (list_all is_digit bytes) e in
    (ltb-true (digit_value b) 10 parts.0, all_digits bytes parts.1)

digits_test : (bytes : List ℕ) → AllDigits 10 bytes → list_all is_digit bytes ≡ true
digits_test [] h = refl
digits_test (b ∷ bytes) h = rw (lt-ltb (digit_value b) 10 h.0) (digits_test bytes h.1)

numeral : (bytes : List ℕ) → is_numeral bytes ≡ true → IsNumeral 10 bytes
numeral bytes e =
    let parts = both (nat_lt 0 (length bytes)) (list_all is_digit bytes) e in
    (ltb-true 0 (length bytes) parts.0, all_digits bytes parts.1)

numeral_test : (bytes : List ℕ) → IsNumeral 10 bytes → is_numeral bytes ≡ true
numeral_test bytes h = rw (lt-ltb 0 (length bytes) h.0) (digits_test bytes h.1)

-- a number that 32 bits do not hold is that of no account
too_great : (n : ℕ) → (n < 2 ^ 32 → ⊥) → if_account n ≡ None
too_great n great = go (nat_lt n (2 ^ 32)) refl
  where
    go : (t : Bool) → nat_lt n (2 ^ 32) ≡ t → if_account n ≡ None
    go true t = absurd (great (ltb-true n (2 ^ 32) t))
    go false t = least (nat_le 1 n) refl
      where
        least : (f : Bool) → nat_le 1 n ≡ f → if_account n ≡ None
        least true f = rw (f, t) refl
        least false f = rw f refl

pub numbered : {E : Type 0} (text : List ℕ) (r : Result ℕ E) → ParsesUnsigned 32 10 text r → option_and_then if_account (result_ok r) ≡ account_of text
numbered text (Ok n) h = rw (numeral_test (without_leading_plus text) h.0.0, h.1) refl
numbered {E} text (Err e) h = go (is_numeral (without_leading_plus text)) refl
  where
    go : (t : Bool) → is_numeral (without_leading_plus text) ≡ t → None ≡ account_of text
    go true t = rw t (sym (too_great (digits_value 10 (without_leading_plus text)) (λ small. h (numeral (without_leading_plus text) t, small))))
    go false t = rw t refl

-- ---- numbers

pub parsed : {E : Type 0} (text : List ℕ) (r : Result ℕ E) → ParsesUnsigned 32 10 text r → result_ok r ≡ number_of text
parsed text (Ok n) h =
    rw (numeral_test (without_leading_plus text) h.0.0, lt-ltb (digits_value 10 (without_leading_plus text)) (2 ^ 32) h.0.1) (ap Some h.1)
parsed {E} text (Err e) h = go (is_numeral (without_leading_plus text)) refl
  where
    go : (t : Bool) → is_numeral (without_leading_plus text) ≡ t → None ≡ number_of text
    go false t = rw t refl
    go true t = small (nat_lt (digits_value 10 (without_leading_plus text)) (2 ^ 32)) refl
      where
        small : (s : Bool) → nat_lt (digits_value 10 (without_leading_plus text)) (2 ^ 32) ≡ s → None ≡ number_of text
        small false s = rw (t, s) refl
        small true s = absurd (h (numeral (without_leading_plus text) t, ltb-true (digits_value 10 (without_leading_plus text)) (2 ^ 32) s))
