-- Which texts are read as numbers of days.
use Rattle.std.proofs.Common.{◌≡◌, ◌^◌, ◌<◌, ◌≤◌, ◌&&◌, ◌∷◌, [], ℕ, Bool, List, true, false, refl, sym, arith, nat_lt, None, Result, Ok, Err, true≢false}
use Rattle.std.proofs.lemmas.Bool.{ltb-true, leb-true, lt-ltb}
use Rattle.std.specs.Char.{digit_value}
use Rattle.std.specs.List.{list_all}
use Rattle.std.specs.Option.{option_and_then}
use Rattle.std.specs.Prelude.{length, nat_le}
use Rattle.std.specs.Result.{result_ok}
use Rattle.std.specs.Str.Parse.{AllDigits, IsNumeral, ParsesUnsigned, digits_value, without_leading_plus}
use Rattle.pay_dates.specs.Reading.{is_numeral, numbered_day, service_day}

pub both : (a b : Bool) → (a && b) ≡ true → (a ≡ true) × (b ≡ true)
both true b e = (refl, e)
both false b e = absurd (true≢false (sym e))

abbrev is_digit : ℕ → Bool
is_digit byte = nat_lt (digit_value byte) 10

all_digits : (bytes : List ℕ) → list_all is_digit bytes ≡ true → AllDigits 10 bytes
all_digits [] e = tt
all_digits (b ∷ bytes) e =
    let parts = both (is_digit b) (list_all is_digit bytes) e in
    (ltb-true (digit_value b) 10 parts.0, all_digits bytes parts.1)

digits_test : (bytes : List ℕ) → AllDigits 10 bytes → list_all is_digit bytes ≡ true
digits_test [] h = refl
digits_test (b ∷ bytes) h = rw (lt-ltb (digit_value b) 10 h.0) (digits_test bytes h.1)

numeral : (bytes : List ℕ) → is_numeral bytes ≡ true → IsNumeral 10 bytes
numeral bytes e =
    let parts = both (nat_lt 0 (length bytes)) (list_all is_digit bytes) e in
    (ltb-true 0 (length bytes) parts.0, all_digits bytes parts.1)

numeral_test : (bytes : List ℕ) → IsNumeral 10 bytes → is_numeral bytes ≡ true
numeral_test bytes h = rw (lt-ltb 0 (length bytes) h.0) (digits_test bytes h.1)

-- a number that 32 bits do not hold is no day
too_great : (n : ℕ) → (n < 2 ^ 32 → ⊥) → service_day n ≡ None
too_great n great = go (nat_le n 50_000) refl
  where
    go : (t : Bool) → nat_le n 50_000 ≡ t → service_day n ≡ None
    go true t =
        let small : n ≤ 50_000 = leb-true n 50_000 t in
        absurd (great (omega (arith, small)))
    go false t = first (nat_le 4 n) refl
      where
        first : (f : Bool) → nat_le 4 n ≡ f → service_day n ≡ None
        first true f = rw (f, t) refl
        first false f = rw f refl

pub numbered : {E : Type 0} (text : List ℕ) (r : Result ℕ E) → ParsesUnsigned 32 10 text r → option_and_then service_day (result_ok r) ≡ numbered_day text
numbered text (Ok n) h = rw (numeral_test (without_leading_plus text) h.0.0, h.1) refl
numbered {E} text (Err e) h = go (is_numeral (without_leading_plus text)) refl
  where
    go : (t : Bool) → is_numeral (without_leading_plus text) ≡ t → None ≡ numbered_day text
    go true t = rw t (sym (too_great (digits_value 10 (without_leading_plus text)) (λ small. h (numeral (without_leading_plus text) t, small))))
    go false t = rw t refl
