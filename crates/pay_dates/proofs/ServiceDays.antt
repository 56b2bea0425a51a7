-- What is so of the day that a text names.
use Rattle.std.proofs.Common.{◌≡◌, ◌∙◌, ◌≢◌, ◌+◌, ◌/◌, ◌≤◌, ◌&&◌, ◌∷◌, [], ℕ, ℤ, pos, negsuc, Bool, List, true, false, refl, sym, ap, subst, arith, nat_lt, Option, Some, None, slice_index}
use Rattle.std.proofs.lemmas.Bool.{leb-true}
use Rattle.std.proofs.lemmas.Slice.Eq.{bytes_eq-Decides}
use Rattle.std.specs.Option.{option_and_then, option_or}
use Rattle.std.specs.Prelude.{length, nat_le}
use Rattle.std.specs.Result.{result_ok}
use Rattle.std.specs.Str.Parse.{digits_value, without_leading_plus}
use Rattle.jiff.specs.Words.{parse_date}
use Rattle.jiff_core.specs.Calendar.{days_from_civil}
use Rattle.pay_day.specs.Words.{IsDay}
use Rattle.pay_dates.specs.Reading.{counted_day, dated_day, day_of_text, is_numeral, is_spelled, numbered_day, service_day, spelled_day, date_bytes}
use Rattle.pay_dates.proofs.Numerals.{both}

-- ---- it is a service day

service_day_is : (n day : ℕ) → service_day n ≡ Some day → IsDay day
service_day_is n day is = go (nat_le 4 n && nat_le n 50_000) refl
  where
    go : (t : Bool) → (nat_le 4 n && nat_le n 50_000) ≡ t → IsDay day
    go false t =
        let none : None ≡ Some day = rw t at is in cc
    go true t =
        let same : Some n ≡ Some day = rw t at is in
        let parts = both (nat_le 4 n) (nat_le n 50_000) t in
        let least : 4 ≤ n = leb-true 4 n parts.0 in
        let most : n ≤ 50_000 = leb-true n 50_000 parts.1 in
        let n_is : n ≡ day = cc in
        (omega (arith, least, n_is), omega (arith, most, n_is))

counted_day_is : (z : ℤ) (day : ℕ) → counted_day z ≡ Some day → IsDay day
counted_day_is (pos n) day is = service_day_is n day is
counted_day_is (negsuc n) day is = cc

-- ---- a text that names one is a number or a date

-- what is so where a value is found
of_found : {X : Type 0} (f : X → Option ℕ) (day : ℕ) (P : Type 0) → ((x : X) → f x ≡ Some day → P) → (o : Option X) → option_and_then f o ≡ Some day → P
of_found f day P of None is = cc
of_found f day P of (Some x) is = of x is

of_either : (a b : Option ℕ) (day : ℕ) (P : Type 0) → (a ≡ Some day → P) → (b ≡ Some day → P) → option_or a b ≡ Some day → P
of_either None b day P first second is = second is
of_either (Some n) b day P first second is = first is

of_number : (text : List ℕ) (day : ℕ) (P : Type 0) → (is_numeral (without_leading_plus text) ≡ true → service_day (digits_value 10 (without_leading_plus text)) ≡ Some day → P)
    → numbered_day text ≡ Some day → P
of_number text day P of is = go (is_numeral (without_leading_plus text)) refl
  where
    go : (t : Bool) → is_numeral (without_leading_plus text) ≡ t → P
    go true t = of t (rw t at is)
    go false t =
        let none : None ≡ Some day = rw t at is in cc

of_spelled : (text : List ℕ) (year : ℤ) (month dom day : ℕ) (P : Type 0)
    → (is_spelled text year month dom ≡ true → counted_day (days_from_civil year month dom) ≡ Some day → P) → spelled_day text year month dom ≡ Some day → P
of_spelled text year month dom day P of is = go (is_spelled text year month dom) refl
  where
    go : (t : Bool) → is_spelled text year month dom ≡ t → P
    go true t = of t (rw t at is)
    go false t =
        let none : None ≡ Some day = rw t at is in cc

pub day_is_day : (text : List ℕ) (day : ℕ) → day_of_text text ≡ Some day → IsDay day
unfolding day_of_text
day_is_day text day is = of_either (numbered_day text) (dated_day text) day (IsDay day)
    (of_number text day (IsDay day) (λ numeral counts. service_day_is (digits_value 10 (without_leading_plus text)) day counts))
    (of_found _ day (IsDay day)
    (λ date. of_spelled text date.year date.month date.day day (IsDay day) (λ spelled counts. counted_day_is (days_from_civil date.year date.month date.day) day counts))
    (result_ok (parse_date text))) is

-- ---- it begins with no hyphen (45)

number_no_hyphen : (text : List ℕ) → is_numeral (without_leading_plus text) ≡ true → slice_index text 0 ≢ 45
number_no_hyphen [] is = λ e. cc
number_no_hyphen (b ∷ rest) is = λ hyphen.
    let at_hyphen : is_numeral (without_leading_plus (45 ∷ rest)) ≡ true = subst (λ (c : ℕ). is_numeral (without_leading_plus (c ∷ rest)) ≡ true) hyphen is in
    let no_digit : false ≡ true = (both (nat_lt 0 (length (45 ∷ rest))) false at_hyphen).1 in cc

spelled_no_hyphen : (text : List ℕ) (year : ℤ) (month dom : ℕ) → is_spelled text year month dom ≡ true → slice_index text 0 ≢ 45
spelled_no_hyphen text (negsuc year) month dom is = cc
spelled_no_hyphen text (pos year) month dom is = λ hyphen.
    let same : text ≡ date_bytes year month dom = (bytes_eq-Decides text (date_bytes year month dom)).0 is in
    let first : 48 + year / 100 / 10 ≡ 45 = sym (ap (λ (t : List ℕ). slice_index t 0) same) ∙ hyphen in
    absurd (omega (arith, first))

pub day_no_hyphen : (text : List ℕ) (day : ℕ) → day_of_text text ≡ Some day → slice_index text 0 ≢ 45
unfolding day_of_text
day_no_hyphen text day is = of_either (numbered_day text) (dated_day text) day (slice_index text 0 ≢ 45)
    (of_number text day (slice_index text 0 ≢ 45) (λ numeral counts. number_no_hyphen text numeral))
    (of_found _ day (slice_index text 0 ≢ 45)
    (λ date. of_spelled text date.year date.month date.day day (slice_index text 0 ≢ 45) (λ spelled counts. spelled_no_hyphen text date.year date.month date.day spelled))
    (result_ok (parse_date text))) is
