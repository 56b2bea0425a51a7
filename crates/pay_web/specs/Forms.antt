-- What a posted form says.
use Rattle.std.specs.Prelude.{◌≡◌, ◌+◌, ◌*◌, ◌^◌, ◌==◌, ◌&&◌, ℕ, Bool, false, List, codes, length, nat_lt, Option, Some, None, if◌then◌else◌, refl}
use Rattle.std.specs.List.{before_first, after_first, list_any, position_or_len}
use Rattle.std.specs.Str.{is_utf8}
use Rattle.std.specs.Str.Parse.{digits_value, without_leading_plus}
use Rattle.pay_dates.specs.Reading.{is_numeral}
use Rattle.pay_wire.specs.Fields.{◌>>=◌}
use Rattle.pay_web.specs.Asked.{asked_by_values, is_ampersand, value_of}
use Rattle.pay_web.specs.declared.asked.Asked.{Asked}
use Rattle.pay_web.specs.declared.forms.FixForm.{FixForm}
use Rattle.pay_web.specs.declared.forms.FormStart.{FormStart}
use Rattle.pay_web.specs.declared.forms.TapForm.{TapForm}
use Rattle.pay_web.specs.declared.forms.Two.{Two}

-- a text in two, at the first byte that is such
abbrev pub in_two_at : (ℕ → Bool) → List ℕ → Option (List ℕ × List ℕ)
in_two_at is text = if list_any is text then Some (before_first is text, after_first is text) else None

-- at its first ampersand
unfoldable pub in_two : List ℕ → Option (List ℕ × List ℕ)
in_two text =
    if nat_lt (position_or_len is_ampersand text) (length text) then Some (before_first is_ampersand text, after_first is_ampersand text) else None

-- % is byte 37
abbrev pub is_percent : ℕ → Bool
is_percent byte = byte == 37

-- at its first colon, which is sent as %3A
unfoldable pub at_colon : List ℕ → Option (List ℕ × List ℕ)
at_colon text = do
  cut ← in_two_at is_percent text
  rest ← value_of (codes "3A") cut.1
  Some (cut.0, rest)

abbrev pub two : Two → List ℕ × List ℕ
two it = (it.front.now, it.rest.now)

-- what a form begins with, and the rest
pub record FormWords : Type 0 where
  pub asked : Asked
  pub rest : List ℕ

abbrev pub form_start : FormStart → FormWords
form_start form = record { asked = form.asked; rest = form.rest.now }

unfoldable pub asked_in : List ℕ → List ℕ → Option Asked
asked_in account day = asked_by_values false (value_of (codes "account=") account) (value_of (codes "day=") day)

-- account=A&day=D& and the rest
abbrev pub form_in : List ℕ → Option FormWords
form_in text = do
  account ← in_two text
  day ← in_two account.1
  asked ← asked_in account.0 day.0
  Some (record { asked = asked; rest = day.1 })

-- a body that is no text says nothing
abbrev pub form_of : List ℕ → Option FormWords
form_of body = if is_utf8 body then form_in body else None

-- a number of 32 bits: decimal digits, of which the first may be zeros, and perhaps a plus before them
abbrev pub number_of : List ℕ → Option ℕ
number_of text =
    if is_numeral (without_leading_plus text) && nat_lt (digits_value 10 (without_leading_plus text)) (2 ^ 32)
    then Some (digits_value 10 (without_leading_plus text))
    else None

-- what the form of a correction says
pub record FixWords : Type 0 where
  pub seq : ℕ
  pub token : List ℕ
  pub what : List ℕ

abbrev pub fix_words : FixForm → FixWords
fix_words form = record { seq = form.seq; token = form.token.now; what = form.what.now }

-- seq=S&token=T&what=W
abbrev pub fix_form : List ℕ → Option FixWords
fix_form rest = do
  first ← in_two rest
  second ← in_two first.1
  seq_text ← value_of (codes "seq=") first.0
  seq ← number_of seq_text
  token ← value_of (codes "token=") second.0
  what ← value_of (codes "what=") second.1
  Some (record { seq = seq; token = token; what = what })

-- ---- a tap that is added

abbrev pub second_by : ℕ → ℕ → ℕ → Option ℕ
second_by hour minute second =
    if nat_lt hour 24 && (nat_lt minute 60 && nat_lt second 60) then Some (hour * 3600 + minute * 60 + second) else None

abbrev pub second_alone : ℕ → List ℕ → Option ℕ
second_alone hour minute = do
  minutes ← number_of minute
  second_by hour minutes 0

abbrev pub second_with : ℕ → List ℕ → List ℕ → Option ℕ
second_with hour minute second = do
  minutes ← number_of minute
  seconds ← number_of second
  second_by hour minutes seconds

-- after the hour and its colon: minutes, and perhaps a colon and seconds
abbrev pub second_after : ℕ → List ℕ → Option (List ℕ × List ℕ) → Option ℕ
second_after hour rest None = second_alone hour rest
second_after hour rest (Some cut) = second_with hour cut.0 cut.1

-- HH:MM or HH:MM:SS, with %3A for each colon
abbrev pub second_of : List ℕ → Option ℕ
second_of time = do
  cut ← at_colon time
  hour ← number_of cut.0
  second_after hour cut.1 (at_colon cut.1)

-- what the form of a tap says
pub record TapWords : Type 0 where
  pub second : ℕ
  pub place : List ℕ
  pub kind : List ℕ

abbrev pub tap_words : TapForm → TapWords
tap_words form = record { second = form.second; place = form.place.now; kind = form.kind.now }

-- time=T&place=P&kind=K
abbrev pub tap_form : List ℕ → Option TapWords
tap_form rest = do
  first ← in_two rest
  second ← in_two first.1
  time ← value_of (codes "time=") first.0
  at ← second_of time
  place ← value_of (codes "place=") second.0
  kind ← value_of (codes "kind=") second.1
  Some (record { second = at; place = place; kind = kind })

-- ---- worked rows

half_past_eight : second_of (codes "08%3A30") ≡ Some 30_600
unfolding at_colon
half_past_eight = refl

a_second_later : second_of (codes "08%3A30%3A01") ≡ Some 30_601
unfolding at_colon
a_second_later = refl

hour_24 : second_of (codes "24%3A00") ≡ None
unfolding at_colon
hour_24 = refl

no_colon : second_of (codes "0830") ≡ None
unfolding at_colon
no_colon = refl
