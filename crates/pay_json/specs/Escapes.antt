-- What stands in a string of JSON for a control character.
use Rattle.std.specs.Prelude.{◌≡◌, ◌≢◌, ℕ, ◌/◌, ◌%◌, List, [], ◌∷◌, codes, refl}
use Rattle.std.specs.Char.{digit_char}
use Rattle.json.specs.Print.{escape, escape_byte}

-- its number in four hexadecimal digits
abbrev pub control : ℕ → List ℕ
control code = 92 ∷ 117 ∷ 48 ∷ 48 ∷ digit_char (code / 16) ∷ digit_char (code % 16) ∷ []

-- the characters for which no letter stands behind a backslash
pub record HasNoLetter (letter : ℕ) : Type 0 where
  pub quote : letter ≢ 34
  pub backslash : letter ≢ 92
  pub backspace : letter ≢ 8
  pub tab : letter ≢ 9
  pub line : letter ≢ 10
  pub page : letter ≢ 12
  pub carriage : letter ≢ 13

-- ---- worked rows

of_quotes : escape (codes "a \"b\" \\ c\n") ≡ codes "a \\\"b\\\" \\\\ c\\n"
unfolding escape_byte
of_quotes = refl

-- the last control character but one, and other alphabets, which stay
of_a_control : escape (30 ∷ []) ≡ codes "\\u001e"
unfolding escape_byte
of_a_control = refl

of_umlauts : escape (codes "Köln & Bär") ≡ codes "Köln & Bär"
unfolding escape_byte
of_umlauts = refl
