-- Escaped text, character by character.
use Rattle.std.proofs.Common.{◌≡◌, ◌≢◌, ℕ, suc, ◌+◌, ◌<◌, ◌≤◌, List, [], ◌∷◌, ◌++◌, length, get_or, encode_utf8, inl, inr, sym, ap, ap₂, ◌∙◌, append-nil, refl, arith, ne_eqb, lt-ltb, le-ltb}
use Rattle.std.specs.Char.{digit_char}
use Rattle.std.proofs.lemmas.Bool.{cases_lt}
use Rattle.std.proofs.lemmas.Grind.{flat_map-append}
use Rattle.std.proofs.lemmas.Str.{encode_ascii, inside_one}
use Rattle.json.specs.Print.{escape, escape_byte}
use Rattle.pay_json.specs.Escapes.{control, HasNoLetter}

-- a byte that is no control character stays, unless it is a quotation mark or a backslash
pub kept : (byte : ℕ) → 32 ≤ byte → byte ≢ 34 → byte ≢ 92 → escape_byte byte ≡ byte ∷ []
unfolding escape_byte
kept byte above quote slash =
    rw (
      ne_eqb byte 34 quote,
      ne_eqb byte 92 slash,
      ne_eqb byte 8 (λ e. omega (arith, e, above)),
      ne_eqb byte 12 (λ e. omega (arith, e, above)),
      ne_eqb byte 10 (λ e. omega (arith, e, above)),
      ne_eqb byte 13 (λ e. omega (arith, e, above)),
      ne_eqb byte 9 (λ e. omega (arith, e, above)),
      le-ltb byte 32 above,
    ) refl

high : (bytes : List ℕ) → ((k : ℕ) → k < length bytes → 128 ≤ get_or bytes k 0) → escape bytes ≡ bytes
high [] above = refl
high (byte ∷ bytes) above =
    let big : 128 ≤ byte = above 0 (omega arith) in
    ap₂ (λ (front rest : List ℕ). front ++ rest) (kept byte (omega (arith, big)) (λ e. omega (arith, e, big)) (λ e. omega (arith, e, big))) (high bytes (λ k below. above (suc k) (omega arith)))

-- and so does a character
pub kept_letter : (letter : ℕ) → 32 ≤ letter → HasNoLetter letter → escape (encode_utf8 letter) ≡ encode_utf8 letter
kept_letter letter above none = elim (cases_lt letter 128) [
  | inl small ↦ rw (encode_ascii letter small) (append-nil (escape_byte letter) ∙ kept letter above none.quote none.backslash)
  | inr big ↦ high (encode_utf8 letter) (λ k below. elim (cases_lt (get_or (encode_utf8 letter) k 0) 128) [
    | inl low ↦ absurd (omega (arith, inside_one letter [] (encode_utf8 letter) k (sym (append-nil _)) below low))
    | inr above ↦ above
  ])
]

-- a control character without a letter has its number
control_byte : (byte : ℕ) → byte < 32 → HasNoLetter byte → escape_byte byte ≡ control byte
unfolding escape_byte
control_byte byte below none =
    rw (
      ne_eqb byte 34 none.quote,
      ne_eqb byte 92 none.backslash,
      ne_eqb byte 8 none.backspace,
      ne_eqb byte 12 none.page,
      ne_eqb byte 10 none.line,
      ne_eqb byte 13 none.carriage,
      ne_eqb byte 9 none.tab,
      lt-ltb byte 32 below,
    ) refl

pub control_letter : (letter : ℕ) → letter < 32 → HasNoLetter letter → escape (encode_utf8 letter) ≡ control letter
control_letter letter below none = rw (encode_ascii letter (omega (arith, below))) (append-nil (escape_byte letter) ∙ control_byte letter below none)

-- a digit is one byte
pub one_byte : (digit : ℕ) → digit < 16 → encode_utf8 (digit_char digit) ≡ digit_char digit ∷ []
one_byte digit below = elim (cases_lt digit 10) [
  | inl small ↦ rw (lt-ltb digit 10 small) (encode_ascii (48 + digit) (omega (arith, small)))
  | inr big ↦ rw (le-ltb digit 10 big) (encode_ascii (87 + digit) (omega (arith, below)))
]

-- the front of a text is escaped by itself
pub front : (letter : ℕ) (text rest : List ℕ) → text ≡ encode_utf8 letter ++ rest → escape text ≡ escape (encode_utf8 letter) ++ escape rest
front letter text rest is = ap escape is ∙ flat_map-append escape_byte (encode_utf8 letter) rest

pub at_end : (text : List ℕ) → length text ≡ 0 → escape text ≡ []
at_end [] e = refl
at_end (byte ∷ text) e = absurd (omega (arith, e))
