-- Escaped text, character by character.
use Rattle.std.proofs.Common.{◌≡◌, ◌≢◌, ℕ, suc, ◌<◌, ◌≤◌, List, [], ◌∷◌, ◌++◌, length, get_or, encode_utf8, inl, inr, sym, ap, ap₂, ◌∙◌, append-nil, refl, arith, ne_eqb, drop}
use Rattle.std.proofs.lemmas.Bool.{cases_lt}
use Rattle.std.proofs.lemmas.Grind.{flat_map-append}
use Rattle.std.proofs.lemmas.Str.{encode_ascii, inside_one}
use Rattle.pay_html.specs.Escapes.{escaped_byte, escaped}

-- a byte that no entity stands for stays
pub kept : (byte : ℕ) → byte ≢ 38 → byte ≢ 60 → byte ≢ 62 → byte ≢ 34 → byte ≢ 39 → escaped_byte byte ≡ byte ∷ []
kept byte a b c d e = rw (ne_eqb byte 38 a, ne_eqb byte 60 b, ne_eqb byte 62 c, ne_eqb byte 34 d, ne_eqb byte 39 e) refl

high : (bytes : List ℕ) → ((k : ℕ) → k < length bytes → 128 ≤ get_or bytes k 0) → escaped bytes ≡ bytes
high [] above = refl
high (byte ∷ bytes) above =
    let big : 128 ≤ byte = above 0 (omega arith) in
    ap₂ (λ (front rest : List ℕ). front ++ rest) (kept byte (λ e. omega (arith, e, big)) (λ e. omega (arith, e, big)) (λ e. omega (arith, e, big)) (λ e. omega (arith, e, big)) (λ e. omega (arith, e, big)))
    (high bytes (λ k below. above (suc k) (omega arith)))

-- and so does a character
pub kept_letter : (letter : ℕ) → letter ≢ 38 → letter ≢ 60 → letter ≢ 62 → letter ≢ 34 → letter ≢ 39 → escaped (encode_utf8 letter) ≡ encode_utf8 letter
kept_letter letter a b c d e = elim (cases_lt letter 128) [
  | inl small ↦ rw (encode_ascii letter small) (append-nil (escaped_byte letter) ∙ kept letter a b c d e)
  | inr big ↦ high (encode_utf8 letter) (λ k below. elim (cases_lt (get_or (encode_utf8 letter) k 0) 128) [
    | inl low ↦ absurd (omega (arith, inside_one letter [] (encode_utf8 letter) k (sym (append-nil _)) below low))
    | inr above ↦ above
  ])
]

-- the front of a text is escaped by itself
pub front : (letter : ℕ) (text rest : List ℕ) → text ≡ encode_utf8 letter ++ rest → escaped text ≡ escaped (encode_utf8 letter) ++ escaped rest
front letter text rest is = ap escaped is ∙ flat_map-append escaped_byte (encode_utf8 letter) rest

pub at_end : (text : List ℕ) → length text ≡ 0 → escaped text ≡ []
at_end [] e = refl
at_end (byte ∷ text) e = absurd (omega (arith, e))
