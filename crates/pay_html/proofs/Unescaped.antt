-- What escaped text tells of the text itself.
use Rattle.std.proofs.Common.{◌≡◌, ◌≢◌, ℕ, ◌+◌, ◌<◌, ◌==◌, if◌then◌else◌, Bool, true, false, not, ◌&&◌, List, [], ◌∷◌, ◌++◌, length, get_or, codes, Contains, ◌⊎◌, inl, inr, refl, sym, ap, ap₂, ◌∙◌, subst, append-nil, append_assoc, arith, ne_eqb, drop, true≢false}
use Rattle.std.specs.List.{list_all}
use Rattle.std.proofs.lemmas.Bool.{and_parts, cases_eq}
use Rattle.std.proofs.lemmas.List.{append_cancel_left}
use Rattle.std.proofs.lemmas.List.Folds.{list_all-append}
use Rattle.pay_html.specs.Escapes.{escaped_byte, escaped}
use Rattle.pay_html.specs.Laws.{is_no_markup, NoMarkup, entities, AmpersandsBeginEntities, OneTextEach}
use Rattle.pay_html.proofs.Letters.{kept}

-- a byte is one of the five that entities stand for, or stays
record Stays (byte : ℕ) : Type 0 where
  amp : byte ≢ 38
  less : byte ≢ 60
  more : byte ≢ 62
  quote : byte ≢ 34
  apostrophe : byte ≢ 39

-- what is so of each of the five and of all that stay is so of every byte
by_byte : (P : ℕ → Type 0) → P 38 → P 60 → P 62 → P 34 → P 39 → ((byte : ℕ) → Stays byte → P byte) → (byte : ℕ) → P byte
by_byte P amp less more quote apostrophe others byte = elim (cases_eq byte 38) [
  | inl same ↦ subst P (sym same) amp
  | inr a ↦ elim (cases_eq byte 60) [
    | inl same ↦ subst P (sym same) less
    | inr b ↦ elim (cases_eq byte 62) [
      | inl same ↦ subst P (sym same) more
      | inr c ↦ elim (cases_eq byte 34) [
        | inl same ↦ subst P (sym same) quote
        | inr d ↦ elim (cases_eq byte 39) [
          | inl same ↦ subst P (sym same) apostrophe
          | inr e ↦ others byte (record { amp = a; less = b; more = c; quote = d; apostrophe = e })
        ]
      ]
    ]
  ]
]

stays : (byte : ℕ) → Stays byte → escaped_byte byte ≡ byte ∷ []
stays byte s = kept byte s.amp s.less s.more s.quote s.apostrophe

-- ---- no markup

no_markup_byte : (byte : ℕ) → list_all is_no_markup (escaped_byte byte) ≡ true
no_markup_byte =
    by_byte (λ byte. list_all is_no_markup (escaped_byte byte) ≡ true) refl refl refl refl refl
    (λ byte s. rw (stays byte s, ne_eqb byte 60 s.less, ne_eqb byte 62 s.more, ne_eqb byte 34 s.quote, ne_eqb byte 39 s.apostrophe) refl)

pub no_markup : NoMarkup
no_markup [] = refl
no_markup (byte ∷ text) = rw (list_all-append is_no_markup (escaped_byte byte) (escaped text), no_markup_byte byte, no_markup text) refl

-- ---- the byte that the front of an escaped text stands for

abbrev named : ℕ → ℕ
named letter = if letter == 97 then 38 else if letter == 108 then 60 else if letter == 103 then 62 else if letter == 113 then 34 else 39

abbrev first_of : List ℕ → ℕ
first_of text = if get_or text 0 0 == 38 then named (get_or text 1 0) else get_or text 0 0

reads : (rest : List ℕ) (byte : ℕ) → first_of (escaped_byte byte ++ rest) ≡ byte
reads rest = by_byte (λ byte. first_of (escaped_byte byte ++ rest) ≡ byte) refl refl refl refl refl (λ byte s. rw (stays byte s, ne_eqb byte 38 s.amp) refl)

not_empty : (rest : List ℕ) (byte : ℕ) → 0 < length (escaped_byte byte ++ rest)
not_empty rest = by_byte (λ byte. 0 < length (escaped_byte byte ++ rest)) (omega arith) (omega arith) (omega arith) (omega arith) (omega arith) (λ byte s. rw (stays byte s) (omega arith))

pub one_text_each : OneTextEach
one_text_each [] [] e = refl
one_text_each [] (byte ∷ other) e = absurd (omega (arith, ap length e, not_empty (escaped other) byte))
one_text_each (byte ∷ one) [] e = absurd (omega (arith, ap length e, not_empty (escaped one) byte))
one_text_each (byte ∷ one) (second ∷ other) e =
    let same : byte ≡ second = sym (reads (escaped one) byte) ∙ ap first_of e ∙ reads (escaped other) second in
    let rest = append_cancel_left (escaped_byte second) (escaped one) (escaped other) (ap (λ (b : ℕ). escaped_byte b ++ escaped one) (sym same) ∙ e) in
    ap₂ (λ (b : ℕ) (bs : List ℕ). b ∷ bs) same (one_text_each one other rest)

-- ---- where an & stands

-- past bytes that are none
past : (front rest before after : List ℕ) → list_all (λ byte. not (byte == 38)) front ≡ true → front ++ rest ≡ before ++ 38 ∷ after → (more : List ℕ) × (rest ≡ more ++ 38 ∷ after)
past [] rest before after none e = (before, e)
past (byte ∷ front) rest [] after none e =
    let p = and_parts (not (byte == 38)) _ none in
    let same : byte ≡ 38 = ap (λ (bytes : List ℕ). get_or bytes 0 0) e in
    absurd (true≢false (sym p.0 ∙ ap (λ (b : ℕ). not (b == 38)) same))
past (byte ∷ front) rest (first ∷ before) after none e =
    let p = and_parts (not (byte == 38)) _ none in past front rest before after p.1 (ap (λ (bytes : List ℕ). drop 1 bytes) e)

-- of a byte's escaped text the first may be one, and then it begins an entity
abbrev BeginsHere : ℕ → Type 0
BeginsHere byte =
    (rest before after : List ℕ) → escaped_byte byte ++ rest ≡ before ++ 38 ∷ after
    → ((entity : List ℕ) × Contains entities entity × (38 ∷ after ≡ entity ++ rest)) ⊎ ((more : List ℕ) × (rest ≡ more ++ 38 ∷ after))

of_an_entity : (byte : ℕ) (name : List ℕ) → escaped_byte byte ≡ 38 ∷ name → list_all (λ b. not (b == 38)) name ≡ true → Contains entities (38 ∷ name) → BeginsHere byte
of_an_entity byte name is none known rest [] after e = inl (38 ∷ name, known, sym e ∙ ap (λ (bytes : List ℕ). bytes ++ rest) is)
of_an_entity byte name is none known rest (first ∷ before) after e =
    inr (past name rest before after none (ap (λ (bytes : List ℕ). drop 1 bytes) (sym (ap (λ (bytes : List ℕ). bytes ++ rest) is) ∙ e)))

begins : (byte : ℕ) → BeginsHere byte
begins =
    by_byte BeginsHere (of_an_entity 38 (codes "amp;") refl refl (0, omega arith, refl)) (of_an_entity 60 (codes "lt;") refl refl (1, omega arith, refl))
    (of_an_entity 62 (codes "gt;") refl refl (2, omega arith, refl)) (of_an_entity 34 (codes "quot;") refl refl (3, omega arith, refl))
    (of_an_entity 39 (codes "#39;") refl refl (4, omega arith, refl))
    (λ byte s rest before after e. inr (past (byte ∷ []) rest before after (rw (ne_eqb byte 38 s.amp) refl) (sym (ap (λ (bytes : List ℕ). bytes ++ rest) (stays byte s)) ∙ e)))

pub ampersands_begin : AmpersandsBeginEntities
ampersands_begin [] [] after e = absurd (omega (arith, ap length e))
ampersands_begin [] (first ∷ before) after e = absurd (omega (arith, ap length e))
ampersands_begin (byte ∷ text) before after e = elim (begins byte (escaped text) before after e) [
  | inl here ↦ (here.0, escaped text, here.1, here.2)
  | inr later ↦ ampersands_begin text later.0 after later.1
]
