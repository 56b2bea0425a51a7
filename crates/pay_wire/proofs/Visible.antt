-- Words whose bytes are seen: none is a space or a newline.
use Rattle.std.proofs.Common.{◌≡◌, ℕ, ◌^◌, ◌<◌, ◌≤◌, Bool, true, ltb, ◌&&◌, List, [], ◌∷◌, ◌++◌, refl, ap, ◌∙◌, arith}
use Rattle.std.specs.Prelude.{decimal, ◌==◌}
use Rattle.std.specs.List.{slice_split, join_with_byte, AllByRecursion}
use Rattle.std.specs.Str.Parse.{AllDigits}
use Rattle.std.proofs.lemmas.Bool.{and_parts, and_from, ltb-true, lt-ltb, ne_eqb, eq-eqb}
use Rattle.std.proofs.lemmas.Fmt.{digits_decimal}
use Rattle.std.proofs.lemmas.Str.Parse.{digit_from_value}
use Rattle.pay_wire.specs.Fields.{words}
use Rattle.pay_wire.proofs.Digits.{own}

abbrev pub is_visible : List ℕ → Bool
is_visible [] = true
is_visible (b ∷ bs) = ltb 32 b && is_visible bs

digits_visible : (ds : List ℕ) → AllDigits 10 ds → is_visible ds ≡ true
digits_visible [] h = refl
digits_visible (d ∷ ds) h = and_from _ _ (lt-ltb 32 d (let r = digit_from_value d h.0 in omega (arith, r))) (digits_visible ds h.1)

pub decimal_visible : (n : ℕ) → n < 2 ^ 64 → is_visible (decimal n) ≡ true
decimal_visible n lt = digits_visible (decimal n) (own.to (decimal n) (digits_decimal own n lt))

-- cut at a byte that no visible one is
abbrev pub pieces : ℕ → List ℕ → List (List ℕ)
pieces c bytes = slice_split (λ b. b == c) bytes

last_piece : (c : ℕ) → c ≤ 32 → (word : List ℕ) → is_visible word ≡ true → pieces c word ≡ word ∷ []
last_piece c low [] seen = refl
last_piece c low (b ∷ bs) seen =
    let p = and_parts _ _ seen in
    let above : 32 < b = ltb-true 32 b p.0 in
    rw (ne_eqb b c (λ e. absurd (omega arith)), last_piece c low bs p.1) refl

first_piece : (c : ℕ) → c ≤ 32 → (word rest : List ℕ) → is_visible word ≡ true → pieces c (word ++ c ∷ rest) ≡ word ∷ pieces c rest
first_piece c low [] rest seen = rw (eq-eqb c c refl) refl
first_piece c low (b ∷ bs) rest seen =
    let p = and_parts _ _ seen in
    let above : 32 < b = ltb-true 32 b p.0 in
    rw (ne_eqb b c (λ e. absurd (omega arith)), first_piece c low bs rest p.1) refl

abbrev pub AllVisible : List (List ℕ) → Type 0
AllVisible ws = AllByRecursion (λ w. is_visible w ≡ true) ws

-- words with one space between each two are those words
pub words_joined : (w : List ℕ) (ws : List (List ℕ)) → AllVisible (w ∷ ws) → words (join_with_byte 32 (w ∷ ws)) ≡ w ∷ ws
words_joined w [] seen = last_piece 32 (omega arith) w seen.0
words_joined w (v ∷ vs) seen =
    first_piece 32 (omega arith) w (join_with_byte 32 (v ∷ vs)) seen.0 ∙ ap (λ (ws : List (List ℕ)). w ∷ ws) (words_joined v vs seen.1)

-- the bytes of words with one space between each two: none is below a space
abbrev pub IsText : List ℕ → Type 0
IsText bytes = AllByRecursion (λ b. 32 ≤ b) bytes

text_of_visible : (word rest : List ℕ) → is_visible word ≡ true → IsText rest → IsText (word ++ rest)
text_of_visible [] rest seen h = h
text_of_visible (b ∷ bs) rest seen h =
    let p = and_parts _ _ seen in
    let above : 32 < b = ltb-true 32 b p.0 in
    (omega arith, text_of_visible bs rest p.1 h)

visible_text : (word : List ℕ) → is_visible word ≡ true → IsText word
visible_text [] seen = tt
visible_text (b ∷ bs) seen =
    let p = and_parts _ _ seen in
    let above : 32 < b = ltb-true 32 b p.0 in
    (omega arith, visible_text bs p.1)

pub text_joined : (ws : List (List ℕ)) → AllVisible ws → IsText (join_with_byte 32 ws)
text_joined [] seen = tt
text_joined (w ∷ []) seen = visible_text w seen.0
text_joined (w ∷ v ∷ vs) seen = text_of_visible w (32 ∷ join_with_byte 32 (v ∷ vs)) seen.0 (omega arith, text_joined (v ∷ vs) seen.1)
