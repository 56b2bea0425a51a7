-- Which bytes stand in numerals and in subjects.
use Rattle.std.proofs.Common.{◌≡◌, ℕ, ◌≤◌, ◌<◌, ◌^◌, Bool, true, false, not, ◌&&◌, List, [], ◌∷◌, length, refl, sym, arith}
use Rattle.std.specs.Prelude.{decimal, ◌==◌}
use Rattle.std.specs.List.{list_all, list_any}
use Rattle.std.specs.Str.Parse.{AllDigits}
use Rattle.std.proofs.lemmas.Bool.{and_parts, ne_eqb}
use Rattle.std.proofs.lemmas.Fmt.{decimal_is_IsNumeral}
use Rattle.std.proofs.lemmas.Str.Parse.{digit_from_value}
use Rattle.pay_nats.specs.Frames.{is_text}
use Rattle.pay_nats.specs.Parts.{is_space}
use Rattle.pay_nats.specs.Faults.{is_newline}
use Rattle.pay_nats.specs.Subjects.{is_subject, is_visible}
use Rattle.pay_nats.proofs.Firsts.{none_of}

pub not_true : (b : Bool) → not b ≡ true → b ≡ false
not_true true e = sym e
not_true false e = refl

pub no_digit : (p : ℕ → Bool) → ((c : ℕ) → 48 ≤ c → c ≤ 57 → p c ≡ false) → (ds : List ℕ) → AllDigits 10 ds → list_any p ds ≡ false
no_digit p apart [] all = refl
no_digit p apart (c ∷ ds) all =
    let digit = digit_from_value c all.0 in
    rw (apart c (omega arith) (omega arith)) (no_digit p apart ds all.1)

-- no numeral has a space, a CR or an LF
pub no_space_in : (n : ℕ) → n < 2 ^ 64 → list_any is_space (decimal n) ≡ false
no_space_in n small = no_digit is_space (λ c low high. ne_eqb c 32 (λ e. omega arith)) (decimal n) (decimal_is_IsNumeral n small).0.1

pub no_newline_in : (n : ℕ) → n < 2 ^ 64 → list_any is_newline (decimal n) ≡ false
no_newline_in n small = no_digit is_newline (λ c low high. ne_eqb c 10 (λ e. omega arith)) (decimal n) (decimal_is_IsNumeral n small).0.1

visible_parts : (b : ℕ) → is_visible b ≡ true → (is_space b ≡ false) × (is_newline b ≡ false)
visible_parts b e =
    let outer = and_parts (not (b == 32) && not (b == 9) && not (b == 13)) (not (b == 10)) e in
    let middle = and_parts (not (b == 32) && not (b == 9)) (not (b == 13)) outer.0 in
    let inner = and_parts (not (b == 32)) (not (b == 9)) middle.0 in
    (not_true (b == 32) inner.0, not_true (b == 10) outer.1)

pub no_newline_visible : (b : ℕ) → is_visible b ≡ true → is_newline b ≡ false
no_newline_visible b e = (visible_parts b e).1

-- nor has a subject
pub no_space_of : (name : List ℕ) → is_subject name ≡ true → list_any is_space name ≡ false
no_space_of name e = none_of is_space is_visible (λ b is. (visible_parts b is).0) name (and_parts (not (length name == 0)) (list_all is_visible name) e).1

pub no_newline_of : (name : List ℕ) → is_subject name ≡ true → list_any is_newline name ≡ false
no_newline_of name e = none_of is_newline is_visible (λ b is. (visible_parts b is).1) name (and_parts (not (length name == 0)) (list_all is_visible name) e).1

-- nor a text an LF
pub no_newline_text : (text : List ℕ) → is_text text ≡ true → list_any is_newline text ≡ false
no_newline_text text e = none_of is_newline (λ b. not (b == 13) && not (b == 10)) (λ b is. not_true (b == 10) (and_parts (not (b == 13)) (not (b == 10)) is).1) text e
