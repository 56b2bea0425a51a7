-- No field of a row calls for quotes, so that a row is its fields with commas between them.
use Rattle.std.proofs.Common.{◌≡◌, ◌≢◌, ℕ, zero, suc, ◌+◌, ◌/◌, ◌%◌, Bool, true, false, List, [], ◌∷◌, ◌++◌, Option, Some, None, codes, refl, ap, append-nil, arith}
use Rattle.std.proofs.lemmas.Bool.{ne_eqb}
use Rattle.std.proofs.lemmas.List.Folds.{list_any-append}
use Rattle.std.specs.Prelude.{◌==◌, nat_lt, if◌then◌else◌, decimal}
use Rattle.std.specs.Fmt.{digits, digits_onto, digit_glyph}
use Rattle.std.specs.List.{list_any, join_with_byte}
use Rattle.csv.specs.Writing.{default_writer, needs_byte, needs_quotes, fields_text, is_blank, row_body, row_text}
use Rattle.pay_tables.specs.declared.band.Band.{Band}
use Rattle.pay_tables.specs.declared.band.Cover.{Cover}
use Rattle.pay_tables.specs.declared.band.Cover.TheVariants.{Buses, Zones}
use Rattle.pay_tables.specs.Words.{FareEditions, on}
use Rattle.pay_rules.specs.declared.shown.Line.{Line}
use Rattle.pay_rules.specs.declared.shown.LineKind.{LineKind}
use Rattle.pay_rules.specs.declared.shown.LineKind.TheVariants as kind
use Rattle.pay_rules.specs.KindWords.{word_of_kind}
use Rattle.pay_statement.specs.Statement.{leading_zero, two_digits, time_of_day, cover_name, band_name, band_at, columns, fields_of_line, row}

-- ---- bytes that fail a test

one_more : (p : ℕ → Bool) (b : ℕ) (bs : List ℕ) → p b ≡ false → list_any p bs ≡ false → list_any p (b ∷ bs) ≡ false
one_more p b bs e f = rw (e, f) refl

both : (p : ℕ → Bool) (xs ys : List ℕ) → list_any p xs ≡ false → list_any p ys ≡ false → list_any p (xs ++ ys) ≡ false
both p xs ys e f = rw (list_any-append p xs ys, e, f) refl

either : (p : ℕ → Bool) (test : Bool) (xs ys : List ℕ) → list_any p xs ≡ false → list_any p ys ≡ false → list_any p (if test then xs else ys) ≡ false
either p true xs ys e f = e
either p false xs ys e f = f

-- the digits of a number, where no digit passes
digits_of : (p : ℕ → Bool) → ((d : ℕ) → p (digit_glyph false d) ≡ false) → (k n : ℕ) (more : List ℕ) → list_any p more ≡ false → list_any p (digits_onto k 10 false n more) ≡ false
digits_of p each zero n more e = e
digits_of p each (suc k) n more e =
    let front = one_more p (digit_glyph false (n % 10)) more (each (n % 10)) e in
    either p (n / 10 == 0) _ _ front (digits_of p each k (n / 10) _ front)

decimal_of : (p : ℕ → Bool) → ((d : ℕ) → p (digit_glyph false d) ≡ false) → (n : ℕ) → list_any p (decimal n) ≡ false
unfolding digits
decimal_of p each n = digits_of p each 64 n [] refl

-- ---- bytes that call for quotes

-- a byte that is no comma, no quote and no end of a line calls for none
other : (b : ℕ) → b ≢ 44 → b ≢ 34 → b ≢ 13 → b ≢ 10 → needs_byte default_writer b ≡ false
other b comma quote feed line = rw (ne_eqb b 44 comma, ne_eqb b 34 quote, ne_eqb b 13 feed, ne_eqb b 10 line) refl

glyph : (small : Bool) (d : ℕ) → needs_byte default_writer (if small then 48 + d else (if false then 55 + d else 87 + d)) ≡ false
glyph true d = other (48 + d) (λ e. omega arith) (λ e. omega arith) (λ e. omega arith) (λ e. omega arith)
glyph false d = other (87 + d) (λ e. omega arith) (λ e. omega arith) (λ e. omega arith) (λ e. omega arith)

-- a field calls for no quotes
abbrev IsPlain : List ℕ → Type 0
IsPlain field = needs_quotes default_writer field ≡ false

number_plain : (n : ℕ) → IsPlain (decimal n)
number_plain n = decimal_of (needs_byte default_writer) (λ d. glyph (nat_lt d 10) d) n

kind_plain : (what : LineKind) → IsPlain (word_of_kind what)
kind_plain kind.Rail = refl
kind_plain kind.Same = refl
kind_plain kind.Lone = refl
kind_plain kind.Bus = refl

two_digits_plain : (n : ℕ) → IsPlain (two_digits n)
two_digits_plain n =
    both (needs_byte default_writer) (leading_zero n) (decimal n) (either (needs_byte default_writer) (nat_lt n 10) (codes "0") [] refl refl) (number_plain n)

time_plain : (second : ℕ) → IsPlain (time_of_day second)
time_plain second =
    let hours = two_digits (second / 3_600) in
    let minutes = two_digits (second / 60 % 60) in
    let p = needs_byte default_writer in
    both p (hours ++ codes ":" ++ minutes ++ codes ":") (two_digits (second % 60))
    (both p (hours ++ codes ":" ++ minutes) (codes ":")
    (both p (hours ++ codes ":") minutes (both p hours (codes ":") (two_digits_plain (second / 3_600)) refl) (two_digits_plain (second / 60 % 60))) refl)
    (two_digits_plain (second % 60))

cover_plain : (cover : Cover) → IsPlain (cover_name cover)
cover_plain Buses = refl
cover_plain (Zones zones) =
    let p = needs_byte default_writer in
    both p (decimal zones.from ++ codes "-") (decimal zones.to) (both p (decimal zones.from) (codes "-") (number_plain zones.from) refl) (number_plain zones.to)

band_plain : (band : Option Band) → IsPlain (band_name band)
band_plain None = refl
band_plain (Some band) = cover_plain band.cover

-- ---- rows

-- each field of a row calls for no quotes
abbrev ArePlain : List (List ℕ) → Type 0
ArePlain [] = Unit {0}
ArePlain (field ∷ fields) = IsPlain field × ArePlain fields

body : (field : List ℕ) (fields : List (List ℕ)) → ArePlain (field ∷ fields) → row_body default_writer (field ∷ fields) ≡ join_with_byte 44 (field ∷ fields)
unfolding fields_text
body field [] plain = rw plain.0 (append-nil field)
body field (next ∷ fields) plain = rw plain.0 (ap (λ (rest : List ℕ). field ++ (44 ∷ rest)) (body next fields plain.1))

-- fields of which there are two or more
plain_row : (field next : List ℕ) (fields : List (List ℕ)) → ArePlain (field ∷ next ∷ fields) → row_text default_writer (field ∷ next ∷ fields) ≡ row (field ∷ next ∷ fields)
unfolding is_blank
plain_row field next fields plain = ap (λ (text : List ℕ). text ++ codes "\n") (body field (next ∷ fields) plain)

pub row_of_columns : row_text default_writer columns ≡ row columns
row_of_columns = plain_row (codes "day") (codes "kind") _ (refl, (refl, (refl, (refl, (refl, (refl, (refl, tt)))))))

pub row_of_line : (editions : FareEditions) (line : Line) → row_text default_writer (fields_of_line editions line) ≡ row (fields_of_line editions line)
row_of_line editions line =
    plain_row (decimal line.day) (word_of_kind line.kind) _
    (number_plain line.day, (kind_plain line.kind, (number_plain line.from, (number_plain line.to, (time_plain line.second, (number_plain line.fare, (band_plain (band_at (on editions line.day) line.band), tt)))))))
