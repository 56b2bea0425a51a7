-- The refused lines that are kept, so that somebody can look at them and send them again.
use Rattle.std.specs.Prelude.{◌≡◌, ℕ, ◌==◌, ◌&&◌, ◌/◌, ◌%◌, nat_eq, nat_le, List, [], ◌∷◌, ◌++◌, length, take, drop, codes, decimal, Bool, Option, Some, None, get_or, if◌then◌else◌, refl}
use Rattle.std.specs.Fmt.{digits}
use Rattle.std.specs.List.{flat_map, starts_with}

-- a reply begins so
unfoldable pub is_by : List ℕ → List ℕ → Bool
is_by reply front = starts_with nat_eq reply front

-- The number of the refusal that a reply gives, if its line is kept: refused by a clock, an unknown place, a conflict, an account that is
-- full, or as no line. Any other refusal passes, and the sender comes again.
abbrev pub kept_number : List ℕ → Option ℕ
kept_number reply =
    if is_by reply (codes "NO 1 ") then Some 1
    else if is_by reply (codes "NO 15 ") then Some 15
    else if is_by reply (codes "NO 20 ") then Some 20
    else if is_by reply (codes "NO 21 ") then Some 21
    else if is_by reply (codes "NO 22 ") then Some 22
    else if is_by reply (codes "NO 23 ") then Some 23
    else if is_by reply (codes "NO 50 ") then Some 50
    else if is_by reply (codes "NO 51 ") then Some 51
    else None

-- a digit of base 16
abbrev pub hex_digit : ℕ → ℕ
hex_digit digit = get_or (codes "0123456789abcdef") digit 0

-- a byte as it is kept: printable ASCII as it is, but a backslash twice; any other as `\` and `x` and two digits
abbrev pub escaped : ℕ → List ℕ
escaped byte =
    if byte == 92 then codes "\\\\"
    else if nat_le 32 byte && nat_le byte 126 then byte ∷ []
    else codes "\\x" ++ hex_digit (byte / 16) ∷ hex_digit (byte % 16) ∷ []

-- A line that was refused by a number at an instant, as it is kept.
abbrev pub refused_line : ℕ → ℕ → List ℕ → List ℕ
refused_line number instant line = decimal number ++ 32 ∷ decimal instant ++ 32 ∷ flat_map escaped line ++ 10 ∷ []

abbrev pub noted_by : Option ℕ → ℕ → List ℕ → List ℕ
noted_by None instant line = []
noted_by (Some number) instant line = refused_line number instant line

-- what is kept of a line by its reply, at an instant; nothing where no lines are kept
abbrev pub noted : Option ℕ → List ℕ → List ℕ → List ℕ
noted None reply line = []
noted (Some instant) reply line = noted_by (kept_number reply) instant line

-- Of bytes that came after a begun line, the first line was answered. Of its text, as far as that is kept, what is noted stands behind what
-- was noted before. The pairs have the replies and what is noted, before and after.
pub record NotesLine (instant : Option ℕ) (begun bytes behind : List ℕ) (before after : List ℕ × List ℕ) : Type 0 where
  pub text : List ℕ
  pub cut : bytes ≡ text ++ 10 ∷ behind
  pub noted : after.1 ≡ before.1 ++ noted instant (drop (length before.0) after.0) (take 129 (begun ++ text))

-- ---- worked rows

conflict : noted (Some 1_704_696_200) (codes "NO 20 Conflict\n") (codes "TAP 1 4 7 1704696200 50 BUS") ≡ codes "20 1704696200 TAP 1 4 7 1704696200 50 BUS\n"
unfolding digits is_by
conflict = refl

-- what no keyboard writes, and a backslash
strange : noted (Some 0) (codes "NO 50 BadLine\n") (22 ∷ 3 ∷ 255 ∷ codes "a\\b ~" ++ 127 ∷ 13 ∷ []) ≡ codes "50 0 \\x16\\x03\\xffa\\\\b ~\\x7f\\x0d\n"
unfolding digits is_by
strange = refl

-- each refusal by its whole number
out_of_time : kept_number (codes "NO 1 OutOfTime\n") ≡ Some 1
unfolding digits is_by
out_of_time = refl

fixes_full : kept_number (codes "NO 23 FixesFull\n") ≡ Some 23
unfolding digits is_by
fixes_full = refl

long : kept_number (codes "NO 51 LongLine\n") ≡ Some 51
unfolding digits is_by
long = refl

-- what comes again, what was accepted, and no reply at all
late : kept_number (codes "NO 52 Late\n") ≡ None
unfolding digits is_by
late = refl

not_here : kept_number (codes "NO 34 NotHere\n") ≡ None
unfolding digits is_by
not_here = refl

accepted : noted (Some 1_704_696_200) (codes "OK 19730 175 175\n") (codes "TAP 1 4 7 1704696200 50 BUS") ≡ []
unfolding digits is_by
accepted = refl

nothing : noted (Some 1_704_696_200) [] (codes "TAP 1 4 7") ≡ []
unfolding digits is_by
nothing = refl

-- where no lines are kept
unkept : noted None (codes "NO 20 Conflict\n") (codes "TAP 1 4 7 1704696200 50 BUS") ≡ []
unkept = refl
