-- A line of STATS: a number for each name.
use Rattle.std.specs.Prelude.{ℕ, ◌==◌, ◌&&◌, nat_eq, nat_le, nat_lt, Bool, false, List, length, drop, Option, Some, None, if◌then◌else◌, codes}
use Rattle.std.specs.Char.{is_ascii_digit}
use Rattle.std.specs.List.{after_first, before_first, list_all, position_or_len, slice_split, starts_with}
use Rattle.std.specs.Option.{option_and_then}
use Rattle.pay_metrics.specs.declared.limits.TheConstants.{MOST_DIGITS}

-- what stands behind a front that a text begins with
abbrev pub after : List ℕ → List ℕ → Option (List ℕ)
after front text = if starts_with nat_eq text front then Some (drop (length front) text) else None

-- = is byte 61
abbrev pub is_equals : ℕ → Bool
is_equals byte = byte == 61

-- what stands before the first = and behind it, if there is one
unfoldable pub parted : List ℕ → Option (List ℕ × List ℕ)
parted text = if nat_lt (position_or_len is_equals text) (length text) then Some (before_first is_equals text, after_first is_equals text) else None

-- 1 to 20 digits
abbrev pub is_number : List ℕ → Bool
is_number text = nat_le 1 (length text) && nat_le (length text) MOST_DIGITS && list_all is_ascii_digit text

-- a name, = and a number
abbrev pub has_number : Option (List ℕ × List ℕ) → Bool
has_number None = false
has_number (Some it) = is_number it.1

abbrev pub is_field : List ℕ → Bool
is_field text = has_number (parted text)

-- what one space, 32, stands between
abbrev pub fields_in : List ℕ → List (List ℕ)
fields_in text = slice_split (λ (byte : ℕ). byte == 32) text

abbrev pub are_fields : List ℕ → Bool
are_fields text = list_all is_field (fields_in text)

abbrev pub if_fields : List ℕ → Option (List ℕ)
if_fields text = if are_fields text then Some text else None

-- the fields of a line of STATS, if it is one
abbrev pub fields_of : List ℕ → Option (List ℕ)
fields_of line = option_and_then if_fields (after (codes "STATS ") line)
