-- A line of a staff file: the staff number, the limit, the SHA-256 of the secret and the name, with one space between them.
use Rattle.std.specs.Prelude.{ℕ, ◌==◌, nat_le, Bool, true, not, ◌&&◌, if◌then◌else◌, List, [], ◌∷◌, length, Option, Some, None}
use Rattle.std.specs.Char.{is_ascii_uppercase, is_control}
use Rattle.std.specs.List.{list_any, slice_split}
use Rattle.std.specs.Option.{option_and_then}
use Rattle.std.specs.Result.{result_ok}
use Rattle.std.specs.Str.{chars}
use Rattle.hex.specs.Hex.{decode_sized}
use Rattle.pay_clerks.specs.Clerks.{ClerkOf}
use Rattle.pay_clerks.specs.Numerals.{number_within}
use Rattle.pay_clerks.specs.Parts.{parted}
use Rattle.pay_clerks.specs.declared.limits.TheConstants.{MOST_LIMIT, MOST_NAME, MOST_STAFF}
use Rattle.pay_clerks.specs.declared.line.Row.{Row}

-- a line that says nothing is empty, or begins with #, 35
abbrev pub is_skipped : List ℕ → Bool
is_skipped [] = true
is_skipped (first ∷ more) = first == 35

abbrev pub staff_of : List ℕ → Option ℕ
staff_of = number_within 1 MOST_STAFF

abbrev pub limit_of : List ℕ → Option ℕ
limit_of = number_within 0 MOST_LIMIT

-- the 32 bytes of 64 hexadecimal digits, none of them a capital
abbrev pub digest_of : List ℕ → Option (List ℕ)
digest_of word = if list_any is_ascii_uppercase word then None else result_ok (decode_sized word 32)

-- 32
abbrev pub is_space : ℕ → Bool
is_space byte = byte == 32

-- a space stands first or last, or two stand side by side, or there is nothing: then one of the words is empty
abbrev pub has_gap : List ℕ → Bool
has_gap text = list_any (λ (word : List ℕ). length word == 0) (slice_split is_space text)

abbrev pub is_name_length : ℕ → Bool
is_name_length count = nat_le count MOST_NAME

-- a name has up to 64 characters, none of them a control character, and its words have one space between them
abbrev pub is_name : List ℕ → Bool
is_name text = is_name_length (length (chars text)) && not (list_any is_control (chars text)) && not (has_gap text)

abbrev pub if_name : List ℕ → Option (List ℕ)
if_name text = if is_name text then Some text else None

infixl 10 ◌>>=◌
abbrev ◌>>=◌ : {A B : Type 0} → Option A → (A → Option B) → Option B
option >>= f = option_and_then f option

-- the clerk of a line, if it is one's
abbrev pub clerk_of_line : List ℕ → Option ClerkOf
clerk_of_line line = do
  staff_and ← parted is_space line
  limit_and ← parted is_space staff_and.1
  secret_and ← parted is_space limit_and.1
  staff ← staff_of staff_and.0
  limit ← limit_of limit_and.0
  secret ← digest_of secret_and.0
  name ← if_name secret_and.1
  Some (record { staff = staff; limit = limit; secret = secret; name = name })

-- a clerk as the row of a line
abbrev pub clerk_of_row : Row → ClerkOf
clerk_of_row row = record { staff = row.staff; limit = row.limit; secret = row.secret; name = row.name.now }
