-- The version of a server, as `2.10.27`.
use Rattle.std.specs.Prelude.{ℕ, ◌≡◌, ◌==◌, nat_lt, Bool, List, length, Option, Some, None, if◌then◌else◌, codes, option_and_then, refl}
use Rattle.std.specs.Fmt.{digits}
use Rattle.std.specs.List.{before_first, after_first, position_or_len}
use Rattle.pay_numeral.specs.Numerals.{number_of}

infixl 10 ◌>>=◌
abbrev ◌>>=◌ : {A B : Type 0} → Option A → (A → Option B) → Option B
option >>= f = option_and_then f option

-- 46
abbrev pub is_dot : ℕ → Bool
is_dot byte = byte == 46

-- what stands before the first dot and after it, if there is one
unfoldable pub parted : List ℕ → Option (List ℕ × List ℕ)
parted text = if nat_lt (position_or_len is_dot text) (length text) then Some (before_first is_dot text, after_first is_dot text) else None

-- the numbers before the first dot and before the second
unfoldable pub version_of : List ℕ → Option (ℕ × ℕ)
version_of version = do
  major_and ← parted version
  minor_and ← parted major_and.1
  major ← number_of major_and.0
  minor ← number_of minor_and.0
  Some (major, minor)

-- ---- worked rows

released : version_of (codes "2.10.27") ≡ Some (2, 10)
unfolding parted version_of digits
released = refl

before_a_release : version_of (codes "2.11.0-beta.1") ≡ Some (2, 11)
unfolding parted version_of digits
before_a_release = refl

two_numbers_alone : version_of (codes "2.11") ≡ None
unfolding parted version_of digits
two_numbers_alone = refl

a_letter_before : version_of (codes "v2.11.0") ≡ None
unfolding parted version_of digits
a_letter_before = refl
