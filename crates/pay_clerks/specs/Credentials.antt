-- What a browser sends in the field `Authorization`, as RFC 7617 has it.
use Rattle.std.specs.Prelude.{ℕ, ◌==◌, nat_eq, nat_le, Bool, if◌then◌else◌, List, length, drop, Option, Some, None, codes}
use Rattle.std.specs.List.{starts_with}
use Rattle.std.specs.Option.{option_and_then}
use Rattle.base64.specs.Engines.{standard}
use Rattle.base64.specs.GeneralPurpose.{decoded_of}
use Rattle.pay_clerks.specs.Parts.{parted}
use Rattle.pay_clerks.specs.declared.limits.TheConstants.{MOST_SYMBOLS}

-- the symbols of base64 in a value, which follow `Basic` and a space
abbrev pub symbols_of : List ℕ → Option (List ℕ)
symbols_of value = if starts_with nat_eq value (codes "Basic ") then Some (drop 6 value) else None

-- what they stand for, if they are no more than are read
abbrev pub decoded : List ℕ → Option (List ℕ)
decoded symbols = if nat_le (length symbols) MOST_SYMBOLS then decoded_of standard symbols else None

-- 58
abbrev pub is_colon : ℕ → Bool
is_colon byte = byte == 58

-- what stands there before the first colon and after it: the number and the secret
abbrev pub credentials_of : List ℕ → Option (List ℕ × List ℕ)
credentials_of value = option_and_then (parted is_colon) (option_and_then decoded (symbols_of value))
