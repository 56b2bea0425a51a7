-- What one word is, and which numbers words are.
use Rattle.std.specs.Prelude.{◌==◌, ℕ, List, [], ◌∷◌, codes, Bool, true, Option, Some, None, slice_get, if◌then◌else◌}
use Rattle.std.specs.Str.{bytes_eq, chars}
use Rattle.std.specs.Str.Parse.{digits_value, without_leading_plus}
use Rattle.pay_words.specs.declared.limits.TheConstants.{MOST_ACCOUNT, MOST_PORT, MOST_SERVED_LANES, MOST_SHARDS, MOST_SESSIONS, MOST_AHEAD, LAST_PARTITION, MOST_PARTITIONS, MOST_REPLICAS}
use Rattle.clap.specs.ValueTests.{is_unsigned_in}

abbrev pub Text : Type 0
Text = List ℕ

-- ---- one word

-- what a word is
pub data Word : Type 0 where
  value : Word
  -- `--`, after which each word is a value
  dashes : Word
  -- `--help`, and `-h` with or without more letters
  call_for_help : Word
  -- `--version`, and `-V` with or without more letters
  call_for_version : Word
  -- any other option
  option : Word

-- by the first letter after the hyphen, where there is one, whatever stands after it: `-h` (104)
-- calls for help, and `-V` (86) for the version
abbrev pub kind_by_letter : Option ℕ → Word
kind_by_letter None = value
kind_by_letter (Some c) = if c == 104 then call_for_help
    else (if c == 86 then call_for_version else option)

abbrev pub kind_after_hyphen : Text → Word
kind_after_hyphen rest = if bytes_eq rest (codes "-") then dashes
    else (if bytes_eq rest (codes "-help") then call_for_help
    else (if bytes_eq rest (codes "-version") then call_for_version
    else kind_by_letter (slice_get (chars rest) 0)))

-- a word that begins with a hyphen (45) and goes on is no value
abbrev pub word_kind : Text → Word
word_kind [] = value
word_kind (b ∷ rest) = if b == 45 then kind_after_hyphen rest else value

-- ---- what a value may be

-- what a value has to be, at its place among the values of a program
abbrev pub Reader : Type 0
Reader = Text → Bool

abbrev pub any_text : Reader
any_text word = true

-- a number in its range, as `clap` reads it: decimal digits, of which the first may be zeros, and
-- perhaps a plus before them
abbrev pub is_account : Reader
is_account word = is_unsigned_in 1 MOST_ACCOUNT word

abbrev pub is_port : Reader
is_port word = is_unsigned_in 1 MOST_PORT word

abbrev pub is_lanes : Reader
is_lanes word = is_unsigned_in 1 MOST_SERVED_LANES word

abbrev pub is_shards : Reader
is_shards word = is_unsigned_in 1 MOST_SHARDS word

abbrev pub is_sessions : Reader
is_sessions word = is_unsigned_in 1 MOST_SESSIONS word

abbrev pub is_ahead : Reader
is_ahead word = is_unsigned_in 0 MOST_AHEAD word

abbrev pub is_partition : Reader
is_partition word = is_unsigned_in 0 LAST_PARTITION word

abbrev pub is_partitions : Reader
is_partitions word = is_unsigned_in 1 MOST_PARTITIONS word

abbrev pub is_replicas : Reader
is_replicas word = is_unsigned_in 1 MOST_REPLICAS word

-- the number that such a word is
abbrev pub number_of : Text → ℕ
number_of word = digits_value 10 (without_leading_plus word)
