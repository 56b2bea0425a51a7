-- How headers are read, a line at a time. Only private functions have these words in their contracts.
use Rattle.std.specs.Prelude.{ℕ, ◌-◌, nat_eq, Bool, false, List, [], ◌∷◌, length, take, drop, Option, Some, None, find, if◌then◌else◌, codes}
use Rattle.std.specs.List.{slice_split, starts_with}
use Rattle.std.specs.Option.{option_map_or}
use Rattle.std.specs.Str.{bytes_eq}
use Rattle.pay_nats.specs.Headers.{FieldOf, has_name}
use Rattle.pay_nats.specs.Parts.{is_byte, parted}
use Rattle.pay_nats.specs.Reading.{◌>>=◌, if_text}

-- a text without what it begins with, and without the CR at its end
abbrev pub without_front : List ℕ → List ℕ → Option (List ℕ)
without_front front text = if starts_with nat_eq text front then Some (drop (length front) text) else None

abbrev pub before_cr : List ℕ → Option (List ℕ)
before_cr text = if bytes_eq (drop (length text - 1) text) (13 ∷ []) then Some (take (length text - 1) text) else None

-- the field of a line without its LF
unfoldable pub field_in : List ℕ → Option FieldOf
field_in line = do
  name ← parted (is_byte 58) line
  text ← without_front (codes " ") name.1
  value ← before_cr text
  Some (record { name = name.0; value = value })

-- a line is a field with a name
abbrev pub is_of : List ℕ → List ℕ → Bool
is_of name line = option_map_or (has_name name) (field_in line) false

-- the first field with a name, after the first line
unfoldable pub field_at : List ℕ → List ℕ → Option FieldOf
field_at headers name = do
  line ← parted (is_byte 10) headers
  it ← find (is_of name) (slice_split (is_byte 10) line.1)
  field_in it

-- the status in the first line
unfoldable pub status_at : List ℕ → Option (List ℕ)
status_at headers = do
  line ← parted (is_byte 10) headers
  text ← without_front (codes "NATS/1.0 ") line.0
  status ← before_cr text
  if_text status
