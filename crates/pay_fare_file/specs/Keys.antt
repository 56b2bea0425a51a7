-- What stands at one key of a table, or the fault there.
use Rattle.std.specs.Prelude.{ℕ, suc, ℤ, pos, negsuc, List, Option, Some, None, Result, Ok, Err, nat_le, nat_lt, ◌&&◌, if◌then◌else◌, ok_or}
use Rattle.toml.specs.Data.{Data, Items, no_items, item, Members, get_member, as_integer, as_table, as_array}
use Rattle.pay_fare_file.specs.declared.fault.FareFileFault.{FareFileFault}
use Rattle.pay_fare_file.specs.declared.fault.FareFileFault.TheVariants.{MissingKey, WrongType, OutOfRange, TooMany}
use Rattle.pay_fare_file.specs.Fault.{◌>>=◌}

-- what a key holds, where the key must be there
abbrev pub needed : {X : Type 0} → (Data → Result X FareFileFault) → Option Data → Result X FareFileFault
needed read None = Err MissingKey
needed read (Some d) = read d

-- an integer from least to most; one below 0 is in no range
abbrev pub integer_in : ℕ → ℕ → ℤ → Result ℕ FareFileFault
integer_in least most (pos n) = if nat_le least n && nat_le n most then Ok n else Err OutOfRange
integer_in least most (negsuc n) = Err OutOfRange

abbrev pub integer_of : ℕ → ℕ → Data → Result ℕ FareFileFault
integer_of least most d = do
  n ← ok_or (as_integer d) WrongType
  integer_in least most n

abbrev pub integer_at : List ℕ → ℕ → ℕ → Members → Result ℕ FareFileFault
integer_at key least most ms = needed (integer_of least most) (get_member key ms)

-- a table
abbrev pub table_of : Data → Result Members FareFileFault
table_of d = ok_or (as_table d) WrongType

abbrev pub table_at : List ℕ → Members → Result Members FareFileFault
table_at key ms = needed table_of (get_member key ms)

-- an array
abbrev pub array_of : Data → Result Items FareFileFault
array_of d = ok_or (as_array d) WrongType

abbrev pub array_at : List ℕ → Members → Result Items FareFileFault
array_at key ms = needed array_of (get_member key ms)

-- how many items
abbrev pub items_len : Items → ℕ
items_len no_items = 0
items_len (item d ds) = suc (items_len ds)

-- an array of at most so many items, which may be missing
abbrev pub items_of : ℕ → Data → Result Items FareFileFault
items_of most d = do
  ds ← array_of d
  if nat_lt most (items_len ds) then Err TooMany else Ok ds

abbrev pub items_or_none : ℕ → Option Data → Result Items FareFileFault
items_or_none most None = Ok no_items
items_or_none most (Some d) = items_of most d

abbrev pub items_at : List ℕ → ℕ → Members → Result Items FareFileFault
items_at key most ms = items_or_none most (get_member key ms)
