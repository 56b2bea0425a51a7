-- The names that a fare file gives its stations, its routes and its operators, and its currency.
use Rattle.std.specs.Prelude.{ℕ, ◌==◌, nat_le, Bool, not, ◌&&◌, if◌then◌else◌, List, [], ◌∷◌, ◌++◌, length, find, option_map, Option, Some, None, option_and_then, Result, Ok, Err, codes}
use Rattle.std.specs.Char.{is_ascii_uppercase, is_control}
use Rattle.std.specs.List.{list_all, list_any}
use Rattle.pay_money.specs.declared.limits.TheConstants.{OPERATORS}
use Rattle.std.specs.Str.{chars}
use Rattle.toml.specs.Data.{Items, no_items, item, Members, get_member, as_str, as_array, as_table}
use Rattle.toml.specs.Parse.{parse_document}
use Rattle.pay_tables.specs.declared.limits.TheConstants.{MOST_PLACE}
use Rattle.pay_fare_file.specs.Keys.{integer_at}
use Rattle.pay_fare_file.specs.Spots.{key_name}
use Rattle.pay_fare_file.specs.declared.fault.FareFileFault.{FareFileFault}
use Rattle.pay_fare_file.specs.declared.key.Key.{Key}
use Rattle.pay_fare_file.specs.declared.key.Key.TheVariants as key
use Rattle.pay_names.specs.declared.reading.TheConstants.{MOST_NAME}

-- numbers of places or of operators, each with its name
abbrev pub Named : Type 0
Named = List (ℕ × List ℕ)

-- the name of a number, if it has one
abbrev pub name_at : ℕ → Named → Option (List ℕ)
name_at number names = option_map (λ (named : ℕ × List ℕ). named.1) (find (λ (named : ℕ × List ℕ). named.0 == number) names)

-- whether characters are a name: 1 to 64, none of them a control character
abbrev pub is_length : ℕ → Bool
is_length count = nat_le 1 count && nat_le count MOST_NAME

abbrev pub is_name : List ℕ → Bool
is_name text = is_length (length text) && not (list_any is_control text)

-- a text, if it is a name
abbrev pub if_name : List ℕ → Option (List ℕ)
if_name text = if is_name (chars text) then Some text else None

-- the name of a table, and its number at a key, from 1 to the most that there may be
abbrev pub name_in : Members → Option (List ℕ)
name_in ms = option_and_then if_name (option_and_then as_str (get_member (codes "name") ms))

abbrev pub if_number : Result ℕ FareFileFault → Option ℕ
if_number (Ok n) = Some n
if_number (Err fault) = None

abbrev pub number_in : Key → ℕ → Members → Option ℕ
number_in k most ms = if_number (integer_at (key_name k) 1 most ms)

-- a table, if it has both
abbrev pub named : Option ℕ → Option (List ℕ) → Named
named None name = []
named (Some number) None = []
named (Some number) (Some name) = (number, name) ∷ []

abbrev pub named_by : Key → ℕ → Option Members → Named
named_by k most None = []
named_by k most (Some ms) = named (number_in k most ms) (name_in ms)

-- those of an array, in order
abbrev pub named_among : Key → ℕ → Items → Named
named_among k most no_items = []
named_among k most (item d ds) = named_by k most (as_table d) ++ named_among k most ds

abbrev pub or_no_items : Option Items → Items
or_no_items None = no_items
or_no_items (Some ds) = ds

abbrev pub items_in : List ℕ → Members → Items
items_in name ms = or_no_items (option_and_then as_array (get_member name ms))

abbrev pub places_among : Items → Named
places_among = named_among key.Place MOST_PLACE

-- the stations of a file that have a name, and then its routes
abbrev pub places_in : Members → Named
places_in ms = places_among (items_in (key_name key.Station) ms) ++ places_among (items_in (key_name key.Route) ms)

-- the operators that have one
abbrev pub operators_in : Members → Named
operators_in ms = named_among key.Operator OPERATORS (items_in (codes "operators") ms)

-- whether a text is a currency: three capital letters
abbrev pub is_currency : List ℕ → Bool
is_currency text = (length text == 3) && list_all is_ascii_uppercase text

abbrev pub if_currency : List ℕ → Option (List ℕ)
if_currency text = if is_currency text then Some text else None

-- that of a file, which is pounds where it says none
abbrev pub or_pounds : Option (List ℕ) → List ℕ
or_pounds None = codes "GBP"
or_pounds (Some currency) = currency

abbrev pub currency_in : Members → List ℕ
currency_in ms = or_pounds (option_and_then if_currency (option_and_then as_str (get_member (codes "currency") ms)))

-- all of this
pub record Called : Type 0 where
  pub places : Named
  pub operators : Named
  pub currency : List ℕ

abbrev pub called_in : Members → Called
called_in ms = record { places = places_in ms; operators = operators_in ms; currency = currency_in ms }

abbrev pub called_in_document : Option Members → Called
called_in_document None = record { places = []; operators = []; currency = codes "GBP" }
called_in_document (Some ms) = called_in ms

-- what a text calls them, which is no TOML, or a file
abbrev pub called_in_text : List ℕ → Called
called_in_text text = called_in_document (parse_document text)
