-- Names, worked by hand.
use Rattle.std.specs.Prelude.{◌≡◌, ℕ, List, Some, None, [], ◌∷◌, ◌++◌, codes, pos, refl}
use Rattle.std.specs.Str.{chars}
use Rattle.toml.specs.Data.{Data, string, integer, array, table, item, Members, no_members, member}
use Rattle.toml.specs.Parse.{parse_document}
use Rattle.toml.proofs.OnLiterals.{toml_on_literals}
use Rattle.pay_fare_file.specs.Rows.{number, one}
use Rattle.pay_names.specs.Names.{Named, called_in, called_in_text, currency_in, if_name, name_at, named_by, operators_in, places_in}
use Rattle.pay_fare_file.specs.declared.key.Key.TheVariants as key

-- ---- what is a name

-- sixteen characters, of which the second has two bytes
abbrev sixteen : List ℕ
sixteen = codes "Z" ++ 0xC3 ∷ 0xBC ∷ codes "rich, Zentrum "

abbrev sixty_four : List ℕ
sixty_four = sixteen ++ sixteen ++ sixteen ++ sixteen

not_too_long : if_name sixty_four ≡ Some sixty_four
unfolding chars
not_too_long = refl

too_long : if_name (sixty_four ++ codes "x") ≡ None
unfolding chars
too_long = refl

empty : if_name [] ≡ None
unfolding chars
empty = refl

two_lines : if_name (codes "Abbey\nCastle") ≡ None
unfolding chars
two_lines = refl

-- a control character of two bytes, U+009B
two_bytes : if_name (codes "Abbey" ++ 0xC2 ∷ 0x9B ∷ []) ≡ None
unfolding chars
two_bytes = refl

-- ---- a station or a route

-- place 10 with this name; the keys of a table are in order
abbrev ten : Data → Members
ten name = member (codes "name") name (number (codes "operator") 1 (number (codes "place") 10 no_members))

abbey : named_by key.Place 65_535 (Some (ten (string (codes "Abbey")))) ≡ (10, codes "Abbey") ∷ []
unfolding chars
abbey = refl

of_a_number : named_by key.Place 65_535 (Some (ten (integer (pos 10)))) ≡ []
of_a_number = refl

without_a_name : named_by key.Place 65_535 (Some (number (codes "operator") 1 (number (codes "place") 10 no_members))) ≡ []
without_a_name = refl

without_a_place : named_by key.Place 65_535 (Some (member (codes "name") (string (codes "Abbey")) no_members)) ≡ []
unfolding chars
without_a_place = refl

-- ---- the name of a place

abbrev both : Named
both = (10, codes "Abbey") ∷ (12, codes "Castle") ∷ []

of_ten : name_at 10 both ≡ Some (codes "Abbey")
of_ten = refl

of_twelve : name_at 12 both ≡ Some (codes "Castle")
of_twelve = refl

of_eleven : name_at 11 both ≡ None
of_eleven = refl

-- ---- a text: stations come before routes, and place 11 has no name

abbrev text : List ℕ
text = codes "[[route]]\nname = \"Castle Road\"\nplace = 50\n[[station]]\nname = \"Abbey\"\nplace = 10\n[[station]]\nplace = 11\n"

abbrev named : List ℕ → ℕ → Data
named name place = table (member (codes "name") (string name) (number (codes "place") place no_members))

abbrev file : Members
file =
    member (codes "route") (array (one (named (codes "Castle Road") 50)))
    (member (codes "station") (array (item (named (codes "Abbey") 10) (one (table (number (codes "place") 11 no_members))))) no_members)

from_text : parse_document text ≡ Some file
unfolding toml_on_literals
from_text = refl

from_file : places_in file ≡ (10, codes "Abbey") ∷ (50, codes "Castle Road") ∷ []
unfolding chars
from_file = refl

no_toml : called_in_text (codes "name") ≡ record { places = []; operators = []; currency = codes "GBP" }
unfolding toml_on_literals
no_toml = refl

nothing : called_in no_members ≡ record { places = []; operators = []; currency = codes "GBP" }
nothing = refl

-- ---- operators, of which the second has no number that an operator may have

abbrev operator : List ℕ → ℕ → Data
operator name number_of = table (member (codes "name") (string name) (number (codes "operator") number_of no_members))

two_operators : operators_in (member (codes "operators") (array (item (operator (codes "Metro") 16) (one (operator (codes "Ferry") 17)))) no_members) ≡ (16, codes "Metro") ∷ []
unfolding chars
two_operators = refl

-- ---- a currency

euro : currency_in (member (codes "currency") (string (codes "EUR")) no_members) ≡ codes "EUR"
euro = refl

in_small_letters : currency_in (member (codes "currency") (string (codes "eur")) no_members) ≡ codes "GBP"
in_small_letters = refl

of_four_letters : currency_in (member (codes "currency") (string (codes "EURO")) no_members) ≡ codes "GBP"
of_four_letters = refl

of_two_letters : currency_in (member (codes "currency") (string (codes "EU")) no_members) ≡ codes "GBP"
of_two_letters = refl

currency_of_a_number : currency_in (member (codes "currency") (integer (pos 978)) no_members) ≡ codes "GBP"
currency_of_a_number = refl
