-- What is so of all that is written.
use Rattle.std.specs.Prelude.{◌≡◌, ℕ, ◌^◌, ◌<◌, ◌≤◌, List, Some, ⊤}
use lib.Signed.{mag}
use Rattle.json.specs.Json as json
use Rattle.json.specs.Json.{document}
use Rattle.json.specs.Print.{quoted}
use Rattle.json.specs.Tree as tree
use Rattle.serde_json.specs.Data.{Num, unsigned, negative, float, Data, null, boolean, number, string, array, object, Items, no_items, item, Members, no_members, member}
use Rattle.serde_json.specs.Written.{compact_text, outline}

-- a string is read as its text alone
abbrev pub StringsReadBack : Type 0
StringsReadBack = (text : List ℕ) → document (quoted text) ≡ Some (json.string text)

-- whole numbers below 2^64, and those below 0 of less than 2^63
abbrev pub IsShort : Num → Type 0
IsShort (unsigned n) = n < 2 ^ 64
IsShort (negative z) = mag z < 2 ^ 63
IsShort (float x) = ⊥

abbrev mutual
  pub HasShortNumbers : Data → Type 0
  HasShortNumbers null = ⊤
  HasShortNumbers (boolean b) = ⊤
  HasShortNumbers (number n) = IsShort n
  HasShortNumbers (string text) = ⊤
  HasShortNumbers (array list) = ItemsHaveShortNumbers list
  HasShortNumbers (object list) = MembersHaveShortNumbers list

  pub ItemsHaveShortNumbers : Items → Type 0
  ItemsHaveShortNumbers no_items = ⊤
  ItemsHaveShortNumbers (item value list) = HasShortNumbers value × ItemsHaveShortNumbers list

  pub MembersHaveShortNumbers : Members → Type 0
  MembersHaveShortNumbers no_members = ⊤
  MembersHaveShortNumbers (member name value list) = HasShortNumbers value × MembersHaveShortNumbers list

-- and the text of a value as that value
abbrev pub ValuesReadBack : Type 0
ValuesReadBack = (value : Data) → HasShortNumbers value → tree.depth (outline value) ≤ json.max_depth → document (compact_text value) ≡ Some (outline value)
