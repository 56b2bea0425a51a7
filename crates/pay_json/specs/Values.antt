-- Values of JSON, as the kit has them: numbers, objects by their fields, and arrays of objects.
use Rattle.std.specs.Prelude.{ℕ, Bool, true, false, List, [], ◌∷◌, ◌++◌, Option, Some, None}
use Rattle.std.specs.List.{fold}
use Rattle.serde_json.specs.Data.{Data, unsigned, number, object, Items, no_items, item, Members, no_members, member}
use Rattle.serde_json.specs.Written.{comma_if, compact_text}

-- a whole number
abbrev pub whole : ℕ → Data
whole n = number (unsigned n)

-- fields, each a name and a value, in this order, before others
abbrev pub with_fields : List (List ℕ × Data) → Members → Members
with_fields [] rest = rest
with_fields (one ∷ list) rest = member one.0 one.1 (with_fields list rest)

abbrev pub fields : List (List ℕ × Data) → Members
fields list = with_fields list no_members

-- the objects that stand for the members of a list, of which some have none
abbrev pub with_item : Option Members → Items → Items
with_item None rest = rest
with_item (Some those) rest = item (object those) rest

abbrev pub items_of : {X : Type 0} → (X → Option Members) → List X → Items
items_of f [] = no_items
items_of f (one ∷ rest) = with_item (f one) (items_of f rest)

-- ---- the same as text: one object more, behind a comma where there are some already

abbrev pub is_some_text : List ℕ → Bool
is_some_text [] = false
is_some_text (byte ∷ text) = true

unfoldable pub joined : List ℕ → Option Members → List ℕ
joined text None = text
joined text (Some those) = text ++ (comma_if (is_some_text text) ++ compact_text (object those))

abbrev pub all_joined : {X : Type 0} → (X → Option Members) → List ℕ → List X → List ℕ
all_joined f text list = fold (λ so_far one. joined so_far (f one)) text list

-- all of them, as an array
unfoldable pub in_brackets : List ℕ → List ℕ
in_brackets objects = 91 ∷ (objects ++ 93 ∷ [])
