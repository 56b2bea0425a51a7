-- What is so of all escaped texts.
use Rattle.std.specs.Prelude.{◌≡◌, ℕ, ◌==◌, not, ◌&&◌, Bool, true, List, [], ◌∷◌, ◌++◌, codes, Contains}
use Rattle.std.specs.List.{list_all}
use Rattle.pay_html.specs.Escapes.{escaped}

-- a byte that begins and ends no tag, and no value of an attribute: it is none of <, >, " and '
abbrev pub is_no_markup : ℕ → Bool
is_no_markup byte = not (byte == 60) && not (byte == 62) && not (byte == 34) && not (byte == 39)

abbrev pub NoMarkup : Type 0
NoMarkup = (text : List ℕ) → list_all is_no_markup (escaped text) ≡ true

abbrev pub entities : List (List ℕ)
entities = codes "&amp;" ∷ codes "&lt;" ∷ codes "&gt;" ∷ codes "&quot;" ∷ codes "&#39;" ∷ []

-- where an & stands, 38, an entity begins
abbrev pub AmpersandsBeginEntities : Type 0
AmpersandsBeginEntities = (text before after : List ℕ) → escaped text ≡ before ++ 38 ∷ after → (entity rest : List ℕ) × Contains entities entity × (38 ∷ after ≡ entity ++ rest)

-- two texts that are escaped alike are one
abbrev pub OneTextEach : Type 0
OneTextEach = (one other : List ℕ) → escaped one ≡ escaped other → one ≡ other
