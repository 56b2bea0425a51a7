-- The words of a line, and how fields are read from them.
use Rattle.std.specs.Prelude.{ℕ, ◌==◌, Bool, true, false, List, [], ◌∷◌, Option, Some, None, option_and_then}
use Rattle.std.specs.List.{slice_split}

-- byte 32
abbrev pub is_space : ℕ → Bool
is_space byte = byte == 32

-- what stands between the spaces of a line; two spaces side by side have the empty word between them
abbrev pub words : List ℕ → List (List ℕ)
words line = slice_split is_space line

-- the words after a word: none, or those after the space that ends it
abbrev pub words_after : List ℕ → List (List ℕ)
words_after [] = []
words_after (space ∷ line) = words line

-- a word ends where nothing follows it, or a space
abbrev pub ends_word : List ℕ → Bool
ends_word [] = true
ends_word (next ∷ more) = is_space next

-- no words, not even an empty one
abbrev pub has_none : List (List ℕ) → Bool
has_none [] = true
has_none (word ∷ more) = false

infixl 10 ◌>>=◌
abbrev pub ◌>>=◌ : {A B : Type 0} → Option A → (A → Option B) → Option B
option >>= f = option_and_then f option

-- what the first word says, and the words after it
abbrev pub field : {A : Type 0} → (List ℕ → Option A) → List (List ℕ) → Option (A × List (List ℕ))
field read [] = None
field read (word ∷ more) = do
  value ← read word
  Some (value, more)
