-- The lines that both sides write before a payload.
use Rattle.std.specs.Prelude.{ℕ, List, [], ◌∷◌, ◌++◌, length, Option, Some, None, option_map, decimal}

-- CR and LF, which end a line and a payload
abbrev pub crlf : List ℕ
crlf = 13 ∷ 10 ∷ []

-- a space, and what stands after it
abbrev pub spaced : List ℕ → List ℕ
spaced text = 32 ∷ text

-- a word and a space, if there is one, before what stands after it
abbrev pub with_word : Option (List ℕ) → List ℕ → List ℕ
with_word None text = text
with_word (Some word) text = word ++ spaced text

-- how many bytes the headers have, if there are any, and how many there are in all
abbrev pub sizes : Option ℕ → ℕ → List ℕ
sizes headers total = with_word (option_map decimal headers) (decimal total)

-- H, where there are headers
abbrev pub with_h : {A : Type 0} → Option A → List ℕ → List ℕ
with_h None verb = verb
with_h (Some headers) verb = 72 ∷ verb

-- what stands in a message: its headers, if it has any, and its payload
abbrev pub content : Option (List ℕ) → List ℕ → List ℕ
content None payload = payload
content (Some headers) payload = headers ++ payload

-- the same by what they are
abbrev pub content_sizes : Option (List ℕ) → List ℕ → List ℕ
content_sizes headers payload = sizes (option_map length headers) (length (content headers payload))
