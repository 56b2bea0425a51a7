-- The names under which messages are published.
use Rattle.std.specs.Prelude.{ℕ, ◌≡◌, ◌==◌, Bool, true, false, not, ◌&&◌, List, [], length, codes, refl}
use Rattle.std.specs.List.{list_all}

-- no space, tab, CR or LF
abbrev pub is_visible : ℕ → Bool
is_visible byte = not (byte == 32) && not (byte == 9) && not (byte == 13) && not (byte == 10)

-- a subject has bytes, all of them visible
abbrev pub is_subject : List ℕ → Bool
is_subject name = not (length name == 0) && list_all is_visible name

-- ---- worked rows

inbox : is_subject (codes "_INBOX.a1.7") ≡ true
inbox = refl

nothing : is_subject [] ≡ false
nothing = refl

two_words : is_subject (codes "fares 0") ≡ false
two_words = refl
