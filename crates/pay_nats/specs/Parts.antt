-- A text in two parts.
use Rattle.std.specs.Prelude.{ℕ, ◌==◌, Bool, List, Option, Some, None, if◌then◌else◌}
use Rattle.std.specs.List.{before_first, after_first, list_any}

abbrev pub is_byte : ℕ → ℕ → Bool
is_byte it byte = byte == it

-- 32
abbrev pub is_space : ℕ → Bool
is_space = is_byte 32

-- what stands before the first byte of a kind and after it, if there is one
unfoldable pub parted : (ℕ → Bool) → List ℕ → Option (List ℕ × List ℕ)
parted test text = if list_any test text then Some (before_first test text, after_first test text) else None
