-- Places laid out by their numbers.
use Rattle.std.specs.Prelude.{◌≡◌, ℕ, List, Option, Some, slice_get}
use Rattle.std.specs.Map.{lookup}
use Rattle.std.specs.BTreeMap.{is_at}
use Rattle.std.specs.Ordering.{nat_cmp}
use Rattle.pay_tables.specs.declared.place.Place.{Place}

-- at each number that is laid out stands what the entries have there
abbrev pub IsLaid : List (Option Place) → List (ℕ × Place) → Type 0
IsLaid laid entries = (number : ℕ) (found : Option Place) → slice_get laid number ≡ Some found → found ≡ lookup (is_at (nat_cmp number)) entries
