-- The texts by which a session begins.
use Rattle.std.specs.Prelude.{ℕ, List}

-- those of its fare file and of its zone, and the bytes that its journal has
pub record Texts : Type 0 where
  pub fares : List ℕ
  pub zone : List ℕ
  pub past : List ℕ

abbrev pub texts : List ℕ → List ℕ → List ℕ → Texts
texts fares zone past = record { fares = fares; zone = zone; past = past }
