-- A clerk of customer service.
use Rattle.std.specs.Prelude.{ℕ, List}

-- the staff number, the most pence of a Credit, the SHA-256 of the secret, and the name
pub record ClerkOf : Type 0 where
  pub staff : ℕ
  pub limit : ℕ
  pub secret : List ℕ
  pub name : List ℕ
