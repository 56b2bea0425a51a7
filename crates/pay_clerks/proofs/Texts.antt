-- Texts that are compared.
use Rattle.std.proofs.Common.{◌≡◌, ℕ, List, true}
use Rattle.std.specs.Str.{bytes_eq}
use Rattle.std.proofs.lemmas.Slice.Eq.{bytes_eq-Decides}

pub same_text : (a b : List ℕ) → bytes_eq a b ≡ true → a ≡ b
same_text a b e = (bytes_eq-Decides a b).0 e

pub of_same : (a b : List ℕ) → a ≡ b → bytes_eq a b ≡ true
of_same a b e = (bytes_eq-Decides a b).1 e
