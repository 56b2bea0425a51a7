-- Additions to a text, one after the other.
use Rattle.std.proofs.Common.{◌≡◌, ℕ, List, ◌++◌, ap, ◌∙◌, append_assoc}

pub then : (before now after first second : List ℕ) → now ≡ before ++ first → after ≡ now ++ second → after ≡ before ++ (first ++ second)
then before now after first second so_far next = next ∙ ap (λ (text : List ℕ). text ++ second) so_far ∙ append_assoc before first second
