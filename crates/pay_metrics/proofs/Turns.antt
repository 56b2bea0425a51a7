-- One field more.
use Rattle.std.proofs.Common.{◌≡◌, ◌∙◌, ℕ, ◌+◌, ◌<◌, List, ◌++◌, length, get_or, drop, refl, sym, ap, ap₂, append_assoc, append-nil, arith}
use Rattle.std.specs.List.{flat_map}
use Rattle.std.proofs.Math.ListN.{drop_of_length-le}
use Rattle.std.proofs.lemmas.List.{drop_more}

module _ (says : List ℕ → List ℕ) (fields : List (List ℕ)) (place : ℕ) where
  -- what the fields from a place on say is what the one there says, and then the others
  step : (field : List ℕ) → place < length fields → field ≡ get_or fields place field → flat_map says (drop place fields) ≡ says field ++ flat_map says (drop (place + 1) fields)
  step field here is = rw (drop_more fields place field here, ← is) refl

  pub turn : (next : ℕ) (field before later : List ℕ) → (place < length fields) × (field ≡ get_or fields place field) → next ≡ place + 1 → later ≡ before ++ says field
      → before ++ flat_map says (drop place fields) ≡ flat_map says fields → later ++ flat_map says (drop next fields) ≡ flat_map says fields
  turn next field before later here moved added so_far =
      ap₂ (λ (text : List ℕ) (n : ℕ). text ++ flat_map says (drop n fields)) added moved
      ∙ append_assoc before (says field) (flat_map says (drop (place + 1) fields))
      ∙ ap (λ (rest : List ℕ). before ++ rest) (sym (step field here.0 here.1))
      ∙ so_far

  -- after the last there is none
  pub last : (text : List ℕ) → place ≡ length fields → text ++ flat_map says (drop place fields) ≡ flat_map says fields → text ≡ flat_map says fields
  last text end so_far =
      sym (append-nil text) ∙ ap (λ (rest : List (List ℕ)). text ++ flat_map says rest) (sym (drop_of_length-le fields {i = place} (omega (arith, end)))) ∙ so_far
