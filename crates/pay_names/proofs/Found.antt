-- The name of a number among those that are kept.
use Rattle.std.proofs.Common.{◌≡◌, ℕ, ◌==◌, Bool, true, false, cond, List, [], ◌∷◌, map, find, option_map, Option, Some, None, Bor, string_bytes, refl, ap, ◌∙◌}
use Rattle.pay_names.specs.Names.{name_at}
use Rattle.pay_names.specs.declared.named.NamedNumber.{NamedNumber}

abbrev pub named : NamedNumber → ℕ × List ℕ
named place = (place.number, string_bytes place.name)

abbrev pub name : NamedNumber → List ℕ
name place = string_bytes place.name

by_place : (n : ℕ) (places : List NamedNumber) → option_map name (find (λ place. place.number == n) places) ≡ name_at n (map named places)
by_place n [] = refl
by_place n (place ∷ places) = by (by_place n places) (place.number == n)
  where
    by : option_map name (find (λ place. place.number == n) places) ≡ name_at n (map named places) → (b : Bool) → option_map name (cond b (Some place) (find (λ other. other.number == n) places))
        ≡ option_map (λ (it : ℕ × List ℕ). it.1) (cond b (Some (named place)) (find (λ (it : ℕ × List ℕ). it.0 == n) (map named places)))
    by others true = refl
    by others false = others

-- the name of the first of a number, where one is kept
pub found : (n : ℕ) (places : List NamedNumber) (place : Option (Bor NamedNumber)) → option_map (λ place. place.now) place ≡ find (λ place. place.number == n) places
    → option_map (λ place. name place.now) place ≡ name_at n (map named places)
found n places None is = ap (option_map name) is ∙ by_place n places
found n places (Some place) is = ap (option_map name) is ∙ by_place n places
