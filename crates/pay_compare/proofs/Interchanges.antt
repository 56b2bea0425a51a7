-- Interchanges that are alike wherever either file lists one are alike everywhere.
use Rattle.std.proofs.Common.{◌≡◌, ℕ, ◌==◌, ◌&&◌, ◌||◌, Bool, true, false, cond, List, [], ◌∷◌, Option, Some, None, ◌⊎◌, inl, inr, subst, refl, sym, ap, ◌∙◌}
use Rattle.std.specs.Bool.{Decides}
use Rattle.std.specs.List.{All, AllByRecursion, find}
use Rattle.std.proofs.lemmas.List.Elements.{recursion_from_All}
use Rattle.std.proofs.lemmas.Option.{none-some}
use Rattle.std.proofs.lemmas.Bool.Decides.{Decides-and, Decides-eqb, Decides-or}
use Rattle.pay_tables.specs.declared.interchange.Interchange.{Interchange}
use Rattle.pay_tables.specs.FareTables.{seconds_of}
use Rattle.pay_tables.specs.Words.{FareTables, interchange, is_between}
use Rattle.pay_compare.specs.Agreement.{KeepsInterchange, IsKnownPlace}

or_turned : (p q : Bool) → (p || q) ≡ (q || p)
or_turned true true = refl
or_turned true false = refl
or_turned false true = refl
or_turned false false = refl

and_turned : (p q : Bool) → (p && q) ≡ (q && p)
and_turned true true = refl
and_turned true false = refl
and_turned false true = refl
and_turned false false = refl

turned : (p q r s : Bool) → ((p && q) || (r && s)) ≡ ((s && r) || (q && p))
turned p q r s = or_turned (p && q) (r && s) ∙ ap (λ b. b || (p && q)) (and_turned r s) ∙ ap (λ b. (s && r) || b) (and_turned p q)

found_alike : (p q : Interchange → Bool) → ((x : Interchange) → p x ≡ q x) → (xs : List Interchange) → find p xs ≡ find q xs
found_alike p q same [] = refl
found_alike p q same (x ∷ xs) = ap (λ b. cond b (Some x) (find p xs)) (same x) ∙ ap (cond (q x) (Some x)) (found_alike p q same xs)

either_order : (tables : FareTables) (a b : ℕ) → interchange tables a b ≡ interchange tables b a
either_order tables a b = ap seconds_of (found_alike (is_between a b) (is_between b a) (λ pair. turned (a == pair.a) (b == pair.b) (a == pair.b) (b == pair.a)) tables.interchanges)

-- where a pair is found, each of the pairs that lists are alike
listed : (new old : FareTables) (a b : ℕ) → IsKnownPlace old a → IsKnownPlace old b
    → (pairs : List Interchange) → AllByRecursion (λ pair. KeepsInterchange new old pair.a pair.b) pairs → (pair : Interchange) → find (is_between a b) pairs ≡ Some pair
    → interchange new a b ≡ interchange old a b
listed new old a b known known_too [] all pair found = absurd (none-some pair (found))
listed new old a b known known_too (one ∷ pairs) all pair found =
    elim (is_between a b one) as (λ r. is_between a b one ≡ r → interchange new a b ≡ interchange old a b) [
      | true ↦ λ here. by_order ((Decides-or (a == one.a && b == one.b) (a == one.b && b == one.a) (of_both a one.a b one.b) (of_both a one.b b one.a)).0 here)
      | false ↦ λ not. listed new old a b known known_too pairs all.1 pair (sym (ap (λ r. cond r (Some one) (find (is_between a b) pairs)) not) ∙ found)
    ] refl
  where
    of_both : (p q r s : ℕ) → Decides (p == q && r == s) ((p ≡ q) × (r ≡ s))
    of_both p q r s = Decides-and (p == q) (r == s) (Decides-eqb p q) (Decides-eqb r s)

    by_order : ((a ≡ one.a) × (b ≡ one.b)) ⊎ ((a ≡ one.b) × (b ≡ one.a)) → interchange new a b ≡ interchange old a b
    by_order (inl at) =
        ap (λ (n : ℕ). interchange new n b) at.0 ∙ ap (λ (n : ℕ). interchange new one.a n) at.1
        ∙ all.0 (subst (IsKnownPlace old) at.0 known) (subst (IsKnownPlace old) at.1 known_too)
        ∙ sym (ap (λ (n : ℕ). interchange old n b) at.0 ∙ ap (λ (n : ℕ). interchange old one.a n) at.1)
    by_order (inr at) =
        ap (λ (n : ℕ). interchange new n b) at.0 ∙ ap (λ (n : ℕ). interchange new one.b n) at.1 ∙ either_order new one.b one.a
        ∙ all.0 (subst (IsKnownPlace old) at.1 known_too) (subst (IsKnownPlace old) at.0 known)
        ∙ either_order old one.a one.b
        ∙ sym (ap (λ (n : ℕ). interchange old n b) at.0 ∙ ap (λ (n : ℕ). interchange old one.b n) at.1)

pub alike_everywhere : (new old : FareTables) → All (λ pair. KeepsInterchange new old pair.a pair.b) new.interchanges → All (λ pair. KeepsInterchange new old pair.a pair.b) old.interchanges
    → (a b : ℕ) → IsKnownPlace old a → IsKnownPlace old b → interchange new a b ≡ interchange old a b
alike_everywhere new old of_new of_old a b known known_too =
    by_new (find (is_between a b) new.interchanges) refl
  where
    by_old : (found : Option Interchange) → find (is_between a b) old.interchanges ≡ found → find (is_between a b) new.interchanges ≡ None → interchange new a b ≡ interchange old a b
    by_old (Some pair) is none = listed new old a b known known_too old.interchanges (recursion_from_All _ old.interchanges of_old) pair is
    by_old None is none = ap seconds_of none ∙ sym (ap seconds_of is)

    by_new : (found : Option Interchange) → find (is_between a b) new.interchanges ≡ found → interchange new a b ≡ interchange old a b
    by_new (Some pair) is = listed new old a b known known_too new.interchanges (recursion_from_All _ new.interchanges of_new) pair is
    by_new None is = by_old (find (is_between a b) old.interchanges) refl is
