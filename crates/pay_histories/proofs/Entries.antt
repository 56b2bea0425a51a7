-- The entries of a map, and what is true of each of a list.
use Rattle.std.proofs.Common.{◌≡◌, inl, inr, ◌⊎◌, ℕ, zero, suc, Bool, true, false, cond, ◌&&◌, T, List, [], ◌∷◌, ◌++◌, map, filter, find, slice_get, Option, Some, None, Ordering, Less, Equal, Greater, is_eq, refl, sym, ap, ◌∙◌, subst}
use Rattle.std.specs.Prelude.{⊤}
use Rattle.std.specs.Cmp.{IsTotalOrder}
use Rattle.std.specs.FinMap.{FinMap, get, entries, values, is_sorted, entries_sorted, get-entries}
use Rattle.std.specs.FinMap.{find as found}
use Rattle.std.specs.FinMap.Entries.{below_all}
use Rattle.std.specs.List.{AllByRecursion}
use Rattle.std.specs.Ordering.{eq_by_cmp, is_lt}
use Rattle.std.proofs.lemmas.Cmp.{tied_itself, eq_by_cmp_equiv}
use Rattle.std.proofs.lemmas.Option.{none-some, same_Some}
use Rattle.pay_rules.specs.InTurn.{IsIn}

both : (a b : Bool) → T (a && b) → T a × T b
both true b h = (tt, h)
both false b h = absurd h

before : (r : Ordering) → T (is_lt r) → is_eq r ≡ false
before Less h = refl
before Equal h = absurd h
before Greater h = absurd h

module _ {K X : Type 0} {R : K → K → Ordering} (o : IsTotalOrder R) where
  -- what comes after all of a list is none of it
  not_tied : (k : K) (es : List (K × X)) (e : K × X) → T (below_all R k es) → IsIn es e → eq_by_cmp R e.0 k ≡ false
  not_tied k [] e h is = absurd is
  not_tied k (f ∷ es) e h is =
      let parts = both (is_lt (R k f.0)) (below_all R k es) h in
      elim is [
        | inl here ↦ turned (R k f.0) refl parts.0 here
        | inr later ↦ not_tied k es e parts.1 later
      ]
    where
      turned : (r : Ordering) → R k f.0 ≡ r → T (is_lt r) → f ≡ e → eq_by_cmp R e.0 k ≡ false
      turned r is below here =
          ap (λ (x : K × X). eq_by_cmp R x.0 k) (sym here)
          ∙ (eq_by_cmp_equiv o).symm f.0 k
          ∙ ap is_eq is
          ∙ before r below

  each_found : (es : List (K × X)) (e : K × X) → T (is_sorted R es) → IsIn es e → found R e.0 es ≡ Some e.1
  each_found [] e h is = absurd is
  each_found (f ∷ es) e h is =
      let parts = both (below_all R f.0 es) (is_sorted R es) h in
      elim is [
        | inl here ↦ subst (λ (x : K × X). found R x.0 (f ∷ es) ≡ Some x.1) here (ap (λ r. cond (is_eq r) (Some f.1) (found R f.0 es)) (tied_itself o f.0))
        | inr later ↦ ap (λ b. cond b (Some f.1) (found R e.0 es)) (not_tied f.0 es e parts.0 later) ∙ each_found es e parts.1 later
      ]

  -- each entry is what the map has at its key
  pub entry_is_there : (m : FinMap R X) (e : K × X) → IsIn (entries m) e → get m e.0 ≡ Some e.1
  entry_is_there m e is = get-entries m e.0 ∙ each_found (entries m) e (entries_sorted m) is

module _ {K X : Type 0} (R : K → K → Ordering) where
  found_value : (k : K) (x : X) (es : List (K × X)) → found R k es ≡ Some x → IsIn (map (λ (e : K × X). e.1) es) x
  found_value k x [] e = absurd (cc)
  found_value k x (f ∷ es) e = by (eq_by_cmp R k f.0) (found_value k x es) e
    where
      by : (b : Bool) → (found R k es ≡ Some x → IsIn (map (λ (e : K × X). e.1) es) x) → cond b (Some f.1) (found R k es) ≡ Some x → (f.1 ≡ x) ⊎ IsIn (map (λ (e : K × X). e.1) es) x
      by true later e = let one : f.1 ≡ x = cc in inl one
      by false later e = inr (later e)

  -- what a map has at a key is one of its values
  pub value_is_there : (m : FinMap R X) (k : K) (x : X) → get m k ≡ Some x → IsIn (values m) x
  value_is_there m k x e = found_value k x (entries m) (sym (get-entries m k) ∙ e)

-- what a list has at a place is one of it
pub at_place : {X : Type 0} (list : List X) (place : ℕ) (x : X) → slice_get list place ≡ Some x → IsIn list x
at_place [] place x e = absurd (none-some x e)
at_place (y ∷ list) zero x e = inl (same_Some y x e)
at_place (y ∷ list) (suc place) x e = inr (at_place list place x e)

-- ---- each of a list

pub all_of : {X : Type 0} (P : X → Type 0) (list : List X) → ((x : X) → IsIn list x → P x) → AllByRecursion P list
all_of P [] each = tt
all_of P (x ∷ list) each = (each x (inl refl), all_of P list (λ y is. each y (inr is)))

pub one_of_all : {X : Type 0} (P : X → Type 0) (list : List X) (x : X) → AllByRecursion P list → IsIn list x → P x
one_of_all P [] x all is = absurd is
one_of_all P (y ∷ list) x all is = elim is [ inl here ↦ subst P here all.0 | inr later ↦ one_of_all P list x all.1 later ]

pub is_mapped : {X Y : Type 0} (f : X → Y) (list : List X) (x : X) → IsIn list x → IsIn (map f list) (f x)
is_mapped f [] x is = absurd is
is_mapped f (y ∷ list) x is = elim is [ inl here ↦ inl (ap f here) | inr later ↦ inr (is_mapped f list x later) ]

pub all_mapped : {X Y : Type 0} (P : Y → Type 0) (f : X → Y) (list : List X) → AllByRecursion (λ x. P (f x)) list → AllByRecursion P (map f list)
all_mapped P f [] all = tt
all_mapped P f (x ∷ list) all = (all.0, all_mapped P f list all.1)

pub all_filtered : {X : Type 0} (P : X → Type 0) (p : X → Bool) (list : List X) → AllByRecursion P list → AllByRecursion P (filter p list)
all_filtered P p [] all = tt
all_filtered P p (x ∷ list) all = by (p x) (all_filtered P p list all.1)
  where
    by : (b : Bool) → AllByRecursion P (filter p list) → AllByRecursion P (cond b (x ∷ filter p list) (filter p list))
    by true rest = (all.0, rest)
    by false rest = rest

pub all_weaker : {X : Type 0} (P Q : X → Type 0) (list : List X) → ((x : X) → P x → Q x) → AllByRecursion P list → AllByRecursion Q list
all_weaker P Q [] weaker all = tt
all_weaker P Q (x ∷ list) weaker all = (weaker x all.0, all_weaker P Q list weaker all.1)

pub all_with : {X : Type 0} (P : X → Type 0) (list : List X) (x : X) → AllByRecursion P list → P x → AllByRecursion P (list ++ x ∷ [])
all_with P [] x all one = (one, tt)
all_with P (y ∷ list) x all one = (all.0, all_with P list x all.1 one)

-- what is true of one that is found, if one is
abbrev pub IfFound : {X : Type 0} → (X → Type 0) → Option X → Type 0
IfFound P None = ⊤
IfFound P (Some x) = P x

pub found_among : {X : Type 0} (P : X → Type 0) (p : X → Bool) (list : List X) → AllByRecursion P list → IfFound (λ x. P x × (p x ≡ true)) (find p list)
found_among P p [] all = tt
found_among P p (x ∷ list) all = by (p x) refl (found_among P p list all.1)
  where
    by : (b : Bool) → p x ≡ b → IfFound (λ x. P x × (p x ≡ true)) (find p list) → IfFound (λ x. P x × (p x ≡ true)) (cond b (Some x) (find p list))
    by true is rest = (all.0, is)
    by false is rest = rest
