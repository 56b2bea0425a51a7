-- What stands at a number in a set, and that all in it have numbers of their own.
use Rattle.std.proofs.Common.{◌≡◌, ◌≢◌, ℕ, Bool, true, false, cond, ◌&&◌, T, List, [], ◌∷◌, ◌++◌, map, Option, Some, None, Ordering, Less, Equal, Greater, nat_cmp, is_eq, is_lt, refl, sym, ap, ◌∙◌, subst}
use Rattle.std.specs.Ordering.{eq_by_cmp}
use Rattle.std.specs.Cmp.{IsTotalOrder, nat_cmp_total}
use Rattle.std.specs.List.{AllByRecursion, IsDistinct}
use Rattle.std.specs.FinMap.{get, entries, entries_sorted, values, find, is_sorted, get-entries}
use Rattle.std.specs.FinMap.Entries.{below_all}
use Rattle.std.proofs.lemmas.Cmp.{on_total, then_total, tied_itself, nat_eq_equiv}
use Rattle.std.proofs.lemmas.List.Sorted.{IsPermutation-middle, IsPermutation-sym}
use Rattle.std.proofs.lemmas.Map.Keys.{IsDistinct-cons, IsDistinct-IsPermutation}
use Rattle.std.proofs.lemmas.Map.Lookups.{CmpEqualImpliesEq, exact_pairs, exact_unsigned}
use Rattle.pay_rules.specs.Numbers.{ByNumber, IsNumbered, number_cmp}
use Rattle.pay_rules.specs.Fixes.{is_number}
use Rattle.pay_fix.proofs.AmongFixes.{all_more, other_number}

number_total : IsTotalOrder number_cmp
number_total = then_total (on_total (λ n. n.0) nat_cmp_total) (on_total (λ n. n.1) nat_cmp_total)

exact_numbers : CmpEqualImpliesEq number_cmp
exact_numbers = exact_pairs nat_cmp nat_cmp exact_unsigned exact_unsigned

equal : (r : Ordering) → is_eq r ≡ true → r ≡ Equal
equal Less e = absurd (cc)
equal Equal e = refl
equal Greater e = absurd (cc)

both_true : (a b : Bool) → T (a && b) → T a × T b
both_true true b h = (tt, h)
both_true false b h = absurd h

pub same_either_way : (a b : ℕ × ℕ) → is_number a b ≡ is_number b a
same_either_way a b =
    let first = nat_eq_equiv.symm a.0 b.0 in
    let second = nat_eq_equiv.symm a.1 b.1 in
    λ i. first i && second i

-- one that has a number, and stands among others of other numbers
pub record StandsAlone {X : Type 0} (number : X → ℕ × ℕ) (list : List X) (n : ℕ × ℕ) (x : X) : Type 0 where
  pub low : List X
  pub high : List X
  pub is : list ≡ low ++ x ∷ high
  pub own : number x ≡ n
  pub others : AllByRecursion (λ y. number y ≢ n) (low ++ high)

-- what has a number in a list, if any
abbrev pub IsFound : {X : Type 0} → (X → ℕ × ℕ) → List X → ℕ × ℕ → Option X → Type 0
IsFound number list n None = AllByRecursion (λ x. number x ≢ n) list
IsFound number list n (Some x) = StandsAlone number list n x

module _ {X : Type 0} (number : X → ℕ × ℕ) where
  abbrev pub have_one_number : X → X → Bool
  have_one_number a b = is_number (number a) (number b)

  abbrev pub AreNumbered : List X → Type 0
  AreNumbered = IsDistinct have_one_number

  abbrev OwnKeys : List ((ℕ × ℕ) × X) → Type 0
  OwnKeys es = map number (map (λ (e : (ℕ × ℕ) × X). e.1) es) ≡ map (λ (e : (ℕ × ℕ) × X). e.0) es

  -- entries of higher keys have other numbers
  others_above : (k : ℕ × ℕ) (es : List ((ℕ × ℕ) × X)) → OwnKeys es → T (below_all number_cmp k es) → AllByRecursion (λ x. number x ≢ k) (map (λ (e : (ℕ × ℕ) × X). e.1) es)
  others_above k [] own below = tt
  others_above k (e ∷ es) own below =
      let here : number e.1 ≡ e.0 = cc in
      let parts : T (is_lt (number_cmp k e.0)) × T (below_all number_cmp k es) = both_true _ _ below in (
        (λ same. subst (λ r. T (is_lt r)) (ap (λ n. number_cmp n e.0) (sym same ∙ here) ∙ tied_itself number_total e.0) parts.0),
        others_above k es (cc) parts.1,
      )

  pub numbered_entries : (es : List ((ℕ × ℕ) × X)) → OwnKeys es → T (is_sorted number_cmp es) → AreNumbered (map (λ (e : (ℕ × ℕ) × X). e.1) es)
  unfolding IsDistinct
  numbered_entries [] own up = tt
  numbered_entries (e ∷ es) own up =
      let here : number e.1 ≡ e.0 = cc in
      let parts : T (below_all number_cmp e.0 es) × T (is_sorted number_cmp es) = both_true _ _ up in (
        all_more (map (λ (e : (ℕ × ℕ) × X). e.1) es) (λ x differs. other_number (number e.1) (number x) (λ same. differs (same ∙ here))) (others_above e.0 es (cc) parts.0),
        numbered_entries es (cc) parts.1,
      )

  past : (x : X) (list : List X) (n : ℕ × ℕ) (found : Option X) → number x ≢ n → IsFound number list n found → IsFound number (x ∷ list) n found
  past x list n None differs h = (differs, h)
  past x list n (Some y) differs h = record { low = x ∷ h.low; high = h.high; is = ap (λ l. x ∷ l) h.is; own = h.own; others = (differs, h.others) }

  found_entry : (es : List ((ℕ × ℕ) × X)) (n : ℕ × ℕ) → OwnKeys es → T (is_sorted number_cmp es) → IsFound number (map (λ (e : (ℕ × ℕ) × X). e.1) es) n (find number_cmp n es)
  found_entry [] n own up = tt
  found_entry (e ∷ es) n own up =
      let here : number e.1 ≡ e.0 = cc in
      let parts : T (below_all number_cmp e.0 es) × T (is_sorted number_cmp es) = both_true _ _ up in
      let rest = map (λ (e : (ℕ × ℕ) × X). e.1) es in
      elim (eq_by_cmp number_cmp n e.0) as (λ b. eq_by_cmp number_cmp n e.0 ≡ b → IsFound number (e.1 ∷ rest) n (cond b (Some e.1) (find number_cmp n es))) [
        | true ↦ λ p.
            let same : n ≡ e.0 = exact_numbers n e.0 (equal _ p) in
            record {
              low = [];
              high = rest;
              is = refl;
              own = here ∙ sym same;
              others = all_more rest (λ x differs one. differs (one ∙ same)) (others_above e.0 es (cc) parts.0);
            }
        | false ↦ λ p. past e.1 rest n (find number_cmp n es)
            (λ one.
            let tie : eq_by_cmp number_cmp n e.0 ≡ true = ap (λ m. eq_by_cmp number_cmp m e.0) (sym one ∙ here) ∙ ap is_eq (tied_itself number_total e.0) in
            absurd (cc))
            (found_entry es n (cc) parts.1)
      ] refl

  -- all of a set have numbers of their own
  pub numbered_values : (most : ℕ) (set : ByNumber X) → IsNumbered number most set → AreNumbered (values set)
  numbered_values most set is = numbered_entries (entries set) is.own_numbers (entries_sorted set)

  -- and what stands at a number is the one that has it
  pub found_value : (most : ℕ) (set : ByNumber X) (n : ℕ × ℕ) → IsNumbered number most set → IsFound number (values set) n (get set n)
  found_value most set n is = subst (IsFound number (values set) n) (sym (get-entries set n)) (found_entry (entries set) n is.own_numbers (entries_sorted set))

  -- one more, whose number none of the others has
  pub numbered_with : (before : List X) (x : X) (after : List X) → AreNumbered (before ++ after) → AllByRecursion (λ y. number y ≢ number x) (before ++ after) → AreNumbered (before ++ x ∷ after)
  numbered_with before x after old others =
      IsDistinct-IsPermutation have_one_number (λ a b. same_either_way (number a) (number b)) (x ∷ (before ++ after)) (before ++ x ∷ after)
      (IsPermutation-sym _ _ (IsPermutation-middle before x after))
      (IsDistinct-cons have_one_number x (before ++ after) (all_more (before ++ after) (λ y differs. other_number (number x) (number y) differs) others) old)

  pub numbered_more : (most : ℕ) (set : ByNumber X) (x : X) (before after grown : List X) → IsNumbered number most set → get set (number x) ≡ None → values set ≡ before ++ after → grown ≡ before ++ x ∷ after → AreNumbered grown
  numbered_more most set x before after grown is none parts more =
      let absent : AllByRecursion (λ y. number y ≢ number x) (values set) = subst (IsFound number (values set) (number x)) none (found_value most set (number x) is) in
      subst AreNumbered (sym more)
      (numbered_with before x after (subst AreNumbered parts (numbered_values most set is)) (subst (AllByRecursion (λ y. number y ≢ number x)) parts absent))
