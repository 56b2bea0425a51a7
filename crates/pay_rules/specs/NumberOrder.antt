-- Numbers as keys, and what a map under them keeps.
use Rattle.std.proofs.Common.{◌≡◌, ◌≢◌, ℕ, ◌+◌, ◌<◌, Bool, true, false, cond, T, List, [], ◌∷◌, length, map, Option, Some, None, IfSome, is_some, Ordering, Less, Equal, Greater, nat_cmp, is_eq, eqb-true, IsTrue, nat_eq, ◌↔◌, refl, sym, ap, ◌∙◌, subst, arith}
use Rattle.std.specs.Ordering.{eq_by_cmp}
use Rattle.std.specs.Cmp.{IsTotalOrder, nat_cmp_total}
use Rattle.std.specs.FinMap.{get, len, insert, remove, empty, entries, keys, values, from_entries, from_sorted, find, put, is_sorted, same_map, get-from_entries, get-from_sorted, get-entries, get-remove, len-entries, len-insert, len-empty, empty_of_len, entries-from_sorted, entries-insert}
use Rattle.std.specs.FinMap.Entries.{by_order}
use Rattle.std.specs.List.{AllByRecursion}
use Rattle.std.proofs.lemmas.Cmp.{on_total, then_total, eq_by_cmp_equiv}
use Rattle.std.proofs.lemmas.Option.{none-some}
use Rattle.std.proofs.lemmas.List.{length-map}
use Rattle.std.proofs.lemmas.Map.Lookups.{CmpEqualImpliesEq, exact_pairs, exact_unsigned}
use Rattle.pay_rules.specs.Numbers.{ByNumber, IsNumbered, number_cmp}

pub number_total : IsTotalOrder number_cmp
number_total = then_total (on_total (λ n. n.0) nat_cmp_total) (on_total (λ n. n.1) nat_cmp_total)

-- numbers that compare alike are one
pub exact_numbers : CmpEqualImpliesEq number_cmp
exact_numbers = exact_pairs nat_cmp nat_cmp exact_unsigned exact_unsigned

equal : (r : Ordering) → is_eq r ≡ true → r ≡ Equal
equal Less e = absurd (cc)
equal Equal e = refl
equal Greater e = absurd (cc)

pub same_number : (q k : ℕ × ℕ) → eq_by_cmp number_cmp q k ≡ true → q ≡ k
same_number q k e = exact_numbers q k (equal _ e)

module _ {X : Type 0} where
  -- entries in order are those of the map that they make
  pub entries_made : (es : List ((ℕ × ℕ) × X)) → T (is_sorted number_cmp es) → entries (from_entries {R = number_cmp} es) ≡ es
  entries_made es h =
      let one : from_entries {R = number_cmp} es ≡ from_sorted es = same_map number_total exact_numbers _ _ (λ q.
      get-from_entries number_total es q ∙ sym (get-from_sorted number_cmp es q h)) in
      ap entries one ∙ entries-from_sorted number_cmp es h

  pub length_values : (set : ByNumber X) → length (values set) ≡ len set
  length_values set = length-map (entries set) (λ e. e.1) ∙ sym (len-entries set)

  pub nothing_made : entries (from_entries {K = ℕ × ℕ} {X = X} {R = number_cmp} []) ≡ []
  nothing_made = entries_made [] tt

  -- a test of the count is a test of the map
  pub is_nothing : (set : ByNumber X) (count : ℕ) → count ≡ len set → IsTrue (nat_eq count 0) ↔ (set ≡ empty)
  is_nothing set count e = (
    λ h. empty_of_len set (sym e ∙ eqb-true count 0 h),
    λ h. let none : count ≡ 0 = e ∙ ap len h ∙ len-empty number_cmp X in subst (λ n. IsTrue (nat_eq n 0)) (sym none) refl,
  )

  -- nothing is taken out at a number that none has
  pub same_without : (small : ByNumber X) (k : ℕ × ℕ) → get small k ≡ None → remove small k ≡ small
  same_without small k none = same_map number_total exact_numbers _ _ (λ q.
      get-remove number_total small k q ∙ not_there (eq_by_cmp number_cmp q k) (get small q) (λ e. ap (get small) (same_number q k e) ∙ none))
    where
      not_there : (b : Bool) (o : Option X) → (b ≡ true → o ≡ None) → cond b None o ≡ o
      not_there true o none = sym (none refl)
      not_there false o none = refl

module _ {X : Type 0} (number : X → ℕ × ℕ) where
  -- ---- each at its own number

  own_found : (es : List ((ℕ × ℕ) × X)) (q : ℕ × ℕ) → map number (map (λ (e : (ℕ × ℕ) × X). e.1) es) ≡ map (λ (e : (ℕ × ℕ) × X). e.0) es → IfSome (find number_cmp q es) (λ t. number t ≡ q)
  own_found [] q own = tt
  own_found (e ∷ es) q own =
      elim (eq_by_cmp number_cmp q e.0) as (λ b. eq_by_cmp number_cmp q e.0 ≡ b → IfSome (cond b (Some e.1) (find number_cmp q es)) (λ t. number t ≡ q)) [
        | true ↦ λ p. let here : number e.1 ≡ e.0 = cc in here ∙ sym (same_number q e.0 p)
        | false ↦ λ p. own_found es q (cc)
      ] refl

  pub own_number : (set : ByNumber X) (q : ℕ × ℕ) → map number (values set) ≡ keys set → IfSome (get set q) (λ t. number t ≡ q)
  own_number set q own = subst (λ (found : Option X). IfSome found (λ t. number t ≡ q)) (sym (get-entries set q)) (own_found (entries set) q own)

  none_has : (es : List ((ℕ × ℕ) × X)) (q : ℕ × ℕ) → map number (map (λ (e : (ℕ × ℕ) × X). e.1) es) ≡ map (λ (e : (ℕ × ℕ) × X). e.0) es → find number_cmp q es ≡ None → AllByRecursion (λ x. number x ≢ q) (map (λ (e : (ℕ × ℕ) × X). e.1) es)
  none_has [] q own none = tt
  none_has (e ∷ es) q own none =
      let here : number e.1 ≡ e.0 = cc in
      elim (eq_by_cmp number_cmp q e.0) as (λ b. eq_by_cmp number_cmp q e.0 ≡ b → cond b (Some e.1) (find number_cmp q es) ≡ None → (number e.1 ≢ q) × AllByRecursion (λ x. number x ≢ q) (map (λ (e : (ℕ × ℕ) × X). e.1) es)) [
        | true ↦ λ p f. absurd (none-some e.1 (sym f))
        | false ↦ λ p f. (
          (λ one.
              let same : eq_by_cmp number_cmp q e.0 ≡ true = ap (eq_by_cmp number_cmp q) (sym here ∙ one) ∙ (eq_by_cmp_equiv number_total).refl q in
              absurd (cc)),
          none_has es q (cc) f,
        )
      ] refl none

  pub others : (set : ByNumber X) (q : ℕ × ℕ) → map number (values set) ≡ keys set → get set q ≡ None → AllByRecursion (λ x. number x ≢ q) (values set)
  others set q own none = none_has (entries set) q own (sym (get-entries set q) ∙ none)

  own_put : (es : List ((ℕ × ℕ) × X)) (t : X) → map number (map (λ (e : (ℕ × ℕ) × X). e.1) es) ≡ map (λ (e : (ℕ × ℕ) × X). e.0) es
      → map number (map (λ (e : (ℕ × ℕ) × X). e.1) (put number_cmp (number t) t es)) ≡ map (λ (e : (ℕ × ℕ) × X). e.0) (put number_cmp (number t) t es)
  own_put [] t own = refl
  own_put (e ∷ es) t own =
      elim (number_cmp (number t) e.0) as (λ r. number_cmp (number t) e.0 ≡ r → map number (map (λ (e : (ℕ × ℕ) × X). e.1) (by_order r ((number t, t) ∷ e ∷ es) ((e.0, t) ∷ es) (e ∷ put number_cmp (number t) t es))) ≡ map (λ (e : (ℕ × ℕ) × X). e.0) (by_order r ((number t, t) ∷ e ∷ es) ((e.0, t) ∷ es) (e ∷ put number_cmp (number t) t es))) [
        | Less ↦ λ p. ap (λ (l : List (ℕ × ℕ)). number t ∷ l) own
        | Equal ↦ λ p. let here : number t ≡ e.0 = exact_numbers _ _ p in cc
        | Greater ↦ λ p. let rest = own_put es t (cc) in cc
      ] refl

  pub own_numbers-insert : (set : ByNumber X) (t : X) → map number (values set) ≡ keys set → map number (values (insert set (number t) t)) ≡ keys (insert set (number t) t)
  own_numbers-insert set t own =
      let es : entries (insert set (number t) t) ≡ put number_cmp (number t) t (entries set) = entries-insert number_total set (number t) t in
      subst (λ (l : List ((ℕ × ℕ) × X)). map number (map (λ (e : (ℕ × ℕ) × X). e.1) l) ≡ map (λ (e : (ℕ × ℕ) × X). e.0) l) (sym es) (own_put (entries set) t own)

  -- ---- a set of what has numbers

  module _ (most : ℕ) where
    -- one more, where none has its number and there is room
    pub one_more : (set : ByNumber X) (t : X) → IsNumbered number most set → get set (number t) ≡ None → len set < most → IsNumbered number most (insert set (number t) t)
    one_more set t old none room = record {
      own_numbers = own_numbers-insert set t old.own_numbers;
      within =
          let count : len (insert set (number t) t) ≡ len set + 1 = len-insert number_total set (number t) t ∙ ap (λ (o : Option X). cond (is_some o) (len set) (len set + 1)) none in
          omega arith;
    }
