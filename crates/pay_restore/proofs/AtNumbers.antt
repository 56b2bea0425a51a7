-- Accounts at their numbers: one taken out, one put in, and all in order.
use Rattle.std.proofs.Common.{◌≡◌, ℕ, ◌≤◌, Bool, true, false, cond, ◌&&◌, T, List, [], ◌∷◌, map, Option, Some, None, unwrap_or, refl, sym, ap, ◌∙◌, subst}
use Rattle.std.specs.BTreeMap.{is_at, insert_entry}
use Rattle.std.specs.Cmp.{nat_cmp_total, eq_by_cmp_equiv}
use Rattle.std.specs.FinMap as finite
use Rattle.std.specs.FinMap.{find, is_sorted, get, insert, get-from_entries, get-insert, get-from_sorted, entries-from_sorted, same_map, nat_cmp-IsAntisymmetric}
use Rattle.std.specs.FinMap.Entries.{below_all}
use Rattle.std.specs.List.{AllByRecursion}
use Rattle.std.specs.List.Sorted.{IsStrictlySortedBy}
use Rattle.std.specs.Map.{lookup, remove_entry}
use Rattle.std.specs.Option.{option_map}
use Rattle.std.specs.Ordering.{nat_cmp, eq_by_cmp, is_eq, is_lt, match_ordering}
use Rattle.std.specs.declared.cmp.Ordering.{Ordering}
use Rattle.std.specs.declared.cmp.Ordering.TheVariants.{Less, Equal, Greater}
use Rattle.pay_rules.specs.Accepted.{Accepted, nothing}
use Rattle.pay_rules.specs.State.{accepted_of, ArePriced}
use Rattle.pay_restore.specs.Filed.{held, IsFiled, AreFiled}

abbrev pub at : {F : Type 0} → ℕ → List (ℕ × F) → Option F
at q es = lookup (is_at (nat_cmp q)) es

equal : (o : Ordering) → is_eq o ≡ true → o ≡ Equal
equal Less e = absurd (cc)
equal Equal e = refl
equal Greater e = absurd (cc)

pub one_number : (p q : ℕ) → eq_by_cmp nat_cmp p q ≡ true → p ≡ q
one_number p q e = nat_cmp-IsAntisymmetric p q (equal (nat_cmp p q) e)

-- ---- what is at a number

module _ {F : Type 0} (accepted : F → Accepted) where
  one_mapped : (b : Bool) (a : F) (o : Option F) → cond b (Some (accepted a)) (option_map accepted o) ≡ option_map accepted (cond b (Some a) o)
  one_mapped true a o = refl
  one_mapped false a o = refl

  found : (es : List (ℕ × F)) (q : ℕ) → find nat_cmp q (map (λ (e : ℕ × F). (e.0, accepted e.1)) es) ≡ option_map accepted (at q es)
  found [] q = refl
  found (e ∷ es) q = ap (cond (eq_by_cmp nat_cmp q e.0) (Some (accepted e.1))) (found es q) ∙ one_mapped (eq_by_cmp nat_cmp q e.0) e.1 (at q es)

  pub there_is : (es : List (ℕ × F)) (q : ℕ) → get (held accepted es) q ≡ option_map accepted (at q es)
  unfolding held
  there_is es q = get-from_entries nat_cmp_total (map (λ (e : ℕ × F). (e.0, accepted e.1)) es) q ∙ found es q

  pub is_held : (es : List (ℕ × F)) (q : ℕ) (a : F) → Some a ≡ at q es → accepted a ≡ accepted_of (held accepted es) q
  is_held es q a e = sym (ap (λ (x : Option Accepted). unwrap_or x nothing) (there_is es q ∙ ap (option_map accepted) (sym e)))

  pub nothing_held : (es : List (ℕ × F)) (q : ℕ) → None ≡ at q es → nothing ≡ accepted_of (held accepted es) q
  nothing_held es q e = sym (ap (λ (x : Option Accepted). unwrap_or x nothing) (there_is es q ∙ ap (option_map accepted) (sym e)))

  pub inserted : (es fs : List (ℕ × F)) (k : ℕ) (a : F) → ((q : ℕ) → at q fs ≡ cond (is_at (nat_cmp k) q) (Some a) (at q es)) → held accepted fs ≡ insert (held accepted es) k (accepted a)
  inserted es fs k a h =
      same_map nat_cmp_total nat_cmp-IsAntisymmetric _ _ (λ q.
      there_is fs q ∙ ap (option_map accepted) (h q) ∙ sym (one_mapped (is_at (nat_cmp k) q) a (at q es))
      ∙ ap (λ b. cond b (Some (accepted a)) (option_map accepted (at q es))) ((eq_by_cmp_equiv nat_cmp_total).symm k q)
      ∙ sym (get-insert nat_cmp_total (held accepted es) k (accepted a) q ∙ ap (cond (eq_by_cmp nat_cmp q k) (Some (accepted a))) (there_is es q)))

  over : (b : Bool) (x : Accepted) (o : Option F) → cond b (Some x) (option_map accepted (cond b None o)) ≡ cond b (Some x) (option_map accepted o)
  over true x o = refl
  over false x o = refl

  -- what is put at a number stands beside the others, whether what was there was taken out or not
  pub put_back : (es fs : List (ℕ × F)) (k : ℕ) (x : Accepted) → ((q : ℕ) → at q fs ≡ cond (is_at (nat_cmp k) q) None (at q es)) → insert (held accepted fs) k x ≡ insert (held accepted es) k x
  put_back es fs k x h =
      same_map nat_cmp_total nat_cmp-IsAntisymmetric _ _ (λ q.
      get-insert nat_cmp_total (held accepted fs) k x q
      ∙ ap (cond (eq_by_cmp nat_cmp q k) (Some x)) (there_is fs q ∙ ap (option_map accepted) (h q ∙ ap (λ b. cond b None (at q es)) ((eq_by_cmp_equiv nat_cmp_total).symm k q)))
      ∙ over (eq_by_cmp nat_cmp q k) x (at q es)
      ∙ sym (get-insert nat_cmp_total (held accepted es) k x q ∙ ap (cond (eq_by_cmp nat_cmp q k) (Some x)) (there_is es q)))

-- ---- each at its own number

module _ {F : Type 0} (P : ℕ × F → Type 0) where
  pub all_but_one : (test : ℕ → Bool) (es : List (ℕ × F)) → AllByRecursion P es → AllByRecursion P (remove_entry test es)
  all_but_one test [] all = tt
  all_but_one test (e ∷ es) all = by (test e.0) (all_but_one test es all.1)
    where
      by : (b : Bool) → AllByRecursion P (remove_entry test es) → AllByRecursion P (cond b es (e ∷ remove_entry test es))
      by true later = all.1
      by false later = (all.0, later)

  pub all_and_one : (es : List (ℕ × F)) (k : ℕ) (a : F) → ((j : ℕ) → eq_by_cmp nat_cmp k j ≡ true → P (j, a)) → AllByRecursion P es → AllByRecursion P (insert_entry nat_cmp es k a)
  all_and_one [] k a is all = (is k ((eq_by_cmp_equiv nat_cmp_total).refl k), tt)
  all_and_one (e ∷ es) k a is all = by (nat_cmp k e.0) refl (all_and_one es k a is all.1)
    where
      by : (o : Ordering) → nat_cmp k e.0 ≡ o → AllByRecursion P (insert_entry nat_cmp es k a) → AllByRecursion P (match_ordering o ((k, a) ∷ e ∷ es) ((e.0, a) ∷ es) (e ∷ insert_entry nat_cmp es k a))
      by Less here more = (is k ((eq_by_cmp_equiv nat_cmp_total).refl k), all)
      by Equal here more = (is e.0 (ap is_eq here), all.1)
      by Greater here more = (all.0, more)

  pub one_of_all : (es : List (ℕ × F)) (q : ℕ) (a : F) → AllByRecursion P es → Some a ≡ at q es → P (q, a)
  one_of_all [] q a all e = absurd (cc)
  one_of_all (x ∷ es) q a all e = by (eq_by_cmp nat_cmp q x.0) refl e (one_of_all es q a all.1)
    where
      by : (b : Bool) → eq_by_cmp nat_cmp q x.0 ≡ b → Some a ≡ cond b (Some x.1) (at q es) → (Some a ≡ at q es → P (q, a)) → P (q, a)
      by true here same more =
          let one : x.1 ≡ a = ap (λ o. unwrap_or o a) (sym same) in
          let number : q ≡ x.0 = one_number q x.0 here in
          subst (λ b. P (q, b)) one (subst (λ n. P (n, x.1)) (sym number) all.0)
      by false off same more = more same

module _ {F : Type 0} (account : F → ℕ) (IsPriced : F → Type 0) where
  pub kept_and_one : (es : List (ℕ × F)) (k : ℕ) (a : F) → k ≡ account a → 1 ≤ account a → IsPriced a → AreFiled account IsPriced es → AreFiled account IsPriced (insert_entry nat_cmp es k a)
  kept_and_one es k a own from_1 priced kept =
      all_and_one (IsFiled account IsPriced) es k a (λ j same. let number = one_number k j same in (sym own ∙ number, subst (λ n. 1 ≤ n) (sym own ∙ number) from_1, priced)) kept

-- ---- all in order

module _ {F : Type 0} (account : F → ℕ) (accepted : F → Accepted) (IsPriced : F → Type 0) where
  both : (a b : Bool) → T a → T b → T (a && b)
  both true b p q = q
  both false b p q = p

  abbrev pairs : List (ℕ × F) → List (ℕ × Accepted)
  pairs es = map (λ (e : ℕ × F). (e.0, accepted e.1)) es

  below : (n : ℕ) (es : List (ℕ × F)) → AllByRecursion (λ m. nat_cmp n m ≡ Less) (map (λ (e : ℕ × F). e.0) es) → T (below_all nat_cmp n (pairs es))
  below n [] h = tt
  below n (e ∷ es) h = both (is_lt (nat_cmp n e.0)) (below_all nat_cmp n (pairs es)) (subst (λ r. T (is_lt r)) (sym h.0) tt) (below n es h.1)

  rises : (es : List (ℕ × F)) → IsStrictlySortedBy nat_cmp (map (λ (e : ℕ × F). e.0) es) → T (is_sorted nat_cmp (pairs es))
  unfolding IsStrictlySortedBy
  rises [] h = tt
  rises (e ∷ es) h = both (below_all nat_cmp e.0 (pairs es)) (is_sorted nat_cmp (pairs es)) (below e.0 es h.0) (rises es h.1)

  as_they_are : (es : List (ℕ × F)) → T (is_sorted nat_cmp (pairs es)) → finite.entries (held accepted es) ≡ pairs es
  unfolding held
  as_they_are es sorted =
      ap finite.entries (same_map nat_cmp_total nat_cmp-IsAntisymmetric (finite.from_entries (pairs es)) (finite.from_sorted (pairs es)) (λ q.
      get-from_entries nat_cmp_total (pairs es) q ∙ sym (get-from_sorted nat_cmp (pairs es) q sorted)))
      ∙ entries-from_sorted nat_cmp (pairs es) sorted

  by_account : (es : List (ℕ × F)) → AreFiled account IsPriced es → pairs es ≡ map (λ (a : F). (account a, accepted a)) (map (λ (e : ℕ × F). e.1) es)
  by_account [] kept = refl
  by_account (e ∷ es) kept = λ i. (sym kept.0.0 i, accepted e.1) ∷ by_account es kept.1 i

  pub all_in_order : (es : List (ℕ × F)) → AreFiled account IsPriced es → IsStrictlySortedBy nat_cmp (map (λ (e : ℕ × F). e.0) es)
      → finite.entries (held accepted es) ≡ map (λ (a : F). (account a, accepted a)) (map (λ (e : ℕ × F). e.1) es)
  all_in_order es kept sorted = as_they_are es (rises es sorted) ∙ by_account es kept

  pub numbers : (es : List (ℕ × F)) → AreFiled account IsPriced es → map (λ (e : ℕ × F). e.0) es ≡ map account (map (λ (e : ℕ × F). e.1) es)
  numbers [] kept = refl
  numbers (e ∷ es) kept = λ i. sym kept.0.0 i ∷ numbers es kept.1 i

  pub all_priced : (es : List (ℕ × F)) → AreFiled account IsPriced es → ArePriced account IsPriced (map (λ (e : ℕ × F). e.1) es)
  all_priced [] kept = tt
  all_priced (e ∷ es) kept = ((subst (λ n. 1 ≤ n) (sym kept.0.0) kept.0.1, kept.0.2), all_priced es kept.1)

pub none_held : {F : Type 0} (accepted : F → Accepted) → held accepted [] ≡ finite.empty
unfolding held
none_held accepted = refl
