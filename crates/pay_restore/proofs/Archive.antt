-- What is restored of rows is what they tell, and what was archived is restored.
use Rattle.std.proofs.Common.{◌≡◌, inl, inr, ◌⊎◌, ◌↔◌, ℕ, true, T, List, [], ◌∷◌, map, length, Option, Some, None, unwrap_or, is_some, refl, sym, ap, ◌∙◌, subst, arith}
use Rattle.std.specs.Prelude.{ℤ}
use Rattle.std.specs.FinMap as finite
use Rattle.std.specs.Cmp.{nat_cmp_total}
use Rattle.std.specs.FinMap.{find, is_sorted, get-entries, get-from_entries, entries_sorted, get-empty, len-empty, same_map}
use Rattle.std.specs.FinMap.Entries.{below_all}
use Rattle.std.specs.List.{AllByRecursion}
use Rattle.std.specs.List.Sorted.{IsStrictlySortedBy}
use Rattle.std.specs.Ordering.{nat_cmp, is_lt}
use Rattle.std.specs.declared.cmp.Ordering.{Ordering}
use Rattle.std.specs.declared.cmp.Ordering.TheVariants.{Less, Equal, Greater}
use Rattle.std.proofs.lemmas.Option.{none-some}
use Rattle.pay_rules.specs.Numbers.{number_cmp, ByNumber}
use Rattle.pay_tables.specs.Words.{FareEditions}
use Rattle.pay_rules.specs.declared.limits.TheConstants.{MOST_TAPS, MOST_FIXES}
use Rattle.pay_rules.specs.declared.tap.Tap.{Tap}
use Rattle.pay_rules.specs.Taps.{number as tap_number}
use Rattle.pay_rules.specs.declared.fix.Fix.{Fix}
use Rattle.pay_rules.specs.Fixes.{number as fix_number}
use Rattle.pay_rules.specs.Accepted.{Accepted, nothing}
use Rattle.pay_rules.specs.State.{State, accepted_of}
use Rattle.pay_rows.specs.declared.row.TapRow.{TapRow}
use Rattle.pay_rows.specs.declared.row.FixRow.{FixRow}
use Rattle.pay_set_rows.specs.Ranged.{◌>>=◌}
use Rattle.pay_restore.specs.Restored.{tap_of_row, fix_of_row, with_tap_rows, with_fix_rows, restored}
use Rattle.pay_restore.specs.Archives.{tap_account, fix_account, tap_rows, fix_rows, IsArchivedTap, IsArchivedFix, IsArchive, IsSetOf, HasOf, AreRestored, AreTold}
use Rattle.pay_restore.proofs.Sets.{number_total, exact_numbers}
use Rattle.pay_restore.proofs.Taken.{Fits}
use Rattle.pay_restore.proofs.Values.{first, second}
use Rattle.pay_restore.proofs.Rows.{taps, fixes, TapsTook, FixesTook, TapsBack, FixesBack, tap_back, fix_back, tap_rows_took, fix_rows_took, tap_rows_fit, fix_rows_fit}

-- ---- in ascending order

less : (o : Ordering) → T (is_lt o) → o ≡ Less
less Less p = refl
less Equal p = absurd p
less Greater p = absurd p

below_each : {V : Type 0} (n : ℕ) (es : List (ℕ × V)) → T (below_all nat_cmp n es) → AllByRecursion (λ m. nat_cmp n m ≡ Less) (map (λ (e : ℕ × V). e.0) es)
below_each n [] p = tt
below_each n (e ∷ es) p = (less (nat_cmp n e.0) (first (is_lt (nat_cmp n e.0)) (below_all nat_cmp n es) p), below_each n es (second (is_lt (nat_cmp n e.0)) (below_all nat_cmp n es) p))

ascends : {V : Type 0} (es : List (ℕ × V)) → T (is_sorted nat_cmp es) → IsStrictlySortedBy nat_cmp (map (λ (e : ℕ × V). e.0) es)
unfolding IsStrictlySortedBy
ascends [] p = tt
ascends (e ∷ es) p = (below_each e.0 es (first (below_all nat_cmp e.0 es) (is_sorted nat_cmp es) p), ascends es (second (below_all nat_cmp e.0 es) (is_sorted nat_cmp es) p))

-- ---- from nothing

abbrev none : State
none = finite.empty

none_of : (a : ℕ) → accepted_of none a ≡ nothing
none_of a = ap (λ (o : Option Accepted). unwrap_or o nothing) (get-empty nat_cmp a)

not_there : (a : ℕ) → (finite.contains_key none a ≡ true) → ⊥
not_there a h = let no = ap (λ (o : Option Accepted). is_some o) (get-empty nat_cmp a) in absurd (cc)

no_tap : (a : ℕ) (n : ℕ × ℕ) (tap : Tap) → finite.get (accepted_of none a).taps n ≡ Some tap → ⊥
no_tap a n tap e = absurd (none-some tap (sym (ap (λ (z : Accepted). finite.get z.taps n) (none_of a) ∙ get-empty number_cmp n) ∙ e))

no_fix : (a : ℕ) (n : ℕ × ℕ) (fix : Fix) → finite.get (accepted_of none a).fixes n ≡ Some fix → ⊥
no_fix a n fix e = absurd (none-some fix (sym (ap (λ (z : Accepted). finite.get z.fixes n) (none_of a) ∙ get-empty number_cmp n) ∙ e))

-- ---- all that was taken

module _ (mid end : State) (tap_list : List Tap) (fix_list : List Fix) (tapped : TapsTook none mid tap_list) (fixed : FixesTook mid end fix_list) where
  occurs : (a : ℕ) → (finite.contains_key end a ≡ true) ↔ (HasOf tap_account tap_list a ⊎ HasOf fix_account fix_list a)
  occurs a = (
    λ h. elim ((fixed.there a).0 h) [
      | inl e ↦ elim ((tapped.there a).0 e) [ inl f ↦ absurd (not_there a f) | inr w ↦ inl w ]
      | inr w ↦ inr w
    ],
    λ h. (fixed.there a).1 (elim h [ inl w ↦ inl ((tapped.there a).1 (inr w)) | inr w ↦ inr w ]),
  )

  has_taps : (a : ℕ) → IsSetOf tap_account tap_number tap_list a (accepted_of end a).taps
  has_taps a n tap =
      let same : finite.get (accepted_of end a).taps n ≡ finite.get (accepted_of mid a).taps n = ap (λ t. finite.get t n) (fixed.others a) in (
        λ h. elim ((tapped.at a n tap).0 (sym same ∙ h)) [ inl e ↦ absurd (no_tap a n tap e) | inr w ↦ w ],
        λ w. same ∙ (tapped.at a n tap).1 (inr w),
      )

  has_fixes : (a : ℕ) → IsSetOf fix_account fix_number fix_list a (accepted_of end a).fixes
  has_fixes a n fix =
      let same : finite.get (accepted_of mid a).fixes n ≡ finite.get (accepted_of none a).fixes n = ap (λ t. finite.get t n) (tapped.others a) in (
        λ h. elim ((fixed.at a n fix).0 h) [ inl e ↦ absurd (no_fix a n fix (sym same ∙ e)) | inr w ↦ w ],
        λ w. (fixed.at a n fix).1 (inr w),
      )

  is_of : (a : ℕ) (accepted : Accepted) → find nat_cmp a (finite.entries end) ≡ Some accepted → accepted_of end a ≡ accepted
  is_of a accepted e = ap (λ (o : Option Accepted). unwrap_or o nothing) (get-entries end a ∙ e)

  all_restored : AreRestored tap_list fix_list (finite.entries end)
  all_restored = record {
    ascending = ascends (finite.entries end) (entries_sorted end);
    occurring = λ a. subst (λ (o : Option Accepted). (is_some o ≡ true) ↔ (HasOf tap_account tap_list a ⊎ HasOf fix_account fix_list a)) (get-entries end a) (occurs a);
    own_taps = λ a accepted e. subst (λ (z : Accepted). IsSetOf tap_account tap_number tap_list a z.taps) (is_of a accepted e) (has_taps a);
    own_fixes = λ a accepted e. subst (λ (z : Accepted). IsSetOf fix_account fix_number fix_list a z.fixes) (is_of a accepted e) (has_fixes a);
  }

-- ---- what rows tell

pub told : (editions : FareEditions) (rows : List (ℤ × TapRow)) (further : List (ℤ × FixRow)) (accounts : List (ℕ × Accepted)) → restored editions rows further ≡ Some accounts → AreTold rows further accounts
told editions rows further accounts e = by_taps (with_tap_rows editions none rows) refl e
  where
    by_fixes : (mid : State) (o : Option State) → with_tap_rows editions none rows ≡ Some mid → with_fix_rows editions mid further ≡ o → (o >>= λ all. Some (finite.entries all)) ≡ Some accounts → AreTold rows further accounts
    by_fixes mid None is then f = absurd (cc)
    by_fixes mid (Some end) is then f =
        let tapped = tap_rows_took editions none mid rows is in
        let fixed = fix_rows_took editions mid end further then in
        let same : finite.entries end ≡ accounts = cc in
        (tapped.0, fixed.0, tapped.1, fixed.1, subst (AreRestored tapped.0 fixed.0) same (all_restored mid end tapped.0 fixed.0 tapped.2 fixed.2))

    by_taps : (o : Option State) → with_tap_rows editions none rows ≡ o → (o >>= λ tapped. with_fix_rows editions tapped further >>= λ all. Some (finite.entries all)) ≡ Some accounts → AreTold rows further accounts
    by_taps None is f = absurd (cc)
    by_taps (Some mid) is f = by_fixes mid (with_fix_rows editions mid further) is refl f

-- ---- what was archived

same_list : {X : Type 0} (list other : List X) → map Some list ≡ map Some other → list ≡ other
same_list [] [] e = refl
same_list [] (y ∷ other) e = absurd (omega (arith, ap length e))
same_list (x ∷ list) [] e = absurd (omega (arith, ap length e))
same_list (x ∷ list) (y ∷ other) e =
    let one : Some x ≡ Some y = cc in
    let head : x ≡ y = cc in
    let rest : map Some list ≡ map Some other = cc in
    λ i. head i ∷ same_list list other rest i

taps_read : TapsBack → (editions : FareEditions) (list : List Tap) → AllByRecursion (IsArchivedTap editions) list → map tap_of_row (tap_rows list) ≡ map Some list
taps_read back editions [] all = refl
taps_read back editions (tap ∷ list) all = λ i. tap_back back editions tap all.0 i ∷ taps_read back editions list all.1 i

fixes_read : FixesBack → (editions : FareEditions) (list : List Fix) → AllByRecursion (IsArchivedFix editions) list → map fix_of_row (fix_rows list) ≡ map Some list
fixes_read back editions [] all = refl
fixes_read back editions (fix ∷ list) all = λ i. fix_back back editions fix all.0 i ∷ fixes_read back editions list all.1 i

module _ (editions : FareEditions) (tap_list : List Tap) (fix_list : List Fix) (is : IsArchive editions tap_list fix_list) where
  taps_fit : Fits tap_account tap_number taps fixes MOST_TAPS none tap_list
  taps_fit = record {
    own_numbers = λ y h z e. absurd (no_tap y.account (tap_number y) z e);
    few = λ a. let zero = ap (λ (z : Accepted). finite.len z.taps) (none_of a) ∙ len-empty number_cmp Tap in omega (arith, zero, is.taps_together.few a);
  }

  -- the taps leave the corrections as they are
  fixes_fit : (mid : State) → ((a : ℕ) → (accepted_of mid a).fixes ≡ (accepted_of none a).fixes) → Fits fix_account fix_number fixes taps MOST_FIXES mid fix_list
  fixes_fit mid same = record {
    own_numbers = λ y h z e. absurd (no_fix y.account (fix_number y) z (ap (λ f. finite.get f (fix_number y)) (sym (same y.account)) ∙ e));
    few = λ a. let zero = ap (λ f. finite.len f) (same a) ∙ ap (λ (z : Accepted). finite.len z.fixes) (none_of a) ∙ len-empty number_cmp Fix in omega (arith, zero, is.fixes_together.few a);
  }

  -- what was read is what was written
  as_written : TapsBack → FixesBack → (accounts : List (ℕ × Accepted)) → AreTold (tap_rows tap_list) (fix_rows fix_list) accounts → AreRestored tap_list fix_list accounts
  as_written taps_back fixes_back accounts told =
      subst (λ l. AreRestored l fix_list accounts) (same_list told.0 tap_list (sym told.2 ∙ taps_read taps_back editions tap_list is.each_tap))
      (subst (λ l. AreRestored told.0 l accounts) (same_list told.1 fix_list (sym told.3 ∙ fixes_read fixes_back editions fix_list is.each_fix)) told.4)

  not_refused : TapsBack → FixesBack → (accounts : List (ℕ × Accepted)) × (restored editions (tap_rows tap_list) (fix_rows fix_list) ≡ Some accounts)
  not_refused taps_back fixes_back =
      let mid = tap_rows_fit taps_back editions none tap_list is.each_tap is.taps_together.own_numbers taps_fit in
      let same = (tap_rows_took editions none mid.0 (tap_rows tap_list) mid.1).2.others in
      let end = fix_rows_fit fixes_back editions mid.0 fix_list is.each_fix is.fixes_together.own_numbers (fixes_fit mid.0 same) in (
        finite.entries end.0,
        ap (λ (o : Option State). o >>= λ m. with_fix_rows editions m (fix_rows fix_list) >>= λ all. Some (finite.entries all)) mid.1
            ∙ ap (λ (o : Option State). o >>= λ all. Some (finite.entries all)) end.1,
      )

pub archived : TapsBack → FixesBack → (editions : FareEditions) (tap_list : List Tap) (fix_list : List Fix) → IsArchive editions tap_list fix_list
    → (accounts : List (ℕ × Accepted)) × (restored editions (tap_rows tap_list) (fix_rows fix_list) ≡ Some accounts) × AreRestored tap_list fix_list accounts
archived taps_back fixes_back editions tap_list fix_list is =
    let there = not_refused editions tap_list fix_list is taps_back fixes_back in
    (there.0, there.1, as_written editions tap_list fix_list is taps_back fixes_back there.0 (told editions (tap_rows tap_list) (fix_rows fix_list) there.0 there.1))

-- ---- as it was

same_option : {X : Type 0} (o p : Option X) → ((x : X) → o ≡ Some x → p ≡ Some x) → ((x : X) → p ≡ Some x → o ≡ Some x) → o ≡ p
same_option None None to back = refl
same_option None (Some y) to back = back y refl
same_option (Some x) p to back = sym (to x refl)

-- one set alone is just what a list has of an account
same_set : {X : Type 0} (account : X → ℕ) (number : X → ℕ × ℕ) (list : List X) (a : ℕ) (set other : ByNumber X) → IsSetOf account number list a set → IsSetOf account number list a other → set ≡ other
same_set account number list a set other is so =
    same_map number_total exact_numbers set other (λ n. same_option (finite.get set n) (finite.get other n) (λ x e. (so n x).1 ((is n x).0 e)) (λ x e. (is n x).1 ((so n x).0 e)))

-- of an account that does not occur, that is the empty set
empty_set : {X : Type 0} (account : X → ℕ) (number : X → ℕ × ℕ) (list : List X) (a : ℕ) → (HasOf account list a → ⊥) → IsSetOf account number list a finite.empty
empty_set account number list a none n x = (λ e. absurd (none-some x (sym (get-empty number_cmp n) ∙ e)), λ w. absurd (none (x, w.0, w.1)))

pub as_it_was : (tap_list : List Tap) (fix_list : List Fix) (accounts : List (ℕ × Accepted)) → AreRestored tap_list fix_list accounts
    → (a : ℕ) (accepted : Accepted) → IsSetOf tap_account tap_number tap_list a accepted.taps → IsSetOf fix_account fix_number fix_list a accepted.fixes → accepted_of (finite.from_entries accounts) a ≡ accepted
as_it_was tap_list fix_list accounts are a accepted its_taps its_fixes =
    ap (λ (o : Option Accepted). unwrap_or o nothing) (get-from_entries nat_cmp_total accounts a) ∙ by_found (find nat_cmp a accounts) refl
  where
    same : (it : Accepted) → IsSetOf tap_account tap_number tap_list a it.taps → IsSetOf fix_account fix_number fix_list a it.fixes → it ≡ accepted
    same it has_taps has_fixes =
        let one = same_set tap_account tap_number tap_list a it.taps accepted.taps has_taps its_taps in
        let other = same_set fix_account fix_number fix_list a it.fixes accepted.fixes has_fixes its_fixes in
        λ i. record { taps = one i; fixes = other i }

    absent : find nat_cmp a accounts ≡ None → (is_some (find nat_cmp a accounts) ≡ true) → ⊥
    absent none h = let no = ap (λ (o : Option Accepted). is_some o) none in absurd (cc)

    by_found : (o : Option Accepted) → find nat_cmp a accounts ≡ o → unwrap_or o nothing ≡ accepted
    by_found (Some it) e = same it (are.own_taps a it e) (are.own_fixes a it e)
    by_found None e =
        same nothing (empty_set tap_account tap_number tap_list a (λ w. absent e ((are.occurring a).1 (inl w)))) (empty_set fix_account fix_number fix_list a (λ w. absent e ((are.occurring a).1 (inr w))))
