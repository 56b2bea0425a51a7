-- Taps and corrections of a set: each stands at a number of its own, and rows tell all of them.
use Rattle.std.proofs.Common.{◌≡◌, ℕ, Bool, true, false, T, List, [], ◌∷◌, map, refl, sym, ap, ◌∙◌, subst, eqb-true, eq-eqb}
use Rattle.std.specs.Prelude.{ℤ, pos, unsigned_abs, ◌==◌, ◌&&◌}
use Rattle.std.specs.Cmp.{nat_cmp_is}
use Rattle.std.specs.FinMap.{entries, entries_sorted, is_sorted}
use Rattle.std.specs.FinMap.Entries.{below_all}
use Rattle.std.specs.List.{AllByRecursion}
use Rattle.std.specs.Ordering.{int_eq, is_lt, ordering_then}
use Rattle.std.specs.declared.cmp.Ordering.TheVariants.{Equal}
use Rattle.std.proofs.lemmas.Bool.{and_parts, and_from}
use Rattle.std.proofs.lemmas.Bool.Decides.{Decides-int_eq}
use Rattle.std.proofs.lemmas.Cmp.{int_eq_equiv}
use Rattle.pay_rules.specs.Numbers.{number_cmp}
use Rattle.pay_rules.specs.declared.tap.Tap.{Tap}
use Rattle.pay_rules.specs.SameTap.{tap_from_same, tap_itself}
use Rattle.pay_rules.specs.Taps.{same_tap, number as tap_number}
use Rattle.pay_rules.specs.declared.fix.Fix.{Fix}
use Rattle.pay_rules.specs.declared.fix.What.{What}
use Rattle.pay_rules.specs.declared.fix.What.TheVariants.{Void, Fill, Credit, Drop}
use Rattle.pay_rules.specs.SameFix.{same_is_one, one_is_same}
use Rattle.pay_rules.specs.Fixes.{same_fix, number as fix_number}
use Rattle.pay_rules.specs.SetsParts.{AreNumbered}
use Rattle.pay_postings.specs.Archive.{is_numbered_as, is_fix_numbered_as}
use Rattle.pay_rows.specs.declared.row.TapRow.{TapRow}
use Rattle.pay_rows.specs.declared.row.FixRow.{FixRow}
use Rattle.pay_set_rows.specs.SetRows.{tap_row, what_row, fix_row}
use Rattle.pay_postings.proofs.Archiving.{AreApart}
use Rattle.pay_postings.specs.NewRows.{is_tap_at, is_tap_row, is_fix_at, is_fix_row}

-- ---- numbers

int_is : (x y : ℤ) → int_eq x y ≡ true → x ≡ y
int_is x y e = (Decides-int_eq x y).0 e

pub int_itself : (x : ℤ) → int_eq x x ≡ true
int_itself x = int_eq_equiv.refl x

alike : (b c : Bool) → (b ≡ true → c ≡ true) → (c ≡ true → b ≡ true) → b ≡ c
alike true c so back = sym (so refl)
alike false true so back = back refl
alike false false so back = refl

pub pos_is : (p q : ℕ) → int_eq (pos p) (pos q) ≡ (q == p)
pos_is p q =
    alike (int_eq (pos p) (pos q)) (q == p) (λ e. eq-eqb q p (sym (ap unsigned_abs (int_is (pos p) (pos q) e))))
    (λ e. subst (λ k. int_eq (pos p) (pos k) ≡ true) (sym (eqb-true q p e)) (int_itself (pos p)))

-- ---- taps

pub own_tap : (x y : Tap) → (y.account == x.account) ≡ true → is_tap_at (tap_row x) (tap_row y) ≡ is_numbered_as x y
own_tap x y e =
    let reader = pos_is x.reader y.reader in
    let seq = pos_is x.seq y.seq in
    (λ i. reader i && seq i) ∙ ap (λ (b : Bool). b && y.reader == x.reader && y.seq == x.seq) (sym e)

pub other_tap : (x y : Tap) → (y.account == x.account) ≡ false → is_numbered_as x y ≡ false
other_tap x y e = ap (λ (b : Bool). b && y.reader == x.reader && y.seq == x.seq) e

-- rows with the same content are one
tap_rows : (r s : TapRow) → is_tap_row r s ≡ true → r ≡ s
tap_rows r s e =
    let touch = and_parts _ _ e in
    let stamp = and_parts _ _ touch.0 in
    let at = and_parts _ _ stamp.0 in
    let second = and_parts _ _ stamp.1 in
    let day = and_parts _ _ second.0 in
    let place = and_parts _ _ touch.1 in
    let same_reader = int_is _ _ at.0 in
    let same_seq = int_is _ _ at.1 in
    let same_utc = int_is _ _ day.0 in
    let same_day = int_is _ _ day.1 in
    let same_second = int_is _ _ second.1 in
    let same_place = int_is _ _ place.0 in
    let same_kind = int_is _ _ place.1 in
    λ i. record { reader = same_reader i; seq = same_seq i; utc = same_utc i; day = same_day i; second = same_second i; place = same_place i; kind = same_kind i }

tap_row_itself : (r : TapRow) → is_tap_row r r ≡ true
tap_row_itself r =
    and_from _ _ (and_from _ _ (and_from _ _ (int_itself r.reader) (int_itself r.seq)) (and_from _ _ (and_from _ _ (int_itself r.utc) (int_itself r.day)) (int_itself r.second))) (and_from _ _ (int_itself r.place) (int_itself r.kind))

pub same_taps : ((tap other : Tap) → tap.account ≡ other.account → tap_row tap ≡ tap_row other → tap ≡ other) → (x y : Tap) → is_numbered_as x y ≡ true → is_tap_row (tap_row x) (tap_row y) ≡ same_tap y x
same_taps told x y e =
    let account : y.account ≡ x.account = eqb-true _ _ (and_parts _ _ (and_parts _ _ e).0).0 in
    alike _ _ (λ same. subst (λ (t : Tap). same_tap t x ≡ true) (told x y (sym account) (tap_rows _ _ same)) (tap_itself x))
    (λ same. subst (λ (t : Tap). is_tap_row (tap_row x) (tap_row t) ≡ true) (sym (tap_from_same y x same)) (tap_row_itself (tap_row x)))

pub tap_number_at : (x y : Tap) → is_tap_at (tap_row x) (tap_row y) ≡ true → tap_number x ≡ tap_number y
tap_number_at x y e =
    let parts = and_parts _ _ e in
    let reader : x.reader ≡ y.reader = ap unsigned_abs (int_is (pos x.reader) (pos y.reader) parts.0) in
    let seq : x.seq ≡ y.seq = ap unsigned_abs (int_is (pos x.seq) (pos y.seq) parts.1) in
    λ i. (reader i, seq i)

-- ---- corrections

staff_of : (fix : Fix) (what : What) → (what_row fix what).staff ≡ pos fix.staff
staff_of fix (Void reader seq) = refl
staff_of fix (Fill stamp place kind) = refl
staff_of fix (Credit credit) = refl
staff_of fix (Drop staff seq) = refl

seq_of : (fix : Fix) (what : What) → (what_row fix what).seq ≡ pos fix.seq
seq_of fix (Void reader seq) = refl
seq_of fix (Fill stamp place kind) = refl
seq_of fix (Credit credit) = refl
seq_of fix (Drop staff seq) = refl

fix_at : (x y : Fix) → is_fix_at (fix_row x) (fix_row y) ≡ (y.staff == x.staff && y.seq == x.seq)
fix_at x y =
    let one = staff_of x x.what in
    let other = staff_of y y.what in
    let first = seq_of x x.what in
    let second = seq_of y y.what in
    let staff = pos_is x.staff y.staff in
    let seq = pos_is x.seq y.seq in
    (λ i. int_eq (one i) (other i) && int_eq (first i) (second i)) ∙ (λ i. staff i && seq i)

pub fix_number_at : (x y : Fix) → is_fix_at (fix_row x) (fix_row y) ≡ true → fix_number x ≡ fix_number y
fix_number_at x y e =
    let parts = and_parts _ _ (sym (fix_at x y) ∙ e) in
    let staff : y.staff ≡ x.staff = eqb-true _ _ parts.0 in
    let seq : y.seq ≡ x.seq = eqb-true _ _ parts.1 in
    sym (λ i. (staff i, seq i))

pub own_fix : (x y : Fix) → (y.account == x.account) ≡ true → is_fix_at (fix_row x) (fix_row y) ≡ is_fix_numbered_as x y
own_fix x y e = fix_at x y ∙ ap (λ (b : Bool). b && y.staff == x.staff && y.seq == x.seq) (sym e)

pub other_fix : (x y : Fix) → (y.account == x.account) ≡ false → is_fix_numbered_as x y ≡ false
other_fix x y e = ap (λ (b : Bool). b && y.staff == x.staff && y.seq == x.seq) e

fix_rows : (r s : FixRow) → is_fix_row r s ≡ true → r ≡ s
fix_rows r s e =
    let rest = and_parts _ _ e in
    let form = and_parts _ _ rest.0 in
    let at = and_parts _ _ form.0 in
    let second = and_parts _ _ form.1 in
    let what = and_parts _ _ second.0 in
    let fifth = and_parts _ _ rest.1 in
    let third = and_parts _ _ fifth.0 in
    let same_staff = int_is _ _ at.0 in
    let same_seq = int_is _ _ at.1 in
    let same_what = int_is _ _ what.0 in
    let same_a = int_is _ _ what.1 in
    let same_b = int_is _ _ second.1 in
    let same_c = int_is _ _ third.0 in
    let same_d = int_is _ _ third.1 in
    let same_e = int_is _ _ fifth.1 in
    λ i. record { staff = same_staff i; seq = same_seq i; what = same_what i; a = same_a i; b = same_b i; c = same_c i; d = same_d i; e = same_e i }

fix_row_itself : (r : FixRow) → is_fix_row r r ≡ true
fix_row_itself r =
    and_from _ _ (and_from _ _ (and_from _ _ (int_itself r.staff) (int_itself r.seq)) (and_from _ _ (and_from _ _ (int_itself r.what) (int_itself r.a)) (int_itself r.b))) (and_from _ _ (and_from _ _ (int_itself r.c) (int_itself r.d)) (int_itself r.e))

pub same_fixes : ((fix other : Fix) → fix.account ≡ other.account → fix_row fix ≡ fix_row other → fix ≡ other) → (x y : Fix) → is_fix_numbered_as x y ≡ true → is_fix_row (fix_row x) (fix_row y) ≡ same_fix y x
same_fixes told x y e =
    let account : y.account ≡ x.account = eqb-true _ _ (and_parts _ _ (and_parts _ _ e).0).0 in
    alike _ _ (λ same. subst (λ (f : Fix). same_fix f x ≡ true) (told x y (sym account) (fix_rows _ _ same)) (one_is_same x))
    (λ same. subst (λ (f : Fix). is_fix_row (fix_row x) (fix_row f) ≡ true) (sym (same_is_one y x same)) (fix_row_itself (fix_row x)))

-- ---- numbers that rise

first : (a b : Bool) → T (a && b) → T a
first true b t = tt
first false b t = t

second : (a b : Bool) → T (a && b) → T b
second true b t = t
second false b t = absurd t

number_itself : (n : ℕ × ℕ) → is_lt (number_cmp n n) ≡ false
number_itself n =
    let one = sym (nat_cmp_is n.0 n.0 Equal refl) in
    let other = sym (nat_cmp_is n.1 n.1 Equal refl) in
    λ i. is_lt (ordering_then (one i) (other i))

module _ {X : Type 0} (number : X → ℕ × ℕ) (at : X → X → Bool) (at_number : (x y : X) → at x y ≡ true → number x ≡ number y) where
  rises : (x y : X) (b : Bool) → at y x ≡ b → T (is_lt (number_cmp (number x) (number y))) → b ≡ false
  rises x y true e less = let no = number_itself (number x) in let same = ap (λ n. is_lt (number_cmp (number x) n)) (at_number y x e) in absurd (subst T (same ∙ no) less)
  rises x y false e less = refl

  below_off : (x : X) (n : ℕ × ℕ) (es : List ((ℕ × ℕ) × X)) → number x ≡ n → T (below_all number_cmp n es) → map number (map (λ (e : (ℕ × ℕ) × X). e.1) es) ≡ map (λ (e : (ℕ × ℕ) × X). e.0) es
      → AllByRecursion (λ y. at y x ≡ false) (map (λ (e : (ℕ × ℕ) × X). e.1) es)
  below_off x n [] is below own = tt
  below_off x n (e ∷ es) is below own =
      let here : number e.1 ≡ e.0 = cc in
      let more : map number (map (λ (e : (ℕ × ℕ) × X). e.1) es) ≡ map (λ (e : (ℕ × ℕ) × X). e.0) es = cc in
      let less : T (is_lt (number_cmp n e.0)) = first _ _ below in
      (rises x e.1 (at e.1 x) refl (subst (λ m. T (is_lt (number_cmp m (number e.1)))) (sym is) (subst (λ m. T (is_lt (number_cmp n m))) (sym here) less)), below_off x n es is (second _ _ below) more)

  rise_apart : (es : List ((ℕ × ℕ) × X)) → T (is_sorted number_cmp es) → map number (map (λ (e : (ℕ × ℕ) × X). e.1) es) ≡ map (λ (e : (ℕ × ℕ) × X). e.0) es → AreApart at (map (λ (e : (ℕ × ℕ) × X). e.1) es)
  rise_apart [] sorted own = tt
  rise_apart (e ∷ es) sorted own =
      let here : number e.1 ≡ e.0 = cc in
      let more : map number (map (λ (e : (ℕ × ℕ) × X). e.1) es) ≡ map (λ (e : (ℕ × ℕ) × X). e.0) es = cc in
      (below_off e.1 e.0 es here (first _ _ sorted) more, rise_apart es (second _ _ sorted) more)

  pub numbered_apart : (most : ℕ) (list : List X) → AreNumbered number most list → AreApart at list
  numbered_apart most list is = subst (AreApart at) is.all (rise_apart (entries is.set) (entries_sorted is.set) is.numbered.own_numbers)
