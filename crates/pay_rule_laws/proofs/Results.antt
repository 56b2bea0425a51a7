-- Results of a tap and of a correction, by how its set judges it.
use Rattle.std.proofs.Common.{◌≡◌, ◌↔◌, Bool, true, false, cond, if◌then◌else◌, ℕ, Option, Some, None, Result, Ok, Err, refl, ap, ◌∙◌, subst}
use Rattle.std.specs.FinMap as map
use Rattle.std.specs.Cmp.{IsTotalOrder, nat_cmp_total, eq_by_cmp_equiv}
use Rattle.std.proofs.lemmas.Cmp.{on_total, then_total}
use Rattle.pay_tables.specs.Words.{FareEditions}
use Rattle.pay_rules.specs.Numbers.{number_cmp, ByNumber}
use Rattle.pay_rules.specs.declared.addition.Addition.{Addition}
use Rattle.pay_rules.specs.declared.addition.Addition.TheVariants.{Added, Repeat}
use Rattle.pay_rules.specs.declared.addition.AdditionFault.{AdditionFault}
use Rattle.pay_rules.specs.declared.addition.AdditionFault.TheVariants as of_set
use Rattle.pay_rules.specs.declared.tap.Tap.{Tap}
use Rattle.pay_rules.specs.Taps.{judged, number as tap_number}
use Rattle.pay_rules.specs.declared.fix.Fix.{Fix}
use Rattle.pay_rules.specs.Fixes.{judged as judged_fix, number as fix_number}
use Rattle.pay_rules.specs.NamedDay.{day_named}
use Rattle.pay_rules.specs.declared.priced.Priced.{Priced}
use Rattle.pay_rules.specs.declared.fares.TapFault.TheVariants as of_tap
use Rattle.pay_rules.specs.declared.fares.FixFault.TheVariants as of_fix
use Rattle.pay_rules.specs.Accepted.{Accepted, with_tap, with_fix}
use Rattle.pay_rules.specs.TapPlaces.{is_known, is_known_fix}
use Rattle.pay_rules.specs.Prices.{prices}
use Rattle.pay_rules.specs.TapResults.{tap_added, tap_result, after_tap}
use Rattle.pay_rules.specs.FixResults.{prices_on, fix_added, fix_result, after_fix}

number_total : IsTotalOrder number_cmp
number_total = then_total (on_total (λ n. n.0) nat_cmp_total) (on_total (λ n. n.1) nat_cmp_total)

-- what is put into a map stands at its number
there : {X : Type 0} (set : ByNumber X) (k : ℕ × ℕ) (x : X) → map.get (map.insert set k x) k ≡ Some x
there set k x =
    map.get-insert number_total set k x k
    ∙ ap (λ (b : Bool). cond b (Some x) (map.get set k)) ((eq_by_cmp_equiv number_total).refl k)

-- ---- of a tap

-- the result of a tap at a known place is as the set of taps judges it
pub known : (editions : FareEditions) (accepted : Accepted) (tap : Tap) (r : Result Addition AdditionFault) → is_known editions tap.place tap.kind ≡ true → judged accepted.taps tap ≡ r
    → tap_result editions accepted tap ≡ tap_added editions accepted tap r
known editions accepted tap r is e =
    ap (λ b. if b then tap_added editions accepted tap (judged accepted.taps tap) else Err of_tap.UnknownPlace) is ∙ ap (tap_added editions accepted tap) e

conflict_if : (editions : FareEditions) (accepted : Accepted) (tap : Tap) (is : Bool) (r : Result Addition AdditionFault)
    → ((if is then tap_added editions accepted tap r else Err of_tap.UnknownPlace) ≡ Err of_tap.Conflict) ↔ ((is ≡ true) × (r ≡ Err of_set.Conflict))
conflict_if editions accepted tap false r = (λ e. absurd (cc), λ h. let f = h.0 in absurd (cc))
conflict_if editions accepted tap true (Ok Added) = (λ e. absurd (cc), λ h. let f = h.1 in absurd (cc))
conflict_if editions accepted tap true (Ok Repeat) = (λ e. absurd (cc), λ h. let f = h.1 in absurd (cc))
conflict_if editions accepted tap true (Err of_set.Conflict) = (λ e. (refl, refl), λ h. refl)
conflict_if editions accepted tap true (Err of_set.Full) = (λ e. absurd (cc), λ h. let f = h.1 in absurd (cc))
conflict_if editions accepted tap true (Err of_set.Memory) = (λ e. absurd (cc), λ h. let f = h.1 in absurd (cc))

pub conflict_iff : (editions : FareEditions) (accepted : Accepted) (tap : Tap) → (tap_result editions accepted tap ≡ Err of_tap.Conflict) ↔ ((is_known editions tap.place tap.kind ≡ true) × (judged accepted.taps tap ≡ Err of_set.Conflict))
conflict_iff editions accepted tap = conflict_if editions accepted tap (is_known editions tap.place tap.kind) (judged accepted.taps tap)

-- the result of the same tap once more
abbrev pub IsRepeated : FareEditions → Accepted → Tap → Priced → Type 0
IsRepeated editions accepted tap priced = tap_result editions (after_tap (Ok priced) accepted tap) tap ≡ Ok (record priced { again = true })

repeated_if : (editions : FareEditions) (accepted : Accepted) (tap : Tap) (priced : Priced) (is : Bool) (r : Result Addition AdditionFault)
    → ((accepted : Accepted) → map.get accepted.taps (tap_number tap) ≡ Some tap → judged accepted.taps tap ≡ Ok Repeat)
    → is_known editions tap.place tap.kind ≡ is → judged accepted.taps tap ≡ r → (if is then tap_added editions accepted tap r else Err of_tap.UnknownPlace) ≡ Ok priced
    → IsRepeated editions accepted tap priced
repeated_if editions accepted tap priced false r repeat is e first = absurd (cc)
repeated_if editions accepted tap priced true (Ok Added) repeat is e first =
    let more : Accepted = with_tap accepted tap in
    let same : prices editions more false tap.stamp.day ≡ priced = cc in
    subst (IsRepeated editions accepted tap) same (known editions more tap (Ok Repeat) is (repeat more (there accepted.taps (tap_number tap) tap)))
repeated_if editions accepted tap priced true (Ok Repeat) repeat is e first =
    let same : prices editions accepted true tap.stamp.day ≡ priced = cc in
    subst (IsRepeated editions accepted tap) same (known editions accepted tap (Ok Repeat) is e)
repeated_if editions accepted tap priced true (Err fault) repeat is e first = absurd (cc)

pub repeated : (editions : FareEditions) (accepted : Accepted) (tap : Tap) (priced : Priced) → ((accepted : Accepted) → map.get accepted.taps (tap_number tap) ≡ Some tap → judged accepted.taps tap ≡ Ok Repeat)
    → tap_result editions accepted tap ≡ Ok priced → IsRepeated editions accepted tap priced
repeated editions accepted tap priced repeat first = repeated_if editions accepted tap priced (is_known editions tap.place tap.kind) (judged accepted.taps tap) repeat refl refl first

-- ---- of a correction

pub known_fix : (editions : FareEditions) (accepted : Accepted) (fix : Fix) (r : Result Addition AdditionFault) → is_known_fix editions fix.what ≡ true → judged_fix accepted.fixes fix ≡ r
    → fix_result editions accepted fix ≡ fix_added editions accepted fix r
known_fix editions accepted fix r is e =
    ap (λ b. if b then fix_added editions accepted fix (judged_fix accepted.fixes fix) else Err of_fix.UnknownPlace) is ∙ ap (fix_added editions accepted fix) e

fix_conflict_if : (editions : FareEditions) (accepted : Accepted) (fix : Fix) (is : Bool) (r : Result Addition AdditionFault)
    → ((if is then fix_added editions accepted fix r else Err of_fix.UnknownPlace) ≡ Err of_fix.FixConflict) ↔ ((is ≡ true) × (r ≡ Err of_set.Conflict))
fix_conflict_if editions accepted fix false r = (λ e. absurd (cc), λ h. let f = h.0 in absurd (cc))
fix_conflict_if editions accepted fix true (Ok Added) = (λ e. absurd (cc), λ h. let f = h.1 in absurd (cc))
fix_conflict_if editions accepted fix true (Ok Repeat) = (λ e. absurd (cc), λ h. let f = h.1 in absurd (cc))
fix_conflict_if editions accepted fix true (Err of_set.Conflict) = (λ e. (refl, refl), λ h. refl)
fix_conflict_if editions accepted fix true (Err of_set.Full) = (λ e. absurd (cc), λ h. let f = h.1 in absurd (cc))
fix_conflict_if editions accepted fix true (Err of_set.Memory) = (λ e. absurd (cc), λ h. let f = h.1 in absurd (cc))

pub fix_conflict_iff : (editions : FareEditions) (accepted : Accepted) (fix : Fix) → (fix_result editions accepted fix ≡ Err of_fix.FixConflict) ↔ ((is_known_fix editions fix.what ≡ true) × (judged_fix accepted.fixes fix ≡ Err of_set.Conflict))
fix_conflict_iff editions accepted fix = fix_conflict_if editions accepted fix (is_known_fix editions fix.what) (judged_fix accepted.fixes fix)

told_again : (editions : FareEditions) (accepted : Accepted) (named : Option ℕ) → prices_on editions accepted true named ≡ record (prices_on editions accepted false named) { again = true }
told_again editions accepted None = refl
told_again editions accepted (Some day) = refl

abbrev pub IsRepeatedFix : FareEditions → Accepted → Fix → Priced → Type 0
IsRepeatedFix editions accepted fix priced = fix_result editions (after_fix (Ok priced) accepted fix) fix ≡ Ok (record priced { again = true })

-- what a further correction leaves, where its day may be none
pub added_fix : (editions : FareEditions) (accepted : Accepted) (fix : Fix) (named : Option ℕ) → after_fix (Ok (prices_on editions (with_fix accepted fix) false named)) accepted fix ≡ with_fix accepted fix
added_fix editions accepted fix None = refl
added_fix editions accepted fix (Some day) = refl

pub same_fix_left : (editions : FareEditions) (accepted : Accepted) (fix : Fix) (named : Option ℕ) → after_fix (Ok (prices_on editions accepted true named)) accepted fix ≡ accepted
same_fix_left editions accepted fix None = refl
same_fix_left editions accepted fix (Some day) = refl

repeated_fix_if : (editions : FareEditions) (accepted : Accepted) (fix : Fix) (priced : Priced) (is : Bool) (r : Result Addition AdditionFault)
    → ((accepted : Accepted) → map.get accepted.fixes (fix_number fix) ≡ Some fix → judged_fix accepted.fixes fix ≡ Ok Repeat)
    → is_known_fix editions fix.what ≡ is → judged_fix accepted.fixes fix ≡ r → (if is then fix_added editions accepted fix r else Err of_fix.UnknownPlace) ≡ Ok priced
    → IsRepeatedFix editions accepted fix priced
repeated_fix_if editions accepted fix priced false r repeat is e first = absurd (cc)
repeated_fix_if editions accepted fix priced true (Ok Added) repeat is e first =
    let more : Accepted = with_fix accepted fix in
    let named : Option ℕ = day_named more.taps more.fixes fix.what in
    let same : prices_on editions more false named ≡ priced = cc in
    subst (IsRepeatedFix editions accepted fix) same
    (ap (λ a. fix_result editions a fix) (added_fix editions accepted fix named)
    ∙ known_fix editions more fix (Ok Repeat) is (repeat more (there accepted.fixes (fix_number fix) fix)) ∙ ap Ok (told_again editions more named))
repeated_fix_if editions accepted fix priced true (Ok Repeat) repeat is e first =
    let named : Option ℕ = day_named accepted.taps accepted.fixes fix.what in
    let same : prices_on editions accepted true named ≡ priced = cc in
    subst (IsRepeatedFix editions accepted fix) same
    (ap (λ a. fix_result editions a fix) (same_fix_left editions accepted fix named) ∙ known_fix editions accepted fix (Ok Repeat) is e ∙ ap Ok (told_twice editions accepted named))
  where
    told_twice : (editions : FareEditions) (accepted : Accepted) (named : Option ℕ) → prices_on editions accepted true named ≡ record (prices_on editions accepted true named) { again = true }
    told_twice editions accepted None = refl
    told_twice editions accepted (Some day) = refl
repeated_fix_if editions accepted fix priced true (Err fault) repeat is e first = absurd (cc)

pub repeated_fix : (editions : FareEditions) (accepted : Accepted) (fix : Fix) (priced : Priced) → ((accepted : Accepted) → map.get accepted.fixes (fix_number fix) ≡ Some fix → judged_fix accepted.fixes fix ≡ Ok Repeat)
    → fix_result editions accepted fix ≡ Ok priced → IsRepeatedFix editions accepted fix priced
repeated_fix editions accepted fix priced repeat first = repeated_fix_if editions accepted fix priced (is_known_fix editions fix.what) (judged_fix accepted.fixes fix) repeat refl refl first
