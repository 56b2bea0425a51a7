-- What taps and corrections come to, in whatever order: each set takes its own.
use Rattle.std.proofs.Common.{◌≡◌, inl, inr, ◌↔◌, Bool, true, false, if◌then◌else◌, List, [], ◌∷◌, Result, Ok, Err, IsOk, refl, sym, ap, ◌∙◌, subst}
use Rattle.pay_tables.specs.Words.{FareEditions}
use Rattle.pay_rules.specs.Numbers.{ByNumber, set_after}
use Rattle.pay_rules.specs.InTurn.{AreTaken, IsIn, after_all as set_after_all}
use Rattle.pay_rules.specs.declared.addition.Addition.{Addition}
use Rattle.pay_rules.specs.declared.addition.Addition.TheVariants.{Added, Repeat}
use Rattle.pay_rules.specs.declared.addition.AdditionFault.{AdditionFault}
use Rattle.pay_rules.specs.declared.limits.TheConstants.{MOST_TAPS, MOST_FIXES}
use Rattle.pay_rules.specs.declared.tap.Tap.{Tap}
use Rattle.pay_rules.specs.Taps.{Taps, same_tap, judged, number as tap_number}
use Rattle.pay_rules.specs.declared.fix.Fix.{Fix}
use Rattle.pay_rules.specs.Fixes.{Fixes, same_fix, judged as judged_fix, number as fix_number}
use Rattle.pay_rules.specs.NamedDay.{day_named}
use Rattle.pay_rules.specs.declared.priced.Priced.{Priced}
use Rattle.pay_rules.specs.declared.fares.TapFault.TheVariants as of_tap
use Rattle.pay_rules.specs.declared.fares.FixFault.TheVariants as of_fix
use Rattle.pay_rules.specs.Accepted.{Accepted, with_fix}
use Rattle.pay_rules.specs.TapPlaces.{is_known, is_known_fix}
use Rattle.pay_rules.specs.TapResults.{tap_added, after_tap}
use Rattle.pay_rules.specs.FixResults.{fix_added, after_fix}
use Rattle.pay_rule_laws.proofs.Results.{added_fix, same_fix_left}
use Rattle.pay_rules.specs.Changes.{Change, Tapped, Fixed, after, after_all, AreAccepted}

abbrev taps_of : List Change → List Tap
taps_of [] = []
taps_of (Tapped tap ∷ list) = tap ∷ taps_of list
taps_of (Fixed fix ∷ list) = taps_of list

abbrev fixes_of : List Change → List Fix
fixes_of [] = []
fixes_of (Tapped tap ∷ list) = fixes_of list
fixes_of (Fixed fix ∷ list) = fix ∷ fixes_of list

-- made where it may be
abbrev IsKnown : FareEditions → Change → Type 0
IsKnown editions (Tapped tap) = is_known editions tap.place tap.kind ≡ true
IsKnown editions (Fixed fix) = is_known_fix editions fix.what ≡ true

-- ---- one tap

record TookTap (editions : FareEditions) (accepted : Accepted) (tap : Tap) (is : Bool) (r : Result Addition AdditionFault) : Type 0 where
  pub known : is ≡ true
  pub taken : IsOk r
  pub left : after_tap (if is then tap_added editions accepted tap r else Err of_tap.UnknownPlace) accepted tap ≡ record { taps = set_after tap_number r accepted.taps tap; fixes = accepted.fixes }

took_tap : (editions : FareEditions) (accepted : Accepted) (tap : Tap) (is : Bool) (r : Result Addition AdditionFault) (priced : Priced) → (if is then tap_added editions accepted tap r else Err of_tap.UnknownPlace) ≡ Ok priced
    → TookTap editions accepted tap is r
took_tap editions accepted tap false r priced e = absurd (cc)
took_tap editions accepted tap true (Ok Added) priced e = record { known = refl; taken = refl; left = refl }
took_tap editions accepted tap true (Ok Repeat) priced e = record { known = refl; taken = refl; left = refl }
took_tap editions accepted tap true (Err fault) priced e = absurd (cc)

record GaveTap (editions : FareEditions) (accepted : Accepted) (tap : Tap) (is : Bool) (r : Result Addition AdditionFault) : Type 0 where
  pub priced : Priced
  pub accepts : (if is then tap_added editions accepted tap r else Err of_tap.UnknownPlace) ≡ Ok priced
  pub left : after_tap (if is then tap_added editions accepted tap r else Err of_tap.UnknownPlace) accepted tap ≡ record { taps = set_after tap_number r accepted.taps tap; fixes = accepted.fixes }

gave_tap : (editions : FareEditions) (accepted : Accepted) (tap : Tap) (is : Bool) (r : Result Addition AdditionFault) → is ≡ true → IsOk r → GaveTap editions accepted tap is r
gave_tap editions accepted tap false r known taken = absurd (cc)
gave_tap editions accepted tap true (Ok Added) known taken = record { priced = _; accepts = refl; left = refl }
gave_tap editions accepted tap true (Ok Repeat) known taken = record { priced = _; accepts = refl; left = refl }
gave_tap editions accepted tap true (Err fault) known taken = absurd (cc)

-- ---- one correction

record TookFix (editions : FareEditions) (accepted : Accepted) (fix : Fix) (is : Bool) (r : Result Addition AdditionFault) : Type 0 where
  pub known : is ≡ true
  pub taken : IsOk r
  pub left : after_fix (if is then fix_added editions accepted fix r else Err of_fix.UnknownPlace) accepted fix ≡ record { taps = accepted.taps; fixes = set_after fix_number r accepted.fixes fix }

took_fix : (editions : FareEditions) (accepted : Accepted) (fix : Fix) (is : Bool) (r : Result Addition AdditionFault) (priced : Priced) → (if is then fix_added editions accepted fix r else Err of_fix.UnknownPlace) ≡ Ok priced
    → TookFix editions accepted fix is r
took_fix editions accepted fix false r priced e = absurd (cc)
took_fix editions accepted fix true (Ok Added) priced e = record { known = refl; taken = refl; left = added_fix editions accepted fix (day_named accepted.taps (with_fix accepted fix).fixes fix.what) }
took_fix editions accepted fix true (Ok Repeat) priced e = record { known = refl; taken = refl; left = same_fix_left editions accepted fix (day_named accepted.taps accepted.fixes fix.what) }
took_fix editions accepted fix true (Err fault) priced e = absurd (cc)

record GaveFix (editions : FareEditions) (accepted : Accepted) (fix : Fix) (is : Bool) (r : Result Addition AdditionFault) : Type 0 where
  pub priced : Priced
  pub accepts : (if is then fix_added editions accepted fix r else Err of_fix.UnknownPlace) ≡ Ok priced
  pub left : after_fix (if is then fix_added editions accepted fix r else Err of_fix.UnknownPlace) accepted fix ≡ record { taps = accepted.taps; fixes = set_after fix_number r accepted.fixes fix }

gave_fix : (editions : FareEditions) (accepted : Accepted) (fix : Fix) (is : Bool) (r : Result Addition AdditionFault) → is ≡ true → IsOk r → GaveFix editions accepted fix is r
gave_fix editions accepted fix false r known taken = absurd (cc)
gave_fix editions accepted fix true (Ok Added) known taken = record { priced = _; accepts = refl; left = added_fix editions accepted fix (day_named accepted.taps (with_fix accepted fix).fixes fix.what) }
gave_fix editions accepted fix true (Ok Repeat) known taken = record { priced = _; accepts = refl; left = same_fix_left editions accepted fix (day_named accepted.taps accepted.fixes fix.what) }
gave_fix editions accepted fix true (Err fault) known taken = absurd (cc)

-- ---- all of a list

abbrev taps_taken : Taps → List Tap → Type 0
taps_taken = AreTaken same_tap tap_number MOST_TAPS

abbrev fixes_taken : Fixes → List Fix → Type 0
fixes_taken = AreTaken same_fix fix_number MOST_FIXES

abbrev ended : Accepted → List Change → Accepted
ended accepted list = record { taps = set_after_all same_tap tap_number MOST_TAPS accepted.taps (taps_of list); fixes = set_after_all same_fix fix_number MOST_FIXES accepted.fixes (fixes_of list) }

record Took (editions : FareEditions) (accepted : Accepted) (list : List Change) : Type 0 where
  pub known : (change : Change) → IsIn list change → IsKnown editions change
  pub taps : taps_taken accepted.taps (taps_of list)
  pub fixes : fixes_taken accepted.fixes (fixes_of list)
  pub ends : after_all editions accepted list ≡ ended accepted list

took : (editions : FareEditions) (accepted : Accepted) (list : List Change) → AreAccepted editions accepted list → Took editions accepted list
took editions accepted [] are = record { known = λ change h. absurd h; taps = tt; fixes = tt; ends = refl }
took editions accepted (Tapped tap ∷ list) are =
    let one = took_tap editions accepted tap (is_known editions tap.place tap.kind) (judged accepted.taps tap) are.0.0 are.0.1 in
    let next : Accepted = record { taps = set_after tap_number (judged accepted.taps tap) accepted.taps tap; fixes = accepted.fixes } in
    let rest = took editions next list (subst (λ a. AreAccepted editions a list) one.left are.1) in
    record {
      known = λ change h. elim h [ inl is ↦ subst (IsKnown editions) is one.known | inr later ↦ rest.known change later ];
      taps = (one.taken, rest.taps);
      fixes = rest.fixes;
      ends = ap (λ a. after_all editions a list) one.left ∙ rest.ends;
    }
took editions accepted (Fixed fix ∷ list) are =
    let one = took_fix editions accepted fix (is_known_fix editions fix.what) (judged_fix accepted.fixes fix) are.0.0 are.0.1 in
    let next : Accepted = record { taps = accepted.taps; fixes = set_after fix_number (judged_fix accepted.fixes fix) accepted.fixes fix } in
    let rest = took editions next list (subst (λ a. AreAccepted editions a list) one.left are.1) in
    record {
      known = λ change h. elim h [ inl is ↦ subst (IsKnown editions) is one.known | inr later ↦ rest.known change later ];
      taps = rest.taps;
      fixes = (one.taken, rest.fixes);
      ends = ap (λ a. after_all editions a list) one.left ∙ rest.ends;
    }

gave : (editions : FareEditions) (accepted : Accepted) (list : List Change) → ((change : Change) → IsIn list change → IsKnown editions change) → taps_taken accepted.taps (taps_of list) → fixes_taken accepted.fixes (fixes_of list)
    → AreAccepted editions accepted list × (after_all editions accepted list ≡ ended accepted list)
gave editions accepted [] known taps fixes = (tt, refl)
gave editions accepted (Tapped tap ∷ list) known taps fixes =
    let one = gave_tap editions accepted tap (is_known editions tap.place tap.kind) (judged accepted.taps tap) (known (Tapped tap) (inl refl)) taps.0 in
    let next : Accepted = record { taps = set_after tap_number (judged accepted.taps tap) accepted.taps tap; fixes = accepted.fixes } in
    let rest = gave editions next list (λ change h. known change (inr h)) taps.1 fixes in
    (((one.priced, one.accepts), subst (λ a. AreAccepted editions a list) (sym one.left) rest.0), ap (λ a. after_all editions a list) one.left ∙ rest.1)
gave editions accepted (Fixed fix ∷ list) known taps fixes =
    let one = gave_fix editions accepted fix (is_known_fix editions fix.what) (judged_fix accepted.fixes fix) (known (Fixed fix) (inl refl)) fixes.0 in
    let next : Accepted = record { taps = accepted.taps; fixes = set_after fix_number (judged_fix accepted.fixes fix) accepted.fixes fix } in
    let rest = gave editions next list (λ change h. known change (inr h)) taps fixes.1 in
    (((one.priced, one.accepts), subst (λ a. AreAccepted editions a list) (sym one.left) rest.0), ap (λ a. after_all editions a list) one.left ∙ rest.1)

-- ---- which taps and corrections a list has

same_tap_of : (s t : Tap) → Tapped s ≡ Tapped t → s ≡ t
same_tap_of s t e = cc

same_fix_of : (s t : Fix) → Fixed s ≡ Fixed t → s ≡ t
same_fix_of s t e = cc

tap_in : (list : List Change) (tap : Tap) → IsIn list (Tapped tap) ↔ IsIn (taps_of list) tap
tap_in [] tap = (λ h. h, λ h. h)
tap_in (Tapped other ∷ list) tap =
    let rest = tap_in list tap in
    (λ h. elim h [ inl is ↦ inl (same_tap_of other tap is) | inr later ↦ inr (rest.0 later) ], λ h. elim h [ inl is ↦ inl (ap Tapped is) | inr later ↦ inr (rest.1 later) ])
tap_in (Fixed fix ∷ list) tap =
    let rest = tap_in list tap in
    (λ h. elim h [ inl is ↦ absurd (cc) | inr later ↦ rest.0 later ], λ h. inr (rest.1 h))

fix_in : (list : List Change) (fix : Fix) → IsIn list (Fixed fix) ↔ IsIn (fixes_of list) fix
fix_in [] fix = (λ h. h, λ h. h)
fix_in (Fixed other ∷ list) fix =
    let rest = fix_in list fix in
    (λ h. elim h [ inl is ↦ inl (same_fix_of other fix is) | inr later ↦ inr (rest.0 later) ], λ h. elim h [ inl is ↦ inl (ap Fixed is) | inr later ↦ inr (rest.1 later) ])
fix_in (Tapped tap ∷ list) fix =
    let rest = fix_in list fix in
    (λ h. elim h [ inl is ↦ absurd (cc) | inr later ↦ rest.0 later ], λ h. inr (rest.1 h))

-- ---- another list of the same ones

abbrev pub Forgets : {X : Type 0} → (ByNumber X → List X → Type 0) → (ByNumber X → List X → ByNumber X) → Type 0
Forgets {X} taken after = (set : ByNumber X) (list other : List X) → ((x : X) → IsIn list x ↔ IsIn other x) → taken set list → taken set other × (after set other ≡ after set list)

pub forgets : (editions : FareEditions) (accepted : Accepted) (list other : List Change)
    → Forgets taps_taken (set_after_all same_tap tap_number MOST_TAPS) → Forgets fixes_taken (set_after_all same_fix fix_number MOST_FIXES)
    → ((change : Change) → IsIn list change ↔ IsIn other change) → AreAccepted editions accepted list
    → AreAccepted editions accepted other × (after_all editions accepted other ≡ after_all editions accepted list)
forgets editions accepted list other of_taps of_fixes alike are =
    let first = took editions accepted list are in
    let taps = of_taps accepted.taps (taps_of list) (taps_of other) (λ tap. (λ h. (tap_in other tap).0 ((alike (Tapped tap)).0 ((tap_in list tap).1 h)), λ h. (tap_in list tap).0 ((alike (Tapped tap)).1 ((tap_in other tap).1 h)))) first.taps in
    let fixes = of_fixes accepted.fixes (fixes_of list) (fixes_of other) (λ fix. (λ h. (fix_in other fix).0 ((alike (Fixed fix)).0 ((fix_in list fix).1 h)), λ h. (fix_in list fix).0 ((alike (Fixed fix)).1 ((fix_in other fix).1 h)))) first.fixes in
    let second = gave editions accepted other (λ change h. first.known change ((alike change).1 h)) taps.0 fixes.0 in
    (second.0, second.1 ∙ (λ i. record { taps = taps.1 i; fixes = fixes.1 i }) ∙ sym first.ends)
