-- A tap or a correction that is accepted, as a change of the effective taps.
use Rattle.std.proofs.Common.{◌≡◌, ◌≤◌, ◌+◌, ◌*◌, ◌∷◌, ℕ, true, false, Ok, None, List, [], length, filter, refl, sym, ap, ◌∙◌, subst, arith}
use Rattle.std.specs.FinMap.{get, insert, values, entries, len, len-entries, len-empty, empty}
use Rattle.std.proofs.lemmas.List.{length-map}
use Rattle.std.proofs.lemmas.List.Filters.{length-filter_both}
use Rattle.pay_rules.specs.declared.addition.Addition.{Addition}
use Rattle.pay_rules.specs.declared.addition.Addition.TheVariants.{Added, Repeat}
use Rattle.pay_rules.specs.Numbers.{IsNumbered, ByNumber, number_cmp}
use Rattle.pay_rules.specs.declared.limits.TheConstants.{MOST_TAPS, MOST_FIXES}
use Rattle.pay_rules.specs.declared.tap.Tap.{Tap}
use Rattle.pay_rules.specs.declared.tap.Touch.{Touch}
use Rattle.pay_rules.specs.Taps.{Taps, number as tap_number, judged}
use Rattle.pay_fix.specs.declared.change.Change.{Change}
use Rattle.pay_rules.specs.declared.fix.Fix.{Fix}
use Rattle.pay_rules.specs.Effective.{effective_of}
use Rattle.pay_rules.specs.Fixes.{Fixes, number as fix_number, judged as judged_fix}
use Rattle.pay_fix.specs.Words.{EffectiveHaveOwnNumbers, EffectiveAreInOrder, EffectiveAreFew, TapChanges, FixChanges, change_by_tap, change_by_fix}
use Rattle.pay_tables.specs.Words.{FareEditions}
use Rattle.pay_account.specs.declared.Priced.{Priced}
use Rattle.pay_rules.specs.Journeys.{is_bus, is_rail}
use Rattle.pay_rules.specs.Accepted.{Accepted, nothing, touches, with_tap, with_fix}
use Rattle.pay_rules.specs.Prices.{prices}
use Rattle.pay_rules.specs.FixResults.{prices_named, fix_added, fix_result}
use Rattle.pay_rules.specs.TapResults.{tap_added, tap_result}
use Rattle.pay_book.specs.declared.marked_taps.MarkedTaps.{MarkedTaps}
use Rattle.pay_book.specs.Disturbed.{disturbed}
use Rattle.pay_book.specs.MarkedTaps.{IsMarkedBy, IsPossibleFor, taps_after, disturbed_by_change, ChangesEachKind, ChangesArePossible}
use Rattle.pay_book.specs.Stored.{IsConsistent, IsChange, AreStoredTaps, TapIsChange, FixIsChange, ChangeIsPossible, ChangeIsMade, ChangeDisturbs}

-- ---- each kind

both_kinds : (list : List Touch) → length (filter is_bus list) + length (filter is_rail list) ≡ length list
both_kinds list = length-filter_both is_bus is_rail (λ touch. refl) list

pub made : ChangesEachKind → ChangeIsMade
made each change before after held is taps = (
  ap (taps_after is_rail change) taps.rail ∙ sym (each is_rail change before after is.timed is.timed_then is.changed),
  ap (taps_after is_bus change) taps.buses ∙ sym (each is_bus change before after is.timed is.timed_then is.changed),
)

pub can_be : ChangesEachKind → ChangesArePossible → ChangeIsPossible
can_be each possible change before after held is taps =
    let then = made each change before after held is taps in
    record {
      rail = subst (IsPossibleFor is_rail change) (sym taps.rail) (possible is_rail change before after is.timed is.timed_then is.changed);
      buses = subst (IsPossibleFor is_bus change) (sym taps.buses) (possible is_bus change before after is.timed is.timed_then is.changed);
      few = omega (arith, ap length taps.rail, ap length taps.buses, both_kinds before, is.few);
      few_then = omega (arith, ap length then.0, ap length then.1, both_kinds after, is.few_then);
    }

-- ---- one more

module _ (own : EffectiveHaveOwnNumbers) (in_order : EffectiveAreInOrder) (few : EffectiveAreFew) where
  pub tap_is_change : TapChanges → ((set : Taps) (tap : Tap) → judged set tap ≡ Ok Added → get set (tap_number tap) ≡ None)
      → ((set : Taps) (tap : Tap) → IsNumbered tap_number MOST_TAPS set → judged set tap ≡ Ok Added → IsNumbered tap_number MOST_TAPS (insert set (tap_number tap) tap)) → TapIsChange
  tap_is_change changes none numbered accepted tap are is =
      let more = numbered accepted.taps tap are.taps is in
      let taps : Taps = insert accepted.taps (tap_number tap) tap in
      record {
        timed = record { in_order = in_order accepted.taps accepted.fixes; own_numbers = own accepted.taps accepted.fixes are.taps are.fixes };
        timed_then = record { in_order = in_order taps accepted.fixes; own_numbers = own taps accepted.fixes more are.fixes };
        few = few accepted.taps accepted.fixes are.taps are.fixes;
        few_then = few taps accepted.fixes more are.fixes;
        changed = changes accepted.taps accepted.fixes tap are.taps are.fixes (none accepted.taps tap is);
      }

  pub fix_is_change : FixChanges → ((set : Fixes) (fix : Fix) → judged_fix set fix ≡ Ok Added → get set (fix_number fix) ≡ None)
      → ((set : Fixes) (fix : Fix) → IsNumbered fix_number MOST_FIXES set → judged_fix set fix ≡ Ok Added → IsNumbered fix_number MOST_FIXES (insert set (fix_number fix) fix)) → FixIsChange
  fix_is_change changes none numbered accepted fix are is =
      let more = numbered accepted.fixes fix are.fixes is in
      let fixes : Fixes = insert accepted.fixes (fix_number fix) fix in
      record {
        timed = record { in_order = in_order accepted.taps accepted.fixes; own_numbers = own accepted.taps accepted.fixes are.taps are.fixes };
        timed_then = record { in_order = in_order accepted.taps fixes; own_numbers = own accepted.taps fixes are.taps more };
        few = few accepted.taps accepted.fixes are.taps are.fixes;
        few_then = few accepted.taps fixes are.taps more;
        changed = changes accepted.taps accepted.fixes fix are.taps are.fixes (none accepted.fixes fix is);
      }

-- ---- nothing

none_at_all : {X : Type 0} (list : List X) → length list ≡ 0 → list ≡ []
none_at_all [] none = refl
none_at_all (x ∷ list) none = absurd (omega (arith, none))

no_values : {X : Type 0} (set : ByNumber X) → set ≡ empty → values set ≡ []
no_values {X} set is =
    none_at_all (values set) (length-map (entries set) (λ entry. entry.1) ∙ sym (len-entries set) ∙ ap (λ (those : ByNumber X). len those) is ∙ len-empty number_cmp X)

-- of nothing that was accepted nothing is effective
no_touches : (accepted : Accepted) → accepted ≡ nothing → touches accepted ≡ []
no_touches accepted is =
    ap (λ (taps : List Tap). effective_of taps (values accepted.fixes)) (no_values accepted.taps (ap (λ (those : Accepted). those.taps) is))
    ∙ ap (effective_of []) (no_values accepted.fixes (ap (λ (those : Accepted). those.fixes) is))

-- a book of nothing
pub nothing_stored : (editions : FareEditions) (account : ℕ × Accepted) (held : MarkedTaps) (steps : ℕ) → account.1 ≡ nothing → IsMarkedBy editions [] held
    → IsConsistent editions (record {
      account = account.0;
      accepted = account.1;
      rail = held.rail.touches;
      starts = held.starts.items;
      buses = held.buses.touches;
      pays = held.pays.items;
      days = held.days;
      steps = steps;
    })
nothing_stored editions account held steps is of = record {
  rail = of.rail ∙ ap (filter is_rail) (sym (no_touches account.1 is));
  starts = of.right.starts;
  buses = of.buses ∙ ap (filter is_bus) (sym (no_touches account.1 is));
  pays = of.right.pays;
  sums = of.right.sums;
}

-- ---- what is known of the sets as it is read

pub change_of_tap : TapIsChange → (accepted : Accepted) (tap : Tap) (taps : Taps) (fixes others : Fixes) (change : Change) → taps ≡ accepted.taps → fixes ≡ accepted.fixes → others ≡ accepted.fixes
    → IsNumbered tap_number MOST_TAPS taps → IsNumbered fix_number MOST_FIXES fixes → judged accepted.taps tap ≡ Ok Added → change ≡ change_by_tap others tap
    → IsChange change (touches accepted) (touches (with_tap accepted tap))
change_of_tap law accepted tap taps fixes others change t f o of_taps of_fixes is by =
    subst (λ (it : Change). IsChange it (touches accepted) (touches (with_tap accepted tap))) (sym (by ∙ ap (λ (set : Fixes). change_by_tap set tap) o))
    (law accepted tap (record { taps = subst (IsNumbered tap_number MOST_TAPS) t of_taps; fixes = subst (IsNumbered fix_number MOST_FIXES) f of_fixes }) is)

pub change_of_fix : FixIsChange → (accepted : Accepted) (fix : Fix) (taps other_taps : Taps) (fixes others : Fixes) (change : Change) → taps ≡ accepted.taps → other_taps ≡ accepted.taps
    → fixes ≡ accepted.fixes → others ≡ accepted.fixes → IsNumbered tap_number MOST_TAPS taps → IsNumbered fix_number MOST_FIXES fixes → judged_fix accepted.fixes fix ≡ Ok Added
    → change ≡ change_by_fix other_taps others fix → IsChange change (touches accepted) (touches (with_fix accepted fix))
change_of_fix law accepted fix taps other_taps fixes others change t u f o of_taps of_fixes is by =
    subst (λ (it : Change). IsChange it (touches accepted) (touches (with_fix accepted fix)))
    (sym (by ∙ ap (λ (set : Taps). change_by_fix set others fix) u ∙ ap (λ (set : Fixes). change_by_fix accepted.taps set fix) o))
    (law accepted fix (record { taps = subst (IsNumbered tap_number MOST_TAPS) t of_taps; fixes = subst (IsNumbered fix_number MOST_FIXES) f of_fixes }) is)

-- ---- results

pub tap_again : (editions : FareEditions) (accepted : Accepted) (tap : Tap) (addition : Addition) (priced : Priced) (day : ℕ) → tap_result editions accepted tap ≡ tap_added editions accepted tap (Ok addition) → addition ≡ Repeat
    → priced ≡ prices editions accepted true day → day ≡ tap.stamp.day → Ok priced ≡ tap_result editions accepted tap
tap_again editions accepted tap addition priced day result is its on =
    ap Ok (its ∙ ap (prices editions accepted true) on) ∙ sym (result ∙ ap (λ (it : Addition). tap_added editions accepted tap (Ok it)) is)

pub tap_more : (editions : FareEditions) (accepted more : Accepted) (tap : Tap) (addition : Addition) (priced : Priced) (day : ℕ) → tap_result editions accepted tap ≡ tap_added editions accepted tap (Ok addition) → addition ≡ Added
    → more ≡ with_tap accepted tap → priced ≡ prices editions more false day → day ≡ tap.stamp.day → Ok priced ≡ tap_result editions accepted tap
tap_more editions accepted more tap addition priced day result is grown its on =
    ap Ok (its ∙ ap (λ (those : Accepted). prices editions those false day) grown ∙ ap (prices editions (with_tap accepted tap) false) on)
    ∙ sym (result ∙ ap (λ (it : Addition). tap_added editions accepted tap (Ok it)) is)

pub fix_again : (editions : FareEditions) (accepted : Accepted) (fix : Fix) (addition : Addition) (priced : Priced) → fix_result editions accepted fix ≡ fix_added editions accepted fix (Ok addition) → addition ≡ Repeat
    → priced ≡ prices_named editions accepted true fix.what → Ok priced ≡ fix_result editions accepted fix
fix_again editions accepted fix addition priced result is its = ap Ok its ∙ sym (result ∙ ap (λ (it : Addition). fix_added editions accepted fix (Ok it)) is)

-- ---- what was read

pub read_for : ChangeDisturbs → (editions : FareEditions) (change : Change) (held : MarkedTaps) (old after more : Accepted) (steps first before last : ℕ) → IsChange change (touches old) (touches more) → AreStoredTaps held (touches old)
    → after ≡ more → first ≡ steps → before ≤ first + 8 + 2 * disturbed_by_change editions held change → last ≤ before + 16
    → last ≤ steps + 24 + 2 * disturbed editions (touches old) (touches after)
read_for law editions change held old after more steps first before last is are grown begun found made =
    let its = law editions change (touches old) (touches more) held is are in
    let same : disturbed editions (touches old) (touches after) ≡ disturbed editions (touches old) (touches more) = ap (λ (those : Accepted). disturbed editions (touches old) (touches those)) grown in
    omega (arith, its, same, begun, found, made)
