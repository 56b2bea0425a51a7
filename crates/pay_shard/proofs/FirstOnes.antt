-- The first tap or correction of an account is no repeat, and one that is no repeat is kept.
use Rattle.std.proofs.Common.{◌≡◌, ℕ, Bool, true, false, not, Option, Some, None, Result, Ok, Err, if◌then◌else◌, nat_le, ap, ◌∙◌, refl}
use Rattle.std.specs.FinMap as map
use Rattle.std.specs.FinMap.{get-empty, len-empty}
use Rattle.pay_tables.specs.Words.{FareEditions}
use Rattle.pay_rules.specs.Numbers.{number_cmp, judgement}
use Rattle.pay_rules.specs.declared.addition.Addition.TheVariants.{Added}
use Rattle.pay_rules.specs.declared.addition.AdditionFault.TheVariants.{Full}
use Rattle.pay_rules.specs.declared.limits.TheConstants.{MOST_TAPS, MOST_FIXES}
use Rattle.pay_rules.specs.declared.tap.Tap.{Tap}
use Rattle.pay_rules.specs.Taps.{same_tap, judged, number as tap_number}
use Rattle.pay_rules.specs.declared.fix.Fix.{Fix}
use Rattle.pay_rules.specs.Fixes.{same_fix, judged as judged_fix, number as fix_number}
use Rattle.pay_rules.specs.NamedDay.{day_named}
use Rattle.pay_rules.specs.declared.priced.Priced.{Priced}
use Rattle.pay_rules.specs.declared.fares.TapFault.{TapFault}
use Rattle.pay_rules.specs.declared.fares.TapFault.TheVariants as of_tap
use Rattle.pay_rules.specs.declared.fares.FixFault.{FixFault}
use Rattle.pay_rules.specs.declared.fares.FixFault.TheVariants as of_fix
use Rattle.pay_rules.specs.Accepted.{Accepted, nothing, with_tap, with_fix}
use Rattle.pay_rules.specs.Prices.{prices}
use Rattle.pay_rules.specs.TapPlaces.{is_known, is_known_fix}
use Rattle.pay_rules.specs.TapResults.{tap_added, tap_result, after_tap}
use Rattle.pay_rules.specs.FixResults.{prices_on, fix_added, fix_result, after_fix}
use Rattle.pay_shard.specs.State.{is_new}

-- what is no news changes nothing
pub same_tap_left : (r : Result Priced TapFault) (accepted : Accepted) (tap : Tap) → is_new r ≡ false → after_tap r accepted tap ≡ accepted
same_tap_left (Ok priced) accepted tap old = by_again priced.again old
  where
    by_again : (b : Bool) → not b ≡ false → (if b then accepted else with_tap accepted tap) ≡ accepted
    by_again true e = refl
    by_again false e = absurd (cc)
same_tap_left (Err fault) accepted tap old = refl

pub same_fix_left : (r : Result Priced FixFault) (accepted : Accepted) (fix : Fix) → is_new r ≡ false → after_fix r accepted fix ≡ accepted
same_fix_left (Ok priced) accepted fix old = by_again priced.again old
  where
    by_again : (b : Bool) → not b ≡ false → (if b then accepted else with_fix accepted fix) ≡ accepted
    by_again true e = refl
    by_again false e = absurd (cc)
same_fix_left (Err fault) accepted fix old = refl

first_tap : (tap : Tap) → judged map.empty tap ≡ Ok Added
first_tap tap =
    ap (λ o. judgement same_tap MOST_TAPS tap o (map.len (map.empty {X = Tap} {R = number_cmp}))) (get-empty number_cmp (tap_number tap))
    ∙ ap (λ n. if nat_le MOST_TAPS n then Err Full else Ok Added) (len-empty number_cmp Tap)

pub first_tap_is_new : (editions : FareEditions) (tap : Tap) (priced : Priced) → Ok priced ≡ tap_result editions nothing tap → is_new {E = TapFault} (Ok priced) ≡ true
first_tap_is_new editions tap priced e = by_place (is_known editions tap.place tap.kind) (e ∙ ap (λ j. if is_known editions tap.place tap.kind then tap_added editions nothing tap j else Err of_tap.UnknownPlace) (first_tap tap))
  where
    by_place : (b : Bool) → Ok priced ≡ (if b then tap_added editions nothing tap (Ok Added) else Err of_tap.UnknownPlace) → not priced.again ≡ true
    by_place true f = let same : priced ≡ prices editions (with_tap nothing tap) false tap.stamp.day = cc in ap (λ (p : Priced). not p.again) same
    by_place false f = absurd (cc)

first_fix : (fix : Fix) → judged_fix map.empty fix ≡ Ok Added
first_fix fix =
    ap (λ o. judgement same_fix MOST_FIXES fix o (map.len (map.empty {X = Fix} {R = number_cmp}))) (get-empty number_cmp (fix_number fix))
    ∙ ap (λ n. if nat_le MOST_FIXES n then Err Full else Ok Added) (len-empty number_cmp Fix)

not_again : (editions : FareEditions) (accepted : Accepted) (named : Option ℕ) → not (prices_on editions accepted false named).again ≡ true
not_again editions accepted None = refl
not_again editions accepted (Some day) = refl

pub first_fix_is_new : (editions : FareEditions) (fix : Fix) (priced : Priced) → Ok priced ≡ fix_result editions nothing fix → is_new {E = FixFault} (Ok priced) ≡ true
first_fix_is_new editions fix priced e = by_place (is_known_fix editions fix.what) (e ∙ ap (λ j. if is_known_fix editions fix.what then fix_added editions nothing fix j else Err of_fix.UnknownPlace) (first_fix fix))
  where
    named : Option ℕ
    named = day_named (with_fix nothing fix).taps (with_fix nothing fix).fixes fix.what

    by_place : (b : Bool) → Ok priced ≡ (if b then fix_added editions nothing fix (Ok Added) else Err of_fix.UnknownPlace) → not priced.again ≡ true
    by_place true f = let same : priced ≡ prices_on editions (with_fix nothing fix) false named = cc in ap (λ (p : Priced). not p.again) same ∙ not_again editions (with_fix nothing fix) named
    by_place false f = absurd (cc)
