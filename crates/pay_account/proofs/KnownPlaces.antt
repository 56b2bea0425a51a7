-- Results of a tap and of a correction at a place that is known, by how its set judges it.
use Rattle.std.proofs.Common.{◌≡◌, true, if◌then◌else◌, Result, Err, ap, ◌∙◌}
use Rattle.pay_tables.specs.Words.{FareEditions}
use Rattle.pay_rules.specs.declared.addition.Addition.{Addition}
use Rattle.pay_rules.specs.declared.addition.AdditionFault.{AdditionFault}
use Rattle.pay_rules.specs.declared.tap.Tap.{Tap}
use Rattle.pay_rules.specs.Taps.{judged}
use Rattle.pay_rules.specs.declared.fix.Fix.{Fix}
use Rattle.pay_rules.specs.Fixes.{judged as judged_fix}
use Rattle.pay_rules.specs.declared.fares.TapFault.TheVariants as of_tap
use Rattle.pay_rules.specs.declared.fares.FixFault.TheVariants as of_fix
use Rattle.pay_rules.specs.Accepted.{Accepted}
use Rattle.pay_rules.specs.TapPlaces.{is_known, is_known_fix}
use Rattle.pay_rules.specs.TapResults.{tap_added, tap_result}
use Rattle.pay_rules.specs.FixResults.{fix_added, fix_result}

-- the result of a tap at a known place is as the set of taps judges it
pub known : (editions : FareEditions) (accepted : Accepted) (tap : Tap) (r : Result Addition AdditionFault) → is_known editions tap.place tap.kind ≡ true → judged accepted.taps tap ≡ r
    → tap_result editions accepted tap ≡ tap_added editions accepted tap r
known editions accepted tap r is e =
    ap (λ b. if b then tap_added editions accepted tap (judged accepted.taps tap) else Err of_tap.UnknownPlace) is ∙ ap (tap_added editions accepted tap) e

pub known_fix : (editions : FareEditions) (accepted : Accepted) (fix : Fix) (r : Result Addition AdditionFault) → is_known_fix editions fix.what ≡ true → judged_fix accepted.fixes fix ≡ r
    → fix_result editions accepted fix ≡ fix_added editions accepted fix r
known_fix editions accepted fix r is e =
    ap (λ b. if b then fix_added editions accepted fix (judged_fix accepted.fixes fix) else Err of_fix.UnknownPlace) is ∙ ap (fix_added editions accepted fix) e
