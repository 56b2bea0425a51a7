use Rattle.std.proofs.Common.{◌≡◌, [], drop}
use Rattle.std.specs.String.{string_bytes}
use Rattle.pay_json.specs.Values.{all_joined}
use Rattle.pay_json.specs.Corrections.{correction_about}
use Rattle.pay_json.proofs.corrections.corrections_joined.Given as goal

abbrev pub invariant-loop-fix : goal.invariant-loop-fix
invariant-loop-fix l =
    all_joined (correction_about l.names l.taps l.fixes l.day) (string_bytes l.text) (drop l.fix-index l.accepted) ≡ all_joined (correction_about l.names l.taps l.fixes l.day) [] l.accepted
