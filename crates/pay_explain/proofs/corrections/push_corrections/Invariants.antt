use Rattle.std.proofs.Common.{◌≡◌, ◌++◌, drop}
use Rattle.std.specs.List.{flat_map}
use Rattle.std.specs.String.{string_bytes}
use Rattle.pay_explain.specs.Corrections.{correction_line}
use Rattle.pay_explain.proofs.corrections.push_corrections.Given as goal

abbrev pub invariant-loop-fix : goal.invariant-loop-fix
invariant-loop-fix l =
    string_bytes l.text ++ flat_map (correction_line l.names l.taps l.fixes l.day) (drop l.fix-index l.accepted) ≡ string_bytes l.fn.text ++ flat_map (correction_line l.names l.taps l.fixes l.day) l.accepted
