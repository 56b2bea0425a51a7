use Rattle.std.proofs.Common.{◌≡◌, ◌++◌, drop}
use Rattle.std.specs.String.{string_bytes}
use Rattle.std.specs.List.{flat_map}
use Rattle.pay_explain.specs.Corrections.{correction_line}
use Rattle.pay_page.specs.Corrections.{item_of}
use Rattle.pay_page.proofs.corrections.correction_items.Given as goal

abbrev pub invariant-loop-fix : goal.invariant-loop-fix
invariant-loop-fix l =
    string_bytes l.text ++ flat_map (λ fix. item_of (correction_line l.names l.taps l.fixes l.day fix)) (drop l.fix-index l.accepted) ≡ flat_map (λ fix. item_of (correction_line l.names l.taps l.fixes l.day fix)) l.accepted
