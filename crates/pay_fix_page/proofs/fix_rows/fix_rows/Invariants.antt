use Rattle.std.proofs.Common.{◌≡◌, ◌++◌, drop}
use Rattle.std.specs.String.{string_bytes}
use Rattle.std.specs.List.{flat_map}
use Rattle.pay_fix_page.specs.FixRows.{row_of}
use Rattle.pay_fix_page.proofs.fix_rows.fix_rows.Given as goal

abbrev pub invariant-loop-fix : goal.invariant-loop-fix
invariant-loop-fix l =
    string_bytes l.text ++ flat_map (row_of l.names l.taps l.fixes l.account l.day) (drop l.fix-index l.accepted)
    ≡ flat_map (row_of l.names l.taps l.fixes l.account l.day) l.accepted
