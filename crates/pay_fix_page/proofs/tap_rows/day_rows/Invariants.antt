use Rattle.std.proofs.Common.{◌≡◌, ◌++◌, drop}
use Rattle.std.specs.String.{string_bytes}
use Rattle.std.specs.List.{flat_map}
use Rattle.pay_fix_page.specs.TapRows.{day_row}
use Rattle.pay_fix_page.proofs.tap_rows.day_rows.Given as goal

abbrev pub invariant-loop-tap : goal.invariant-loop-tap
invariant-loop-tap l =
    string_bytes l.text ++ flat_map (day_row l.names l.account l.day) (drop l.tap-index l.accepted) ≡ flat_map (day_row l.names l.account l.day) l.accepted
