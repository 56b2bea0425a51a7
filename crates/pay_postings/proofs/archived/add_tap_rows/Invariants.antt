use Rattle.std.proofs.Common.{◌≡◌, ◌++◌, map, take}
use Rattle.pay_set_rows.specs.SetRows.{tap_row}
use Rattle.pay_postings.proofs.archived.add_tap_rows.Given as goal

-- the rows of the taps so far are added
abbrev pub invariant-loop-tap : goal.invariant-loop-tap
invariant-loop-tap l = l.rows.items ≡ l.initial.rows.items ++ map tap_row (take l.tap-index l.taps)
