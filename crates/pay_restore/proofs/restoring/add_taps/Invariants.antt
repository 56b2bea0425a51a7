use Rattle.std.proofs.Common.{◌≡◌, drop}
use Rattle.pay_restore.specs.Filed.{held, AreFiled}
use Rattle.pay_restore.specs.Restored.{with_tap_rows}
use Rattle.pay_restore.proofs.restoring.add_taps.Given as goal

-- what is left, after the taps so far, comes to all
abbrev pub invariant-loop-row : goal.invariant-loop-row
invariant-loop-row g l = record {
  told : with_tap_rows l.editions (held g.F.Fares.accepted l.accounts.entries) (drop l.row-index l.rows) ≡ with_tap_rows l.editions (held g.F.Fares.accepted l.fn.accounts.entries) l.rows;
  kept : AreFiled g.F.Fares.account (g.F.Fares.IsPricedBy l.editions) l.accounts.entries;
}
