use Rattle.std.proofs.Common.{sym, ◌∙◌}
use Rattle.pay_audit.proofs.SameRows.{same_tap_row, told_tap_row}
use Rattle.pay_audit.proofs.comparing.is_of_tap.Goals as goal

pub returns : goal.returns
returns c = (
  λ same. sym c.tap_row.ensures ∙ same_tap_row c.tap_row.result c.args.row.now (sym c.eq.ensures ∙ same),
  λ is. c.eq.ensures ∙ told_tap_row c.tap_row.result c.args.row.now (c.tap_row.ensures ∙ is),
)
