use Rattle.std.proofs.Common.{sym, ◌∙◌}
use Rattle.pay_audit.proofs.SameRows.{same_fix_row, told_fix_row}
use Rattle.pay_audit.proofs.comparing.is_of_fix.Goals as goal

pub returns : goal.returns
returns c = (
  λ same. sym c.fix_row.ensures ∙ same_fix_row c.fix_row.result c.args.row.now (sym c.eq.ensures ∙ same),
  λ is. c.eq.ensures ∙ told_fix_row c.fix_row.result c.args.row.now (c.fix_row.ensures ∙ is),
)
