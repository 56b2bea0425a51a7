use Rattle.pay_set_rows.proofs.SetsBack.{tap_of_row, fix_of_row}
use Rattle.pay_set_rows.proofs.laws.same_row.Goals as goal

pub returns-clause-taps : goal.returns-clause-taps
returns-clause-taps c tap other account e = tap_of_row tap other account e

pub returns-clause-fixes : goal.returns-clause-fixes
returns-clause-fixes c fix other account e = fix_of_row fix other account e
