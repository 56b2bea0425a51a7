use Rattle.pay_set_rows.proofs.SetsBack.{fix_back}
use Rattle.pay_set_rows.proofs.laws.fixes_back.Goals as goal

pub returns : goal.returns
returns c fix is = fix_back fix is
