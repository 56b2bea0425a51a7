use Rattle.pay_set_rows.proofs.SetsBack.{tap_back}
use Rattle.pay_set_rows.proofs.laws.taps_back.Goals as goal

pub returns : goal.returns
returns c tap is = tap_back tap is
