use Rattle.pay_metrics.proofs.Whole.{whole}
use Rattle.pay_metrics.proofs.laws.lines_are_whole.Goals as goal

pub returns : goal.returns
returns c = whole
