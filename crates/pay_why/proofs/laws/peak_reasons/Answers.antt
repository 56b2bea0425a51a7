use Rattle.pay_why.proofs.ByRail.{reasons_are_peak}
use Rattle.pay_why.proofs.laws.peak_reasons.Goals as goal

pub returns : goal.returns
returns c = reasons_are_peak
