use Rattle.pay_caps.proofs.Lowest.{charged_at_most_all, charged_at_most_band, charged_same, charged_grows}
use Rattle.pay_caps.proofs.laws.charges.Goals as goal

pub returns-clause-by_all : goal.returns-clause-by_all
returns-clause-by_all c = charged_at_most_all

pub returns-clause-by_band : goal.returns-clause-by_band
returns-clause-by_band c = charged_at_most_band

pub returns-clause-same : goal.returns-clause-same
returns-clause-same c = charged_same

pub returns-clause-grows : goal.returns-clause-grows
returns-clause-grows c = charged_grows
