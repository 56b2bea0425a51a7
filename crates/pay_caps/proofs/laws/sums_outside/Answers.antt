use Rattle.pay_caps.proofs.CellLaws.{cells_outside}
use Rattle.pay_caps.proofs.laws.sums_outside.Goals as goal

pub returns : goal.returns
returns c = cells_outside
