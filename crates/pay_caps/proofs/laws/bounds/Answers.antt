use Rattle.std.proofs.Common.{arith}
use Rattle.pay_caps.proofs.Prices.{at_most_fares, at_most_band, capped_grows, maximum_grows, price_grows}
use Rattle.pay_caps.proofs.laws.bounds.Goals as goal

pub returns-clause-by_fares : goal.returns-clause-by_fares
returns-clause-by_fares c = at_most_fares

pub returns-clause-by_band : goal.returns-clause-by_band
returns-clause-by_band c tables list before band after e = omega (arith, at_most_band tables list before band after e)

pub returns-clause-grows : goal.returns-clause-grows
returns-clause-grows c = price_grows

pub returns-clause-capped_grows : goal.returns-clause-capped_grows
returns-clause-capped_grows c = capped_grows

pub returns-clause-maximum_grows : goal.returns-clause-maximum_grows
returns-clause-maximum_grows c = maximum_grows
