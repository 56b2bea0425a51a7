use Rattle.pay_shares.proofs.Fares.{nothing_lost}
use Rattle.pay_shares.proofs.laws.nothing_is_lost.Goals as goal

pub returns : goal.returns
returns c = nothing_lost c.nothing_is_lost.ensures.parts c.args.tables.now c.operators_within.ensures
