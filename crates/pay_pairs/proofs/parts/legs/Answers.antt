use Rattle.std.proofs.Common.{arith}
use Rattle.std.proofs.lemmas.Grind.{common_steps}
use Rattle.pay_pairs.proofs.Parting.{are_parts}
use Rattle.pay_pairs.proofs.parts.legs.Goals as goal

pub returns-clause-described : goal.returns-clause-described
returns-clause-described c = are_parts _ _ _ (grind (arith, common_steps))
