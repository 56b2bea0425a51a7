use Rattle.std.proofs.Common.{◌∙◌, ap, length}
use Rattle.pay_rules.specs.NumberOrder.{length_values}
use Rattle.pay_numbered.proofs.numbered_set.NumberedSet.len.Goals as goal

pub returns-clause-value : goal.returns-clause-value
returns-clause-value g c = ap length c.as_slice.ensures.all ∙ length_values c.args.self.now
