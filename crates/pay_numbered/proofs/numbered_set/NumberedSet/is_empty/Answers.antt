use Rattle.pay_rules.specs.NumberOrder.{is_nothing}
use Rattle.pay_numbered.proofs.numbered_set.NumberedSet.is_empty.Goals as goal

pub returns : goal.returns
returns g c = is_nothing c.args.self.now c.len.result c.len.ensures.value
