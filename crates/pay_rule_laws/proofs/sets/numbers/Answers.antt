use Rattle.pay_rules.specs.NumberOrder.{others}
use Rattle.pay_rule_laws.proofs.sets.numbers.Goals as goal

pub returns : goal.returns
returns g c = λ most set n is none. others g.T.Numbered.number set n is.own_numbers none
