use Rattle.std.proofs.Common.{◌∙◌, ap, subst, length, arith}
use Rattle.pay_rules.specs.Numbers.{IsNumbered}
use Rattle.pay_rules.specs.NumberOrder.{length_values}
use Rattle.pay_numbered.proofs.KeptList.{listed, set_numbered}
use Rattle.pay_numbered.proofs.numbered_set.NumberedSet.as_slice.Goals as goal

pub returns-clause-all : goal.returns-clause-all
returns-clause-all g c = c.as_slice.ensures ∙ listed g.T.Numbered.number g.row.MOST _ c.args.self.now c.self.invariant c.self.view_is

pub returns-clause-numbered : goal.returns-clause-numbered
returns-clause-numbered g c = subst (IsNumbered g.T.Numbered.number g.row.MOST) c.self.view_is (set_numbered g.T.Numbered.number g.row.MOST _ c.self.invariant)

pub returns-clause-few : goal.returns-clause-few
returns-clause-few g c = omega (arith, ap length (returns-clause-all g c), length_values c.args.self.now, (returns-clause-numbered g c).within)
