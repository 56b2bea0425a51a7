use Rattle.std.proofs.Common.{◌∙◌, sym, subst}
use Rattle.pay_rules.specs.Numbers.{IsNumbered}
use Rattle.pay_numbered.proofs.KeptList.{count_of, set_numbered}
use Rattle.pay_numbered.proofs.numbered_blocks.NumberedBlocks.len.Goals as goal

pub returns-clause-value : goal.returns-clause-value
returns-clause-value g c = c.len.ensures ∙ sym (count_of g.T.Numbered.number g.row.MOST _ c.args.self.now c.self.invariant c.self.view_is)

pub returns-clause-numbered : goal.returns-clause-numbered
returns-clause-numbered g c = subst (IsNumbered g.T.Numbered.number g.row.MOST) c.self.view_is (set_numbered g.T.Numbered.number g.row.MOST _ c.self.invariant)
