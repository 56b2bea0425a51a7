use Rattle.std.proofs.Common.{◌≡◌, subst, IfOk}
use Rattle.pay_rules.specs.Numbers.{IsNumbered}
use Rattle.pay_numbered.proofs.KeptList.{listed, set_numbered}
use Rattle.pay_numbered.proofs.numbered_blocks.NumberedBlocks.list.Goals as goal

pub returns-clause-all : goal.returns-clause-all
returns-clause-all g c =
    subst (λ all. IfOk c.list.result (λ items. items.items ≡ all)) (listed g.T.Numbered.number g.row.MOST _ c.args.self.now c.self.invariant c.self.view_is) c.list.ensures

pub returns-clause-numbered : goal.returns-clause-numbered
returns-clause-numbered g c = subst (IsNumbered g.T.Numbered.number g.row.MOST) c.self.view_is (set_numbered g.T.Numbered.number g.row.MOST _ c.self.invariant)
