use Rattle.std.proofs.Common.{◌≡◌, sym, subst, IfSome}
use Rattle.pay_rules.specs.Numbers.{IsNumbered}
use Rattle.pay_rules.specs.NumberOrder.{own_number}
use Rattle.pay_numbered.proofs.KeptList.{set_numbered}
use Rattle.pay_numbered.proofs.SoughtNumber.{has, has_none}
use Rattle.pay_numbered.proofs.numbered_blocks.NumberedBlocks.get.Goals as goal

pub returns-in-Ok-clause-value : goal.returns-in-Ok-clause-value
returns-in-Ok-clause-value g c =
    sym (has g.T.Numbered.number g.row.MOST c.self.inside.items c.args.self.now (c.args.first, c.args.second) c.in-Ok.there c.self.invariant c.self.view_is c.in-Ok.ensures)

pub returns-in-Err-clause-value : goal.returns-in-Err-clause-value
returns-in-Err-clause-value g c =
    sym (has_none g.T.Numbered.number g.row.MOST c.self.inside.items c.args.self.now (c.args.first, c.args.second) c.in-Err.field-0 c.self.invariant c.self.view_is c.in-Err.ensures)

pub returns-in-Ok-clause-own_number : goal.returns-in-Ok-clause-own_number
returns-in-Ok-clause-own_number g c =
    let number = g.T.Numbered.number in
    subst (λ o. IfSome o (λ item. number item ≡ (c.args.first, c.args.second))) (sym (returns-in-Ok-clause-value g c)) (own_number number c.args.self.now _ (subst (IsNumbered number g.row.MOST) c.self.view_is (set_numbered number g.row.MOST _ c.self.invariant)).own_numbers)
