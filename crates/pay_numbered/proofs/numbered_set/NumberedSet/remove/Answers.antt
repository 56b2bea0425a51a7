use Rattle.std.proofs.Common.{sym}
use Rattle.pay_numbered.proofs.KeptList.{not_found, taken_out}
use Rattle.pay_rules.specs.NumberOrder.{same_without}
use Rattle.pay_numbered.proofs.numbered_set.NumberedSet.remove.Goals as goal

pub invariant_of-self : goal.invariant_of-self
invariant_of-self g c =
    (taken_out g.T.Numbered.number g.row.MOST c.self.inside.items.items c.as_slice.result.now c.remove.new.self.items c.args.self.now c.args.number c.in-Ok.at c.remove.result c.self.invariant c.self.view_is c.as_slice.ensures c.in-Ok.ensures.in_range c.in-Ok.ensures.position c.remove.ensures.items).1

pub returns-in-Ok : goal.returns-in-Ok
returns-in-Ok g c =
    (taken_out g.T.Numbered.number g.row.MOST c.self.inside.items.items c.as_slice.result.now c.remove.new.self.items c.args.self.now c.args.number c.in-Ok.at c.remove.result c.self.invariant c.self.view_is c.as_slice.ensures c.in-Ok.ensures.in_range c.in-Ok.ensures.position c.remove.ensures.items).0

pub returns-in_default : goal.returns-in_default
returns-in_default g c = sym (same_without c.args.self.now c.args.number (not_found g.T.Numbered.number g.row.MOST c.self.inside.items.items c.as_slice.result.now c.args.self.now c.args.number c.in_default.field-0 c.self.invariant c.self.view_is c.as_slice.ensures c.in_default.ensures.position))
