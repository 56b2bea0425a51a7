use Rattle.std.proofs.Common.{refl, sym}
use Rattle.pay_numbered.proofs.KeptList.{taken_out}
use Rattle.pay_rules.specs.NumberOrder.{same_without}
use Rattle.pay_numbered.proofs.SoughtNumber.{has_none}
use Rattle.pay_numbered.proofs.numbered_blocks.NumberedBlocks.remove.Goals as goal

pub invariant_of-self : goal.invariant_of-self
invariant_of-self g c =
    (taken_out g.T.Numbered.number g.row.MOST c.self.inside.items c.self.inside.items c.remove.new.self c.args.self.now c.args.number c.in-Ok.there.0 c.in-Ok.there.1 c.self.invariant c.self.view_is refl c.in-Ok.ensures.1 c.in-Ok.ensures.0 c.remove.ensures).1

pub returns-in-Ok : goal.returns-in-Ok
returns-in-Ok g c =
    (taken_out g.T.Numbered.number g.row.MOST c.self.inside.items c.self.inside.items c.remove.new.self c.args.self.now c.args.number c.in-Ok.there.0 c.in-Ok.there.1 c.self.invariant c.self.view_is refl c.in-Ok.ensures.1 c.in-Ok.ensures.0 c.remove.ensures).0

pub returns-in_default : goal.returns-in_default
returns-in_default g c = sym (same_without c.args.self.now c.args.number (has_none g.T.Numbered.number g.row.MOST c.self.inside.items c.args.self.now c.args.number c.in_default.field-0 c.self.invariant c.self.view_is c.in_default.ensures))
