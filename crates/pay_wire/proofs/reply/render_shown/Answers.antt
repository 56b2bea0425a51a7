use Rattle.std.proofs.Common.{length, ap, ◌∙◌, codes}
use Rattle.std.specs.Prelude.{decimal}
use Rattle.pay_wire.proofs.Fields.{four_fields, field_is, number_is}
use Rattle.pay_wire.proofs.reply.render_shown.Goals as goal

pub returns : goal.returns
returns c =
    let s = c.args.shown.now in
    four_fields (codes "SHOW") (decimal s.account) (decimal s.day) (decimal (length s.lines)) (decimal s.day_price) _ _ _ _ _
    (c.put_field.ensures.items ∙ field_is s.account c.begin.ensures) c.put_field-2.ensures.items
    (c.put_field-3.ensures.items ∙ number_is c.put_field-2.new.line.items (ap length c.as_slice.ensures)) (c.put_field-4.ensures.items ∙ number_is c.put_field-3.new.line.items c.pence.ensures) c.put.ensures.items
