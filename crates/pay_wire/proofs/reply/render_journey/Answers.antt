use Rattle.std.proofs.Common.{◌∙◌, codes, ◌++◌}
use Rattle.std.specs.Prelude.{decimal}
use Rattle.pay_rules.specs.KindWords.{word_of_kind}
use Rattle.pay_wire.proofs.Fields.{four_fields, field_is, number_is, two_are}
use Rattle.pay_wire.proofs.reply.render_journey.Goals as goal

pub returns : goal.returns
returns c =
    let j = c.args.journey.now in
    let begun = c.put.ensures.items ∙ two_are c.begin.ensures c.word.ensures.word in
    four_fields (codes "JNY " ++ word_of_kind j.kind) (decimal j.from) (decimal j.to) (decimal j.utc) (decimal j.fare) _ _ _ _ _
    (c.put_field.ensures.items ∙ field_is j.from begun) c.put_field-2.ensures.items
    c.put_field-3.ensures.items (c.put_field-4.ensures.items ∙ number_is c.put_field-3.new.line.items c.pence.ensures) c.put-2.ensures.items
