use Rattle.std.proofs.Common.{arith, length, lit<}
use Rattle.std.specs.String.{string_bytes}
use Rattle.std.proofs.lemmas.Iterator.Consumers.{YieldsList-at, YieldsList-end, YieldsList-turn}
use Rattle.std.proofs.lemmas.Iterator.Splits.{YieldsList-from_str_split}
use Rattle.std.proofs.lemmas.List.{length_push}
use Rattle.pay_metrics.specs.Families.{family_of}
use Rattle.pay_metrics.specs.Fields.{fields_in}
use Rattle.pay_metrics.specs.Metrics.{sample}
use Rattle.pay_metrics.proofs.Turns.{last, turn}
use Rattle.pay_metrics.proofs.metrics.samples.Goals as goal

pub loop-field-preserved : goal.loop-field-preserved
loop-field-preserved c =
    let road = YieldsList-at c.into_iter-field-iterator.ensures.into_iter_gives (YieldsList-from_str_split 32 c.args.fields.now (lit< tt) c.split-field-items.ensures.text c.split-field-items.ensures.has_more c.split-field-items.ensures.pattern) in
    let here = YieldsList-turn road c.loop-field.yielded _ c.loop-field.yielded_by _ _ c.in-Some.field c.in-Some.is c.next.ensures.steps in
    turn (sample (family_of c.args.family.now)) (fields_in c.args.fields.now) (length c.loop-field.yielded) _ c.in-Some.field.now (string_bytes c.loop-field.text) (string_bytes c.push_sample.new.text) here
    (omega (arith, length_push c.loop-field.yielded c.in-Some.field)) c.in_ok-push_sample.ensures c.loop-field.invariant

pub returns : goal.returns
returns c =
    let road = YieldsList-at c.into_iter-field-iterator.ensures.into_iter_gives (YieldsList-from_str_split 32 c.args.fields.now (lit< tt) c.split-field-items.ensures.text c.split-field-items.ensures.has_more c.split-field-items.ensures.pattern) in
    let ended = YieldsList-end road c.loop-field.yielded _ c.loop-field.yielded_by _ _ c.in-None.is c.next.ensures.steps in
    last (sample (family_of c.args.family.now)) (fields_in c.args.fields.now) (length c.loop-field.yielded) (string_bytes c.loop-field.text) ended.1 c.loop-field.invariant
