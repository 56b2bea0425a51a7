use Rattle.std.proofs.Common.{rules, tests}
use Rattle.std.proofs.lemmas.Iterator.Search.{find_from_yields_List}
use Rattle.std.proofs.lemmas.Iterator.Splits.{YieldsList-from_slice_split}
use Rattle.pay_nats.specs.HeaderReading.{is_of}
use Rattle.pay_nats.specs.Parts.{is_byte}
use Rattle.pay_nats.proofs.headers.find_line.Goals as goal

pub returns : goal.returns
returns c =
    find_from_yields_List (is_of c.args.name.now) _ _ _ c.find.ensures.ran
    (YieldsList-from_slice_split _ (is_byte 10) c.args.lines.now c.split.ensures.rest c.split.ensures.done c.split.ensures.closure (λ x b q k. search (rules, tests)))
    (λ x b q k. search (rules, tests))
