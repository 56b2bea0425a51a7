use Rattle.std.proofs.Common.{rules, tests, arith}
use Rattle.std.proofs.lemmas.Iterator.Search.{all_from_yields_List}
use Rattle.pay_fare_file.proofs.Inclusive.{YieldsList-from_inclusive}
use Rattle.pay_fare_file.proofs.singles.has_each_single.Goals as goal

pub returns : goal.returns
returns c =
    all_from_yields_List _ _ _ _ c.all.ensures.ran (YieldsList-from_inclusive 1 c.args.zones c.args.zones c.new.ensures.start c.new.ensures.end c.new.ensures.exhausted (omega arith))
    (λ x b q k. search (rules, tests))
