use Rattle.std.proofs.Common.{rules, tests, refl}
use Rattle.std.proofs.lemmas.Iterator.Search.{all_from_yields_List}
use Rattle.pay_fare_file.proofs.Inclusive.{YieldsList-from_inclusive}
use Rattle.pay_fare_file.proofs.singles.has_singles_from.Goals as goal

pub returns : goal.returns
returns c =
    all_from_yields_List _ _ _ _ c.all.ensures.ran (YieldsList-from_inclusive c.args.from c.args.zones _ c.new.ensures.start c.new.ensures.end c.new.ensures.exhausted refl)
    (λ x b q k. search (rules, tests))
