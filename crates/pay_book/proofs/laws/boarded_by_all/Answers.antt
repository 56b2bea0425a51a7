use Rattle.std.proofs.Common.{Bool, List, map, ap}
use Rattle.std.specs.List.{zip}
use Rattle.pay_rules.specs.Journeys.{boarding}
use Rattle.pay_book.proofs.laws.boarded_by_all.Goals as goal

pub returns : goal.returns
returns c = λ hopper taps. ap (λ (marks : List Bool). map boarding (zip taps marks)) (c.by_the_last.ensures hopper taps)
