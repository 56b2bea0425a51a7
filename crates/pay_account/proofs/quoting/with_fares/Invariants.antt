use Rattle.std.proofs.Common.{◌≡◌, ◌++◌, map, filter}
use Rattle.pay_rules.specs.Prices.{is_within}
use Rattle.pay_rules.specs.Quotes.{with_fare}
use Rattle.pay_account.proofs.quoting.with_fares.Given as goal

abbrev pub invariant-loop-journey : goal.invariant-loop-journey
invariant-loop-journey l =
    l.list.items ++ map (with_fare l.editions) (filter (is_within l.from l.through) l.journey-iterator.rest.items) ≡ map (with_fare l.editions) (filter (is_within l.from l.through) l.fn.journeys.items)
