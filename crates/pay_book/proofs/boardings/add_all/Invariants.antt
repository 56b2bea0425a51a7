use Rattle.std.proofs.Common.{◌≡◌, ◌++◌, map}
use Rattle.std.specs.List.{zip}
use Rattle.pay_rules.specs.Journeys.{boarding}
use Rattle.pay_book.proofs.AllJourneys.{rest_boarded}
use Rattle.pay_book.proofs.boardings.add_all.Given as goal

abbrev pub invariant-loop-place : goal.invariant-loop-place
invariant-loop-place l = l.list.items ++ rest_boarded l.buses.touches l.pays l.place ≡ l.fn.list.items ++ map boarding (zip l.buses.touches l.pays)
