use Rattle.std.proofs.Common.{◌≡◌, [], drop}
use Rattle.toml.specs.View.{items_view}
use Rattle.pay_fare_file.specs.FareFile.{with_each}
use Rattle.pay_fare_file.specs.FaultPlaces.{with_interchange_told}
use Rattle.pay_fare_file.proofs.interchanges.each_interchange.Given as goal

-- what is left, put after the interchanges so far, gives what all gives
abbrev pub invariant-loop-item : goal.invariant-loop-item
invariant-loop-item l = with_each (with_interchange_told l.places) l.interchanges.items (items_view (drop l.item-index l.items)) ≡ with_each (with_interchange_told l.places) [] (items_view l.items)
