use Rattle.std.proofs.Common.{◌≡◌, [], drop}
use Rattle.toml.specs.View.{items_view}
use Rattle.pay_fare_file.specs.FareFile.{with_each}
use Rattle.pay_fare_file.specs.FaultPlaces.{with_minutes_told}
use Rattle.pay_fare_file.proofs.minutes.each_minutes.Given as goal

-- what is left, put after the numbers so far, gives what all gives
abbrev pub invariant-loop-item : goal.invariant-loop-item
invariant-loop-item l = with_each with_minutes_told l.minutes.items (items_view (drop l.item-index l.items)) ≡ with_each with_minutes_told [] (items_view l.items)
