use Rattle.std.proofs.Common.{◌≡◌, ◌+◌, drop}
use Rattle.toml.specs.View.{items_view}
use Rattle.pay_fare_file.specs.FaultPlaces.{with_each_numbered, with_station_told}
use Rattle.pay_fare_file.proofs.stations.add_stations.Given as goal

-- what is left, put to the places so far, gives what all gives
abbrev pub invariant-loop-item : goal.invariant-loop-item
invariant-loop-item l = (l.number ≡ l.item-index + 1)
    × (with_each_numbered (with_station_told l.zones) l.number l.places (items_view (drop l.item-index l.items)) ≡ with_each_numbered (with_station_told l.zones) 1 l.fn.places (items_view l.items))
