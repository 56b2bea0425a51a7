use Rattle.std.proofs.Common.{◌≡◌, [], drop}
use Rattle.toml.specs.View.{items_view}
use Rattle.pay_fare_file.specs.FareFile.{with_each}
use Rattle.pay_fare_file.specs.FaultPlaces.{with_band_told}
use Rattle.pay_fare_file.proofs.bands.each_band.Given as goal

-- what is left, put after the bands so far, gives what all gives
abbrev pub invariant-loop-item : goal.invariant-loop-item
invariant-loop-item l = with_each (with_band_told l.zones) l.bands.items (items_view (drop l.item-index l.items)) ≡ with_each (with_band_told l.zones) [] (items_view l.items)
