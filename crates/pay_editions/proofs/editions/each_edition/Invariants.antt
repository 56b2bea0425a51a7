use Rattle.std.proofs.Common.{◌≡◌, [], drop}
use Rattle.toml.specs.View.{items_view}
use Rattle.pay_fare_file.specs.FareFile.{with_each}
use Rattle.pay_fare_file.specs.FaultPlaces.{with_edition_told}
use Rattle.pay_editions.proofs.editions.each_edition.Given as goal

-- what is left, put after the editions so far, gives what all gives
abbrev pub invariant-loop-item : goal.invariant-loop-item
invariant-loop-item l = with_each (with_edition_told l.own) l.editions.items (items_view (drop l.item-index l.items)) ≡ with_each (with_edition_told l.own) [] (items_view l.items)
