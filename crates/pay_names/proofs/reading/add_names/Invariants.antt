use Rattle.std.proofs.Common.{◌≡◌, ◌++◌, drop}
use Rattle.toml.specs.View.{items_view}
use Rattle.pay_names.specs.Names.{named_among}
use Rattle.pay_names.proofs.reading.add_names.Given as goal

-- the names so far, and then those of what is left, are all
abbrev pub invariant-loop-item : goal.invariant-loop-item
invariant-loop-item l = l.names ++ named_among l.key l.most (items_view (drop l.item-index l.items)) ≡ l.fn.names ++ named_among l.key l.most (items_view l.items)
