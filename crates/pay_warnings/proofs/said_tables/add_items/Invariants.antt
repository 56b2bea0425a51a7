use Rattle.std.proofs.Common.{◌≡◌, ◌+◌, ◌++◌, drop}
use Rattle.toml.specs.View.{items_view}
use Rattle.pay_warnings.specs.Warnings.{all_said, items_said}
use Rattle.pay_warnings.proofs.said_tables.add_items.Given as goal

-- what is left, said after what was said so far, is all that is said
abbrev pub invariant-loop-item : goal.invariant-loop-item
invariant-loop-item l = (l.number ≡ l.item-index + 1)
    × (all_said l.warnings ++ items_said l.day l.array l.number (items_view (drop l.item-index l.items)) ≡ all_said l.fn.warnings ++ items_said l.day l.array 1 (items_view l.items))
