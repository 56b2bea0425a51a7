use Rattle.std.proofs.Common.{◌≡◌, ◌++◌}
use Rattle.toml.specs.View.{members_view}
use Rattle.pay_warnings.specs.Warnings.{all_said, unread}
use Rattle.pay_warnings.proofs.unread.add_unread.Given as goal

-- what is left, said after what was said so far, is all that is said
abbrev pub invariant-loop-name : goal.invariant-loop-name
invariant-loop-name l =
    all_said l.warnings ++ unread l.at l.known (members_view l.name-iterator) ≡ all_said l.fn.warnings ++ unread l.at l.known (members_view l.table.entries)
