use Rattle.std.proofs.Common.{◌≡◌, ◌++◌, drop}
use Rattle.toml.specs.View.{items_view}
use Rattle.pay_warnings.specs.Warnings.{all_said, editions_said}
use Rattle.pay_warnings.proofs.lint.add_editions.Given as goal

-- what is left, said after what was said so far, is all that is said
abbrev pub invariant-loop-edition : goal.invariant-loop-edition
invariant-loop-edition l = all_said l.warnings ++ editions_said (items_view (drop l.edition-index l.editions)) ≡ all_said l.fn.warnings ++ editions_said (items_view l.editions)
