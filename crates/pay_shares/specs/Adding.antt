-- Weights that portions are added to, one after another.
use Rattle.std.specs.Prelude.{ℕ, ◌+◌, ◌-◌, List, slice_index, slice_set}
use Rattle.std.specs.List.{fold}
use Rattle.pay_rules.specs.Portions.{Portion}

-- with a portion more, the weight of its operator is larger by its pence; that of operator 1 stands first
abbrev pub with_portion : List ℕ → Portion → List ℕ
with_portion weights one = slice_set weights (one.operator - 1) (slice_index weights (one.operator - 1) + one.pence)

abbrev pub with_portions : List ℕ → List Portion → List ℕ
with_portions weights list = fold with_portion weights list
