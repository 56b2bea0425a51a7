-- The partition of an account.
use Rattle.std.specs.Prelude.{ℕ, ◌%◌}

-- an account's lines stand in the partition of what its number leaves, divided by the number of partitions
abbrev pub partition_of : ℕ → ℕ → ℕ
partition_of of account = account % of
