-- Which lines stand in the log of a partition.
use Rattle.std.specs.Prelude.{◌≡◌, ℕ, ◌==◌, zero, suc, Bool, true, false, List, [], ◌∷◌, ◌++◌, filter, Option, Some, None, refl}
use Rattle.std.specs.List.{AllByRecursion}
use Rattle.pay_wire.specs.declared.command.SpelledCommand.TheVariants as command
use Rattle.pay_session.specs.declared.request.Request.{Request}
use Rattle.pay_session.specs.declared.request.Request.TheVariants as request
use Rattle.pay_run.specs.Words.{account_named}
pub use Rattle.pay_front.specs.Partition.{partition_of}

-- whether an account's lines stand in this partition
abbrev pub has_account : ℕ → ℕ → ℕ → Bool
has_account of partition account = partition_of of account == partition

-- the same of the account that is named
abbrev pub has_named : ℕ → ℕ → Option ℕ → Bool
has_named of partition (Some account) = has_account of partition account
has_named of partition None = false

-- Whether a request stands in the log of a partition: what is about an account in its own, and a close in each. What is no command, and a
-- QUIT, is in none.
abbrev pub stands_in : ℕ → ℕ → Request → Bool
stands_in of partition (request.Command (command.Close day)) = true
stands_in of partition (request.Command c) = has_named of partition (account_named c)
stands_in of partition _ = false

-- the log of a partition, of all requests
abbrev pub log_of : ℕ → ℕ → List Request → List Request
log_of of partition = filter (stands_in of partition)

-- what stands in the log of its partition alone, or is a close
abbrev pub AreOwn : ℕ → ℕ → List Request → Type 0
AreOwn of partition = AllByRecursion (λ r. stands_in of partition r ≡ true)

-- The logs of the partitions 0, 1, 2 and so on, below a number of them.
abbrev pub moved_below : ℕ → (ℕ → List Request) → ℕ → ℕ → List Request
moved_below zero logs of partition = []
moved_below (suc p) logs of partition = moved_below p logs of partition ++ log_of of partition (logs p)

-- The log of a partition of the new number, if each old log is read in its order, one after another.
abbrev pub moved : ℕ → (ℕ → List Request) → ℕ → ℕ → List Request
moved before logs of partition = moved_below before logs of partition

-- ---- worked rows

-- of three partitions the last has account 8's question and the close
eighth : log_of 3 2 (request.Command (command.Due 7 19_730) ∷ request.Command (command.Close 19_730) ∷ request.Command (command.Show 8 19_730) ∷ request.BadLine ∷ []) ≡ request.Command (command.Close 19_730) ∷ request.Command (command.Show 8 19_730) ∷ []
eighth = refl
