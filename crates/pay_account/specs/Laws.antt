-- What is so of every account's quotes.
use Rattle.std.specs.Prelude.{◌≡◌, ℕ, slice_index}
use Rattle.pay_tables.specs.Words.{FareEditions}
use Rattle.pay_rules.specs.Accepted.{Accepted}
use Rattle.pay_rules.specs.Quotes.{quote, carried}

-- an operator that carried nothing gets nothing
abbrev pub NothingForNothing : FareEditions → Type 0
NothingForNothing editions = (account : ℕ) (accepted : Accepted) (through operator : ℕ)
    → slice_index (carried editions accepted through) operator ≡ 0
    → slice_index (quote editions account accepted through).shares operator ≡ 0
