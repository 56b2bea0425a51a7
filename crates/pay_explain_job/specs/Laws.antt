-- What is so of an account's own lines.
use Rattle.std.specs.Prelude.{ℕ, List}
use Rattle.pay_names.specs.Words.{Named}
use Rattle.pay_rules.specs.Accepted.{Accepted}
use Rattle.pay_tables.specs.Words.{FareEditions}
use Rattle.pay_explain_job.specs.Accounts.{Accepts, IsTold, given}
use Rattle.pay_explain_job.specs.OwnLines.{own_given}

-- by them the account has accepted what it has by all
abbrev pub OwnLinesAcceptAlike : Type 0
OwnLinesAcceptAlike = (fares zone : List ℕ) (journals : List (List ℕ)) (account : ℕ) (editions : FareEditions) (accepted : Accepted)
    → Accepts (given fares zone journals) account editions accepted → Accepts (own_given fares zone account journals) account editions accepted

-- so what is told by all is told by them
abbrev pub IsToldAlike : Type 0
IsToldAlike = (say : Named → List ℕ → FareEditions → Accepted → List ℕ) (fares zone : List ℕ) (journals : List (List ℕ)) (account : ℕ) (text : List ℕ)
    → IsTold say (given fares zone journals) account text → IsTold say (own_given fares zone account journals) account text
