-- What is so of the lines of one account.
use Rattle.std.specs.Prelude.{◌≡◌, ℕ, List, [], filter}
use Rattle.pay_rules.specs.State.{accepted_of}
use Rattle.pay_run.specs.Words.{Machine, outcome, AreAllPriced}
use Rattle.pay_session.specs.Requests.{line_requests}
use Rattle.pay_session.specs.declared.request.Request.{Request}
use Rattle.pay_account_lines.specs.OwnLines.{is_own, own_lines}

-- they ask for what the text asks for of that account
abbrev pub AskForTheirAccount : Type 0
AskForTheirAccount = (account : ℕ) (text : List ℕ) → line_requests (own_lines account text) ≡ filter (is_own account) (line_requests text)

-- Where each of a list of requests is accepted, or a repeat, each of an account's own is by itself, and the account has accepted the same by
-- these alone.
pub record IsEnough (machine : Machine) (account : ℕ) (list : List Request) : Type 0 where
  pub accepted : AreAllPriced (outcome [] machine (filter (is_own account) list)).replies
  pub same : accepted_of (outcome [] machine (filter (is_own account) list)).after.accounts account ≡ accepted_of (outcome [] machine list).after.accounts account

abbrev pub OwnAreEnough : Type 0
OwnAreEnough = (machine : Machine) (account : ℕ) (list : List Request) → AreAllPriced (outcome [] machine list).replies → IsEnough machine account list
