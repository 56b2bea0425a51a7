-- What a clerk is shown before an account is corrected, by the texts of journals.
use Rattle.std.specs.Prelude.{◌≡◌, ℕ, List}
use Rattle.pay_fix_page.specs.Words.{choices_text}
use Rattle.pay_fix_page.specs.declared.previews.Owed.{Owed}
use Rattle.pay_names.specs.Words.{Named}
use Rattle.pay_rules.specs.Accepted.{Accepted}
use Rattle.pay_rules.specs.Lines.{shown}
use Rattle.pay_rules.specs.Quotes.{quote}
use Rattle.pay_tables.specs.Words.{FareEditions}
use Rattle.pay_explain_job.specs.Accounts.{Accepts, Given, IsTold}

-- the page of what can be corrected, with the taps of a service day
abbrev pub choice_text : ℕ → ℕ → Named → List ℕ → FareEditions → Accepted → List ℕ
choice_text account day names currency editions accepted = choices_text names accepted account day

-- this is that page of what the account has accepted by the journals
abbrev pub IsChoice : Given → ℕ → ℕ → List ℕ → Type 0
IsChoice given account day = IsTold (choice_text account day) given account

-- what a service day costs, and what is due of its week through that day
abbrev pub owed_of : FareEditions → Accepted → ℕ → ℕ → Owed
owed_of editions accepted account day = record { day = (shown editions account accepted day).day_price; week = (quote editions account accepted day).due }

-- by what the account has accepted by the journals
pub record IsOwed (given : Given) (account day : ℕ) (owed : Owed) : Type 0 where
  pub editions : FareEditions
  pub accepted : Accepted
  pub by_journals : Accepts given account editions accepted
  pub is : owed ≡ owed_of editions accepted account day
