-- What an account has accepted by the texts of journals.
use Rattle.std.specs.Prelude.{◌≡◌, ℕ, List, [], None}
use Rattle.std.specs.Arc.{arc_value}
use Rattle.std.specs.String.{string_bytes}
use Rattle.pay_names.specs.Words.{Named, called_in_text}
use Rattle.pay_rules.specs.Accepted.{Accepted, version}
use Rattle.pay_rules.specs.State.{accepted_of}
use Rattle.pay_tables.specs.Words.{FareEditions}
use Rattle.pay_run.specs.Words.{Machine, outcome, AreAllPriced}
use Rattle.pay_jobs.specs.Replays.{all_requests}
use Rattle.pay_jobs.specs.Run.{Begins}
use Rattle.pay_explain_job.specs.Numbered.{numbered}
use Rattle.pay_explain_job.specs.declared.accounts.Account.{Account}

-- the texts of a fare file, of a zone and of journals
pub record Given : Type 0 where
  pub fares : List ℕ
  pub zone : List ℕ
  pub journals : List (List ℕ)

abbrev pub given : List ℕ → List ℕ → List (List ℕ) → Given
given fares zone journals = record { fares = fares; zone = zone; journals = journals }

-- The fare file and the zone are read, each line of all journals, one after the other, is accepted or was before, and this is what the
-- account has then accepted.
pub record Accepts (given : Given) (account : ℕ) (prices : FareEditions) (sets : Accepted) : Type 0 where
  pub machine : Machine
  pub begins : Begins given.fares given.zone None machine
  pub priced : AreAllPriced (outcome [] machine (all_requests given.journals)).replies
  pub editions : prices ≡ machine.editions
  pub accepted : sets ≡ accepted_of (outcome [] machine (all_requests given.journals)).after.accounts account

-- What is told of an account, by what a fare file calls its places, its currency, its prices, and what the account has accepted.
pub record IsTold (say : Named → List ℕ → FareEditions → Accepted → List ℕ) (given : Given) (account : ℕ) (text : List ℕ) : Type 0 where
  pub editions : FareEditions
  pub accepted : Accepted
  pub by_journals : Accepts given account editions accepted
  pub says : text ≡ say (called_in_text given.fares).places (called_in_text given.fares).currency editions (numbered accepted)

-- the account as a value
pub record IsAccount (given : Given) (account : ℕ) (it : Account) : Type 0 where
  pub accepted : Accepted
  pub by_journals : Accepts given account (arc_value it.editions) accepted
  pub sets : record { taps = it.taps; fixes = it.fixes } ≡ numbered accepted
  pub version : it.version ≡ version accepted
  pub places : it.called.places ≡ (called_in_text given.fares).places
  pub operators : it.called.operators ≡ (called_in_text given.fares).operators
  pub currency : string_bytes it.called.currency ≡ (called_in_text given.fares).currency

-- and what is told of it
abbrev pub told : (Named → List ℕ → FareEditions → Accepted → List ℕ) → Account → List ℕ
told say it = say it.called.places (string_bytes it.called.currency) (arc_value it.editions) (record { taps = it.taps; fixes = it.fixes })
