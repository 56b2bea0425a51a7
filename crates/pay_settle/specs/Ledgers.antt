-- What was read of ledgers, and why they are not settled together.
use Rattle.std.specs.Prelude.{◌≡◌, ⊤, ℕ, List, [], map, flat_map}
use Rattle.std.specs.List.{AllByRecursion}
use Rattle.pay_rules.specs.declared.posting.Posting.{Posting}
use Rattle.pay_settle.specs.declared.fault.SettleFault.{SettleFault}
use Rattle.pay_settle.specs.declared.fault.SettleFault.TheVariants.{Shared, Shares, TooLarge, Memory}
use Rattle.pay_settle.specs.declared.job.ReadLedger.{ReadLedger}
use Rattle.pay_settle.specs.declared.settlement.Settlement.{Settlement}
use Rattle.pay_settle.specs.Settled.{AreSumsOf, IsWhyNotOne}
use Rattle.pay_settle.specs.Standing.{StandsInBoth, AreApart}
use Rattle.pay_settle.specs.Sums.{AddsUp}
use Rattle.pay_settle.specs.Text.{report_text}

-- the accounts of each
abbrev pub accounts_in : List ReadLedger → List (List ℕ)
accounts_in ledgers = map (λ (l : ReadLedger). l.accounts.items) ledgers

-- all postings, those of the first ledger first
abbrev pub postings_in : List ReadLedger → List Posting
postings_in ledgers = flat_map (λ (l : ReadLedger). l.postings.items) ledgers

-- No account stands in two of them, all of each posting fell to operators, and the text tells the sums of all postings.
pub record IsReportOf (ledgers : List ReadLedger) (text : List ℕ) : Type 0 where
  pub apart : AreApart (accounts_in ledgers)
  pub adds_up : AllByRecursion AddsUp (postings_in ledgers)
  pub sums : Settlement
  pub are_sums : AreSumsOf (postings_in ledgers) sums
  pub told : text ≡ report_text sums

-- an account stands in two of them, or a posting is not added to those before it, or memory is refused
abbrev pub IsWhyNotSettled : List ReadLedger → SettleFault → Type 0
IsWhyNotSettled ledgers (Shared account first second) = StandsInBoth (accounts_in ledgers) account first second
IsWhyNotSettled ledgers (Shares account week) = IsWhyNotOne [] (postings_in ledgers) (Shares account week)
IsWhyNotSettled ledgers TooLarge = IsWhyNotOne [] (postings_in ledgers) TooLarge
IsWhyNotSettled ledgers Memory = ⊤
