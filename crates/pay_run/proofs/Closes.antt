-- What a close does to a machine.
use Rattle.std.proofs.Common.{◌≡◌, ℕ, false, List, Option, Some, None, Ok, Err, refl}
use Rattle.std.specs.Prelude.{Result}
use Rattle.pay_rules.specs.declared.posting.Posting.{Posting}
use Rattle.pay_postings.specs.Words.{LedgerParts}
use Rattle.pay_rules.specs.declared.post_fault.PostFault.{PostFault}
use Rattle.pay_close.specs.Words.{close}
use Rattle.pay_wire.specs.declared.reply.SpelledReply.{SpelledReply}
use Rattle.pay_run.specs.Machine.{Machine, Failure, Step, with_ledger, step_closed, step_close}
use Rattle.pay_run.specs.Outcomes.{is_priced}

-- it changes the ledger alone, and is answered by no prices
module _ (P : Step → Type 0) (m : Machine) (each : (reply : SpelledReply) (ledger : Option LedgerParts) → is_priced reply ≡ false → P (record { reply = reply; after = with_ledger m ledger })) where
  of_closed : (day : ℕ) (result : Result (List Posting × LedgerParts) PostFault) → P (step_closed m day result)
  of_closed day (Ok answer) = each _ (Some answer.1) refl
  of_closed day (Err fault) = each _ m.ledger refl

  pub of_close : (failed : Option Failure) (day : ℕ) (ledger : Option LedgerParts) → P (step_close failed m day ledger)
  of_close failed day None = each _ m.ledger refl
  of_close (Some failure) day (Some ledger) = each _ m.ledger refl
  of_close None day (Some ledger) = of_closed day (close m.editions (record { state = m.accounts; ledger = ledger }) day)
