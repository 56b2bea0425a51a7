-- What a failure changes of a step: a command that the accounts would answer, and a close, and nothing else.
use Rattle.std.proofs.Common.{◌≡◌, ℕ, Option, Some, None, refl, ap, ◌∙◌}
use Rattle.pay_postings.specs.Words.{LedgerParts}
use Rattle.pay_shard.specs.declared.asked.Asked.{Asked}
use Rattle.pay_wire.specs.declared.reply.SpelledReply.TheVariants as replies
use Rattle.pay_session.specs.Words.{asks_of}
use Rattle.pay_session.specs.declared.asks.Asks.{Asks}
use Rattle.pay_session.specs.declared.asks.Asks.TheVariants as asks
use Rattle.pay_session.specs.declared.request.Request.{Request}
use Rattle.pay_run.specs.Machine.{Machine, Failure, refusal_of_failure, refusal_of_command, stays, step_close, step_asks, step}

close_kept : (m : Machine) (failure : Failure) (day : ℕ) (ledger : Option LedgerParts) → (step_close (Some failure) m day ledger).after ≡ m
close_kept m failure day None = refl
close_kept m failure day (Some ledger) = refl

kept_of : (m : Machine) (failure : Failure) (of : Asks) → (step_asks (Some failure) m of).after ≡ m
kept_of m failure (asks.Put a) = refl
kept_of m failure (asks.Close day) = close_kept m failure day m.ledger
kept_of m failure asks.Quit = refl
kept_of m failure (asks.No why) = refl

pub nothing_kept : (m : Machine) (r : Request) (failure : Failure) → (step (Some failure) m r).after ≡ m
unfolding step
nothing_kept m r failure = kept_of m failure (asks_of m.zone r)

pub command_refused : (m : Machine) (r : Request) (failure : Failure) (a : Asked) → asks_of m.zone r ≡ asks.Put a → step (Some failure) m r ≡ stays m (replies.No (refusal_of_command failure))
unfolding step
command_refused m r failure a e = ap (step_asks (Some failure) m) e

pub close_refused : (m : Machine) (r : Request) (failure : Failure) (day : ℕ) (ledger : LedgerParts) → asks_of m.zone r ≡ asks.Close day → m.ledger ≡ Some ledger
    → step (Some failure) m r ≡ stays m (replies.No (refusal_of_failure failure))
unfolding step
close_refused m r failure day ledger e there = ap (step_asks (Some failure) m) e ∙ ap (step_close (Some failure) m day) there

alike_of : (m : Machine) (failure : Failure) (of : Asks) → ((a : Asked) → of ≡ asks.Put a → ⊥) → ((day : ℕ) → of ≡ asks.Close day → ⊥) → step_asks (Some failure) m of ≡ step_asks None m of
alike_of m failure (asks.Put a) no_command no_close = absurd (no_command a refl)
alike_of m failure (asks.Close day) no_command no_close = absurd (no_close day refl)
alike_of m failure asks.Quit no_command no_close = refl
alike_of m failure (asks.No why) no_command no_close = refl

pub others_alike : (m : Machine) (r : Request) (failure : Failure) → ((a : Asked) → asks_of m.zone r ≡ asks.Put a → ⊥) → ((day : ℕ) → asks_of m.zone r ≡ asks.Close day → ⊥) → step (Some failure) m r ≡ step None m r
unfolding step
others_alike m r failure no_command no_close = alike_of m failure (asks_of m.zone r) no_command no_close
