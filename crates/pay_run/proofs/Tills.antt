-- A till whose closes are the machine's.
use Rattle.std.proofs.Common.{◌≡◌, ◌⊎◌, ℕ, false, List, Option, None}
use Rattle.std.specs.Prelude.{Result, IsSomeAnd}
use Rattle.std.specs.List.{AllByRecursion}
use Rattle.pay_rules.specs.declared.posting.Posting.{Posting}
use Rattle.pay_tables.specs.Words.{FareEditions}
use Rattle.pay_postings.specs.Words.{LedgerParts}
use Rattle.pay_shard.specs.declared.desk.DeskFault.{DeskFault}
use Rattle.pay_shard.specs.declared.desk.DeskFault.TheVariants as desk_fault
use Rattle.pay_shard.specs.declared.reply.Reply.TheVariants as desk_reply
use Rattle.pay_rules.specs.State.{State}
use Rattle.pay_shard.specs.Words.{batch}
use Rattle.pay_session.specs.Words.{said_of_close}
use Rattle.pay_till.specs.Words.{Taken, AreQuotes}
use Rattle.pay_wire.specs.declared.refusal.Refusal.{Refusal}
use Rattle.pay_run.specs.Machine.{Machine, Failure, is_keeping, with_ledger, step_close}
use Rattle.pay_run.specs.Outcomes.{tells_failure}

-- one shard was asked for its quotes, and answered with those of all accounts, or by want of memory
abbrev pub IsOfMachine : FareEditions → State → ℕ → Taken → Type 0
IsOfMachine editions state day t = IsSomeAnd t.answer (λ answer. (answer.reply ≡ desk_reply.Quotes (batch editions state day 0 1)) ⊎ (answer.reply ≡ desk_reply.Memory))

-- A close came to what the machine's does, but for what failed, which it tells.
pub record ClosesAs (m : Machine) (day : ℕ) (result : Result (List Posting) Refusal) (Holds : Option LedgerParts → Type 0) : Type 0 where
  pub mark : Option Failure
  pub ledger : Option LedgerParts
  pub step : step_close mark m day m.ledger ≡ record { reply = said_of_close day result; after = with_ledger m ledger }
  pub ample : tells_failure (said_of_close day result) ≡ false → mark ≡ None
  pub kept : is_keeping mark ≡ false
  pub holds : Holds ledger

-- A desk that refuses for memory, or because something could not be kept, if that can fail; whose replies are never late; and a till
-- whose closes over one shard are the machine's: with `Sound` for whether what the till keeps can be told, and `MayAnswer` for what that is.
pub record IsPlain {T : Type 0} (Refuses : DeskFault → Type 0) (Late Fails : Type 0) (Closes : T → ℕ → ℕ → List Taken → Result (List Posting) Refusal → T → Type 0) (Sound : T → Type 0) (MayAnswer : T → Option LedgerParts → Type 0) : Type 0 where
  pub memory : (fault : DeskFault) → Refuses fault → (fault ≡ desk_fault.Memory) ⊎ ((fault ≡ desk_fault.NotKept) × Fails)
  pub never : Late → ⊥
  pub was_sound : (before after : T) (day : ℕ) (put : List Taken) (result : Result (List Posting) Refusal) → Closes before day 1 put result after → Sound after → Sound before
  pub closes : (before after : T) (m : Machine) (day : ℕ) (put : List Taken) (result : Result (List Posting) Refusal)
      → Closes before day 1 put result after → AreQuotes day 1 0 put → AllByRecursion (IsOfMachine m.editions m.accounts day) put → Sound after → MayAnswer before m.ledger
      → ClosesAs m day result (MayAnswer after)
