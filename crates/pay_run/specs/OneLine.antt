-- How one line is answered over a shard and a ledger.
use Rattle.std.specs.Prelude.{◌≡◌, ℕ, false, List, Option, None}
use Rattle.jiff.specs.declared.tz.timezone.TimeZone.{TimeZone}
use Rattle.sqlite.specs.Held.{Held, state}
use Rattle.sqlite.specs.State.{HasCleanDisk}
use Rattle.sqlite.specs.Store.{Ghosts}
use Rattle.pay_postings.specs.Words.{LedgerParts}
use Rattle.pay_shard.specs.Words.{ShardParts}
use Rattle.pay_wire.specs.declared.reply.SpelledReply.{SpelledReply}
use Rattle.pay_session.specs.Words.{request_of}
use Rattle.pay_session.specs.declared.request.Request.{Request}
use Rattle.pay_run.specs.Ledgers.{has_ledger_in}
use Rattle.pay_run.specs.Machine.{Machine, Failure, machine_on, step}
use Rattle.pay_run.specs.Outcomes.{tells_failure}

-- A request was answered as the machine does, but for what failed, and the machine after it has what the shard has then. Where the reply is
-- not 43, 44, 48, 49 or 90, nothing failed.
pub record IsAnsweredAs (m : Machine) (request : Request) (reply : SpelledReply) (after : ShardParts) (Has : Option LedgerParts → Type 0) : Type 0 where
  pub mark : Option Failure
  pub ledger : Option LedgerParts
  pub step : step mark m request ≡ record { reply = reply; after = machine_on m.zone after ledger }
  pub ample : tells_failure reply ≡ false → mark ≡ None
  pub has : Has ledger

-- A line over a shard and a ledger in a database, from before to after. Where its disk has not returned what was written, nothing is said.
abbrev pub AnswersLine : {S : Type 0} → Ghosts S → TimeZone → (before after : ShardParts × Held S) → List ℕ → SpelledReply → Type 0
AnswersLine store zone before after line reply = HasCleanDisk (state store after.1) → (ledger : Option LedgerParts) → has_ledger_in store before.1 ledger
    → IsAnsweredAs (machine_on zone before.0 ledger) (request_of line) reply after.0 (has_ledger_in store after.1)
