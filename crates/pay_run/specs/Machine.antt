-- The machine that answers a session of lines: a zone, a shard's machine over all accounts, and the ledger in which days are closed.
use Rattle.std.specs.Prelude.{◌≡◌, ℕ, Bool, true, false, List, [], Option, Some, None, Result, Ok, Err, refl}
use Rattle.std.specs.FinMap as map
use Rattle.jiff.specs.declared.tz.timezone.TimeZone.{TimeZone}
use Rattle.pay_tables.specs.Words.{FareEditions}
use Rattle.pay_rules.specs.declared.posting.Posting.{Posting}
use Rattle.pay_postings.specs.Words.{LedgerParts}
use Rattle.pay_rules.specs.declared.post_fault.PostFault.{PostFault}
use Rattle.pay_rules.specs.declared.post_fault.PostFault.TheVariants as post_fault
use Rattle.pay_shard.specs.declared.asked.Asked.{Asked}
use Rattle.pay_rules.specs.State.{State}
use Rattle.pay_shard.specs.Words.{ShardParts, state_now, Step as ShardStep, step as shard_step}
use Rattle.pay_close.specs.Words.{close, refusal_of_posting}
use Rattle.pay_wire.specs.declared.refusal.Refusal.{Refusal}
use Rattle.pay_wire.specs.declared.refusal.Refusal.TheVariants as refusal
use Rattle.pay_wire.specs.declared.reply.SpelledReply.{SpelledReply}
use Rattle.pay_wire.specs.declared.reply.SpelledReply.TheVariants as replies
use Rattle.pay_session.specs.Words.{asks_of, said}
use Rattle.pay_session.specs.declared.asks.Asks.{Asks}
use Rattle.pay_session.specs.declared.asks.Asks.TheVariants as asks
use Rattle.pay_session.specs.declared.request.Request.{Request}

-- The zone and the fare file, which stay; what each account has accepted; and the ledger, or none where nothing is closed.
pub record Machine : Type 0 where
  pub zone : TimeZone
  pub editions : FareEditions
  pub accounts : State
  pub ledger : Option LedgerParts

-- a machine that has accepted nothing, over what was posted before
abbrev pub new_machine : TimeZone → FareEditions → Option LedgerParts → Machine
new_machine zone editions ledger = record { zone = zone; editions = editions; accounts = map.empty; ledger = ledger }

-- a machine that goes on from what a shard has
abbrev pub machine_on : TimeZone → ShardParts → Option LedgerParts → Machine
machine_on zone shard ledger = record { zone = zone; editions = shard.editions; accounts = state_now shard; ledger = ledger }

-- the same with other accounts, or with another ledger
abbrev pub with_accounts : Machine → State → Machine
with_accounts m accounts = record { zone = m.zone; editions = m.editions; accounts = accounts; ledger = m.ledger }

abbrev pub with_ledger : Machine → Option LedgerParts → Machine
with_ledger m ledger = record { zone = m.zone; editions = m.editions; accounts = m.accounts; ledger = ledger }

-- What may fail for a request, which no rule decides: memory for it, the store of the ledger, the desk's quotes for a close, what keeps
-- the lines that are accepted, or that the day of a close is over by the clock.
pub data Failure : Type 0 where
  Memory : Failure
  Store : Failure
  Desk : Failure
  Keeping : Failure
  Early : Failure

-- whether what failed is what keeps the lines, as it does for no request where nothing is kept
abbrev pub is_keeping : Option Failure → Bool
is_keeping (Some Keeping) = true
is_keeping _ = false

-- the reply to a request, and the machine after it
pub record Step : Type 0 where
  pub reply : SpelledReply
  pub after : Machine

-- a reply that changes nothing
abbrev pub stays : Machine → SpelledReply → Step
stays m reply = record { reply = reply; after = m }

-- what a shard's machine over all accounts replies, as a line says it
abbrev pub step_of : Machine → ShardStep → Step
step_of m s = record { reply = said s.reply; after = with_accounts m s.after }

-- ---- closes

-- a failure, as a close tells it: a desk that can keep nothing gives no quotes
abbrev pub refusal_of_failure : Failure → Refusal
refusal_of_failure Memory = refusal.Memory
refusal_of_failure Store = refusal.Store
refusal_of_failure Desk = refusal.DeskFault
refusal_of_failure Keeping = refusal.DeskFault
refusal_of_failure Early = refusal.NotOver

-- what a close comes to: the day's postings and another ledger, or a refusal
abbrev pub step_closed : Machine → ℕ → Result (List Posting × LedgerParts) PostFault → Step
step_closed m day (Ok answer) = record { reply = replies.Closed (record { day = day; postings = answer.0 }); after = with_ledger m (Some answer.1) }
step_closed m day (Err fault) = stays m (replies.No (refusal_of_posting fault))

-- Where there is no ledger, nothing is closed. Where something fails for a close, the ledger stays.
abbrev pub step_close : Option Failure → Machine → ℕ → Option LedgerParts → Step
step_close failed m day None = stays m (replies.No refusal.NotHere)
step_close (Some failure) m day (Some ledger) = stays m (replies.No (refusal_of_failure failure))
step_close None m day (Some ledger) = step_closed m day (close m.editions (record { state = m.accounts; ledger = ledger }) day)

-- ---- a request

-- a failure, as a command tells it: what is accepted was not kept, and otherwise it takes memory alone
abbrev pub refusal_of_command : Failure → Refusal
refusal_of_command Memory = refusal.Memory
refusal_of_command Store = refusal.Memory
refusal_of_command Desk = refusal.Memory
refusal_of_command Keeping = refusal.NotKept
refusal_of_command Early = refusal.Memory

-- A command is answered by the accounts. Where something fails for it, that is the reply, and nothing changes.
abbrev pub step_command : Option Failure → Machine → Asked → Step
step_command None m a = step_of m (shard_step m.editions m.accounts a)
step_command (Some failure) m a = stays m (replies.No (refusal_of_command failure))

-- by what a request comes to
abbrev pub step_asks : Option Failure → Machine → Asks → Step
step_asks failed m (asks.Put a) = step_command failed m a
step_asks failed m (asks.Close day) = step_close failed m day m.ledger
step_asks failed m asks.Quit = stays m replies.Bye
step_asks failed m (asks.No why) = stays m (replies.No why)

-- The reply to a request, and the machine after it. The mark says what failed for the request, if anything did.
unfoldable pub step : Option Failure → Machine → Request → Step
step failed m request = step_asks failed m (asks_of m.zone request)

-- ---- worked rows

-- of a close that is refused nothing is kept, and neither is of one for which the store fails
refused_late : (m : Machine) (account version through : ℕ) → step_closed m 19_730 (Err (post_fault.StaleQuote account version through)) ≡ stays m (replies.No refusal.StaleQuote)
refused_late m account version through = refl

store_fails : (m : Machine) (ledger : LedgerParts) → step_close (Some Store) m 19_730 (Some ledger) ≡ stays m (replies.No refusal.Store)
store_fails m ledger = refl

-- a tap that was not kept is told so, and is not in the accounts; a close is then refused as where the desk fails
not_kept : (m : Machine) (a : Asked) → step_asks (Some Keeping) m (asks.Put a) ≡ stays m (replies.No refusal.NotKept)
not_kept m a = refl

no_quotes_kept : (m : Machine) (ledger : LedgerParts) → step_close (Some Keeping) m 19_730 (Some ledger) ≡ stays m (replies.No refusal.DeskFault)
no_quotes_kept m ledger = refl

-- a day of which nobody is quoted is closed without a posting, and the ledger is then as it was
nobody_quoted : (m : Machine) (ledger : LedgerParts) → step_closed m 19_730 (Ok ([], ledger)) ≡ record { reply = replies.Closed (record { day = 19_730; postings = [] }); after = with_ledger m (Some ledger) }
nobody_quoted m ledger = refl
