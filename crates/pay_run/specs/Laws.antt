-- What is so of the machine for all requests.
use Rattle.std.specs.Prelude.{◌≡◌, ◌↔◌, ℕ, false, List, [], ◌++◌, take, Option, None, Some}
use Rattle.std.specs.List.{list_any}
use Rattle.jiff.specs.declared.tz.timezone.TimeZone.{TimeZone}
use Rattle.pay_rules.specs.InTurn.{IsIn}
use Rattle.pay_postings.specs.Words.{LedgerParts}
use Rattle.pay_tables.specs.Words.{FareEditions}
use Rattle.pay_shard.specs.declared.asked.Asked.{Asked}
use Rattle.pay_wire.specs.declared.reply.SpelledReply.TheVariants.{No}
use Rattle.pay_session.specs.Words.{asks_of}
use Rattle.pay_session.specs.declared.asks.Asks.TheVariants.{Put, Close}
use Rattle.pay_session.specs.declared.request.Request.{Request}
use Rattle.pay_run.specs.Journals.{AreAllNew, new_requests, cut_after, of_new, GivesBack}
use Rattle.pay_run.specs.Machine.{Machine, Failure, refusal_of_failure, with_ledger, stays, step}
use Rattle.pay_run.specs.Outcomes.{outcome, tells_loss, AreAllPriced, accepted_requests}

-- the zone stays, whatever is asked and whatever fails
abbrev pub ZoneStays : Type 0
ZoneStays = (marks : List (Option Failure)) (m : Machine) (list : List Request) → (outcome marks m list).after.zone ≡ m.zone

-- and so does the fare file
abbrev pub EditionsStay : Type 0
EditionsStay = (marks : List (Option Failure)) (m : Machine) (list : List Request) → (outcome marks m list).after.editions ≡ m.editions

-- and the ledger, where each request is answered by prices
abbrev pub LedgerStays : Type 0
LedgerStays = (m : Machine) (list : List Request) → AreAllPriced (outcome [] m list).replies → (outcome [] m list).after.ledger ≡ m.ledger

-- a close for which something fails is answered by what failed
abbrev pub FailedCloseTells : Type 0
FailedCloseTells = (m : Machine) (r : Request) (failure : Failure) (day : ℕ) (ledger : LedgerParts) → asks_of m.zone r ≡ Close day → m.ledger ≡ Some ledger
    → step (Some failure) m r ≡ stays m (No (refusal_of_failure failure))

-- what is neither a command nor a close is answered as where nothing fails
abbrev pub OthersNeverFail : Type 0
OthersNeverFail = (m : Machine) (r : Request) (failure : Failure) → ((a : Asked) → asks_of m.zone r ≡ Put a → ⊥) → ((day : ℕ) → asks_of m.zone r ≡ Close day → ⊥)
    → step (Some failure) m r ≡ step None m r

-- where no command was lost, what failed makes no difference to the accounts
abbrev pub FailuresLeaveAccounts : Type 0
FailuresLeaveAccounts = (m : Machine) (list : List Request) (marks : List (Option Failure)) → list_any tells_loss (outcome marks m list).replies ≡ false
    → (outcome marks m list).after.accounts ≡ (outcome [] m list).after.accounts

-- where each of a list is accepted, or a repeat, so is each of any list that has the same ones, and both end alike
abbrev pub AskedAlikeEndsAlike : Type 0
AskedAlikeEndsAlike = (m : Machine) (list other : List Request) → ((r : Request) → IsIn list r ↔ IsIn other r) → AreAllPriced (outcome [] m list).replies
    → AreAllPriced (outcome [] m other).replies × ((outcome [] m other).after ≡ (outcome [] m list).after)

-- two lists of which the same ones are accepted end with the same accounts, whatever failed
abbrev pub AcceptedAlikeEndsAlike : Type 0
AcceptedAlikeEndsAlike = (m : Machine) (list other : List Request) (marks others : List (Option Failure))
    → ((r : Request) → IsIn (accepted_requests marks m list) r ↔ IsIn (accepted_requests others m other) r) → (outcome others m other).after.accounts ≡ (outcome marks m list).after.accounts

-- ---- journals

-- the newly accepted requests of a run are replied to by themselves as they were in it, over whatever ledger, and end with its accounts
abbrev pub NewReplayAlone : Type 0
NewReplayAlone = (m : Machine) (list : List Request) (marks : List (Option Failure)) (ledger : Option LedgerParts)
    → outcome [] (with_ledger m ledger) (new_requests marks m list) ≡ of_new ledger (outcome marks m list)

-- each of them newly
abbrev pub NewStayNew : Type 0
NewStayNew = (m : Machine) (list : List Request) (marks : List (Option Failure)) (ledger : Option LedgerParts)
    → AreAllNew (outcome [] (with_ledger m ledger) (new_requests marks m list)).replies

-- a list that has the same requests, in whatever order and however often, is accepted and ends with these accounts too
abbrev pub NewReplayInAnyOrder : Type 0
NewReplayInAnyOrder = (m : Machine) (list other : List Request) (marks : List (Option Failure)) (ledger : Option LedgerParts)
    → ((r : Request) → IsIn (new_requests marks m list) r ↔ IsIn other r)
    → AreAllPriced (outcome [] (with_ledger m ledger) other).replies × ((outcome [] (with_ledger m ledger) other).after ≡ with_ledger (outcome marks m list).after ledger)

-- of a run that was cut after the request by which so many are newly accepted, these are the newly accepted ones
abbrev pub CutLeavesFront : Type 0
CutLeavesFront = (m : Machine) (list : List Request) (marks : List (Option Failure)) (n : ℕ) → new_requests marks m (cut_after n marks m list) ≡ take n (new_requests marks m list)

-- so these come by themselves to what that run comes to
abbrev pub FrontReplaysAsCut : Type 0
FrontReplaysAsCut = (m : Machine) (list : List Request) (marks : List (Option Failure)) (ledger : Option LedgerParts) (n : ℕ)
    → outcome [] (with_ledger m ledger) (take n (new_requests marks m list)) ≡ of_new ledger (outcome marks m (cut_after n marks m list))

-- what gives a machine back, and after it what this machine newly accepts, gives back the machine that there is then
abbrev pub KeptGivesBack : Type 0
KeptGivesBack = (zone : TimeZone) (editions : FareEditions) (kept : List Request) (m : Machine) (list : List Request) (marks : List (Option Failure)) → GivesBack zone editions kept m
    → GivesBack zone editions (kept ++ new_requests marks m list) (outcome marks m list).after

-- and so does a list that has the same requests, in whatever order and however often
abbrev pub KeptInAnyOrder : Type 0
KeptInAnyOrder = (zone : TimeZone) (editions : FareEditions) (kept other : List Request) (m : Machine) → ((r : Request) → IsIn kept r ↔ IsIn other r)
    → GivesBack zone editions kept m → GivesBack zone editions other m
