-- A ledger is taken with the journals whose accounts it agrees with.
use Rattle.std.specs.Prelude.{◌≡◌, ◌⊎◌, ℕ, nat_lt, Bool, true, false, length, ⊤}
use Rattle.sqlite.specs.Held.{Held}
use Rattle.sqlite.specs.Store.{Ghosts}
use Rattle.pay_tables.specs.Words.{FareEditions}
use Rattle.pay_rules.specs.State.{State}
use Rattle.pay_rules.specs.declared.tap.Kind.{Kind}
use Rattle.pay_rules.specs.declared.tap.Tap.{Tap}
use Rattle.pay_rules.specs.declared.fix.Fix.{Fix}
use Rattle.pay_rules.specs.declared.fix.What.TheVariants.{Void, Fill, Credit, Drop}
use Rattle.pay_wire.specs.Spellings.{spelling_of_kind}
use Rattle.pay_postings.specs.Words.{LedgerParts, AgreesWith}
use Rattle.pay_records.specs.Words.{OnCleanDisk, LeavesAsBefore}
use Rattle.pay_shard.specs.Words.{ShardParts, state_now}
use Rattle.pay_ledger.specs.Words.{IsLedger, ChangesNothing}
use Rattle.pay_ledger.specs.declared.fault.LedgerFault.{LedgerFault}
use Rattle.pay_audit.specs.declared.difference.Difference.{Difference}
use Rattle.pay_audit.specs.declared.difference.Difference.TheVariants.{Tap as OfTap, Fix as OfFix, Posting as OfPosting}
use Rattle.pay_audit.specs.Words.{DiffersIn, AgreeBefore}
use Rattle.pay_jobs.specs.Faults.{IsUnread}
use Rattle.pay_jobs.specs.declared.fault.Fault.{Fault}
use Rattle.pay_jobs.specs.declared.fault.Fault.TheVariants.{LedgerAlone, Lacks, PostedOtherwise}
use Rattle.pay_jobs.specs.declared.lacked.Lacked.{Lacked}
use Rattle.pay_jobs.specs.declared.lacked.Lacked.TheVariants as lacked

-- a fault that says what does not agree
abbrev pub IsOfDifference : Fault → Type 0
IsOfDifference LedgerAlone = ⊤
IsOfDifference (Lacks what) = ⊤
IsOfDifference (PostedOtherwise account week through) = ⊤
IsOfDifference _ = ⊥

-- what is told of a tap is the tap's
abbrev pub IsLackedTap : Lacked → Tap → Type 0
IsLackedTap (lacked.Tap reader seq account utc place word day second) tap =
    (kind : Kind) × (word.now ≡ spelling_of_kind kind) × (tap ≡ record { account = account; reader = reader; seq = seq; place = place; kind = kind; stamp = record { utc = utc; day = day; second = second } })
IsLackedTap _ tap = ⊥

-- and of a correction the correction's
abbrev pub IsLackedFix : Lacked → Fix → Type 0
IsLackedFix (lacked.Void staff seq account reader tap) fix = fix ≡ record { account = account; staff = staff; seq = seq; what = Void reader tap }
IsLackedFix (lacked.Fill staff seq account utc place word day second) fix =
    (kind : Kind) × (word.now ≡ spelling_of_kind kind) × (fix ≡ record { account = account; staff = staff; seq = seq; what = Fill (record { utc = utc; day = day; second = second }) place kind })
IsLackedFix (lacked.Credit staff seq account day pence) fix = fix ≡ record { account = account; staff = staff; seq = seq; what = Credit (record { day = day; pence = pence }) }
IsLackedFix (lacked.Drop staff seq account of other) fix = fix ≡ record { account = account; staff = staff; seq = seq; what = Drop of other }
IsLackedFix _ fix = ⊥

-- what the fault of an account's difference is: a ledger without any line of its journal, or just what differs
abbrev pub IsDifferenceTold : ℕ → Difference → Bool → Fault → Type 0
IsDifferenceTold account (OfTap tap) true fault = (what : Lacked) × IsLackedTap what tap × (fault ≡ Lacks what)
IsDifferenceTold account (OfFix fix) true fault = (what : Lacked) × IsLackedFix what fix × (fault ≡ Lacks what)
IsDifferenceTold account (OfTap tap) false fault = fault ≡ LedgerAlone
IsDifferenceTold account (OfFix fix) false fault = fault ≡ LedgerAlone
IsDifferenceTold account (OfPosting week through) has_line fault = fault ≡ PostedOtherwise account week through

-- A ledger does not agree with what accounts have accepted: this of an account does not, and all that it has of accounts of smaller numbers does.
pub record IsFirstDifference (editions : FareEditions) (state : State) (ledger : LedgerParts) (it : ℕ × Difference) : Type 0 where
  pub agree_not : AgreesWith editions state ledger → ⊥
  pub differs : DiffersIn editions state ledger it
  pub before : AgreeBefore editions state ledger it.0

-- From what a connection holds before a call to what it holds after it.
module _ {S : Type 0} (store : Ghosts S) (old new : Held S) where
  -- the ledger there agrees with what the accounts of a shard have accepted
  abbrev pub AgreesThere : ShardParts → Type 0
  AgreesThere shard = OnCleanDisk store old new (λ old _. (ledger : LedgerParts) → IsLedger old.now ledger → AgreesWith shard.editions (state_now shard) ledger)

  -- it does not agree: this is the first thing that does not, and this fault tells of it
  abbrev pub DiffersThere : ShardParts → Fault → Type 0
  DiffersThere shard fault =
      (it : ℕ × Difference)
      × IsDifferenceTold it.0 it.1 (nat_lt 0 (length shard.journal)) fault
      × OnCleanDisk store old new (λ old _. (ledger : LedgerParts) → IsLedger old.now ledger → IsFirstDifference shard.editions (state_now shard) ledger it)

  -- It was taken with them: it agrees, and all is as it was.
  pub record IsTakenWith (shard : ShardParts) : Type 0 where
    pub agrees : AgreesThere shard
    pub unchanged : ChangesNothing store old new
    pub survives : LeavesAsBefore store old new

  -- Why it is not taken: something does not agree, or it was not read. All is as it was.
  pub record IsNotTakenWith (shard : ShardParts) (fault : Fault) : Type 0 where
    pub why : (IsOfDifference fault × DiffersThere shard fault) ⊎ ((why : LedgerFault) × IsUnread why fault)
    pub unchanged : ChangesNothing store old new
    pub survives : LeavesAsBefore store old new
