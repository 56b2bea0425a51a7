-- A close into a ledger is the machine's, where one shard has all accounts.
use Rattle.std.proofs.Common.{◌≡◌, inl, inr, ◌⊎◌, ℕ, true, false, List, [], ◌∷◌, Option, Some, None, refl, sym, ap, ◌∙◌, subst, arith}
use Rattle.std.specs.Prelude.{Result, Ok, Err, IsTrue, IsSomeAnd}
use Rattle.std.specs.List.{AllByRecursion}
use Rattle.sqlite.specs.State.{State, HasCleanDisk}
use Rattle.sqlite.specs.Effect.{Database}
use Rattle.pay_rules.specs.declared.posting.Posting.{Posting}
use Rattle.pay_postings.specs.Words.{LedgerParts, posted}
use Rattle.pay_rules.specs.declared.post_fault.PostFault.{PostFault}
use Rattle.pay_ledger.specs.Words.{IsLedger, IsAsBefore}
use Rattle.pay_tables.specs.Words.{FareEditions}
use Rattle.pay_shard.specs.declared.reply.Answer.{Answer}
use Rattle.pay_shard.specs.declared.reply.Reply.TheVariants as desk_reply
use Rattle.pay_rules.specs.State.{State as Accounts}
use Rattle.pay_shard.specs.Words.{BatchParts}
use Rattle.pay_close.specs.Words.{batch_of_all, OneShardGathersAll}
use Rattle.pay_close.specs.Batches.{gathered, IsWhole}
use Rattle.pay_close.specs.Closes.{Closes, IsWhySaid}
use Rattle.pay_close.specs.Faults.{refusal_of_posting, is_outside}
use Rattle.pay_till.specs.Words.{Taken, gives_quotes, brings_quotes}
use Rattle.pay_wire.specs.declared.refusal.Refusal.{Refusal}
use Rattle.pay_wire.specs.declared.refusal.Refusal.TheVariants as refusal
use Rattle.pay_wire.specs.declared.reply.SpelledReply.TheVariants as replies
use Rattle.pay_run.specs.Ledgers.{HasLedger}
use Rattle.pay_run.specs.Machine.{Machine, Failure, is_keeping, Memory, Store, Desk, Early, refusal_of_failure, stays, step_closed, step_close}
use Rattle.pay_run.specs.Outcomes.{tells_failure}
use Rattle.pay_run.proofs.Tills.{IsOfMachine, ClosesAs}

true_false : true ≡ false → ⊥
true_false e = cc

-- ---- by what was posted

module _ (m : Machine) (day : ℕ) (new : State) (ledger : LedgerParts) (there : m.ledger ≡ Some ledger) where
  -- the quotes were posted
  posted_as : (b : BatchParts) (given : List Posting) → b ≡ batch_of_all m.editions m.accounts day
      → (after : LedgerParts) × (posted ledger b.quotes b.sets ≡ Ok (given, after)) × IsLedger new.now after → ClosesAs m day (Ok given) (HasLedger new)
  posted_as b given all done = record {
    mark = None;
    ledger = Some done.0;
    step = ap (step_close None m day) there ∙ ap (λ (c : BatchParts). step_closed m day (posted ledger c.quotes c.sets)) (sym all) ∙ ap (step_closed m day) done.1;
    ample = λ e. refl;
    kept = refl;
    holds = λ live. done.2;
  }

  -- otherwise the database stays, as far as the connection is open
  module _ (stays_so : IsTrue new.is_open → IsLedger new.now ledger) where
    still : HasLedger new m.ledger
    still = subst (HasLedger new) (sym there) stays_so

    -- they were refused
    refused_as : (b : BatchParts) (why : PostFault) (fault : Refusal) → b ≡ batch_of_all m.editions m.accounts day → fault ≡ refusal_of_posting why → posted ledger b.quotes b.sets ≡ Err why → ClosesAs m day (Err fault) (HasLedger new)
    refused_as b why fault all told refuses = record {
      mark = None;
      ledger = m.ledger;
      step = ap (step_close None m day) there ∙ ap (λ (c : BatchParts). step_closed m day (posted ledger c.quotes c.sets)) (sym all) ∙ ap (step_closed m day) refuses
          ∙ ap (λ (r : Refusal). stays m (replies.No r)) (sym told);
      ample = λ e. refl;
      kept = refl;
      holds = still;
    }

    -- or something failed
    failed_as : (fault : Refusal) (failure : Failure) → refusal_of_failure failure ≡ fault → tells_failure (replies.No fault) ≡ true → is_keeping (Some failure) ≡ false → ClosesAs m day (Err fault) (HasLedger new)
    failed_as fault failure same shows kept = record {
      mark = Some failure;
      ledger = m.ledger;
      step = ap (step_close (Some failure) m day) there ∙ ap (λ (r : Refusal). stays m (replies.No r)) same;
      ample = λ e. absurd (true_false (sym shows ∙ e));
      kept = kept;
      holds = still;
    }

    outside_as : (fault : Refusal) → IsTrue (is_outside fault) → ClosesAs m day (Err fault) (HasLedger new)
    outside_as refusal.DeskFault e = failed_as refusal.DeskFault Desk refl refl refl
    outside_as refusal.Store e = failed_as refusal.Store Store refl refl refl
    outside_as refusal.Memory e = failed_as refusal.Memory Memory refl refl refl
    outside_as refusal.NotOver e = failed_as refusal.NotOver Early refl refl refl
    outside_as refusal.OutOfTime e = absurd (true_false (sym e))
    outside_as refusal.UnknownPlace e = absurd (true_false (sym e))
    outside_as refusal.Conflict e = absurd (true_false (sym e))
    outside_as refusal.AccountFull e = absurd (true_false (sym e))
    outside_as refusal.FixConflict e = absurd (true_false (sym e))
    outside_as refusal.FixesFull e = absurd (true_false (sym e))
    outside_as refusal.Busy e = absurd (true_false (sym e))
    outside_as refusal.Window e = absurd (true_false (sym e))
    outside_as refusal.NotHere e = absurd (true_false (sym e))
    outside_as refusal.StaleQuote e = absurd (true_false (sym e))
    outside_as refusal.BadArchive e = absurd (true_false (sym e))
    outside_as refusal.ArchiveConflict e = absurd (true_false (sym e))
    outside_as refusal.QuoteDiffers e = absurd (true_false (sym e))
    outside_as refusal.NotKept e = absurd (true_false (sym e))
    outside_as refusal.BadLine e = absurd (true_false (sym e))
    outside_as refusal.LongLine e = absurd (true_false (sym e))
    outside_as refusal.Late e = absurd (true_false (sym e))

-- ---- by what was gathered

module _ (gathers : OneShardGathersAll) (editions : FareEditions) (state : Accounts) (day : ℕ) where
  -- an answer of the machine that brings quotes brings those of all
  brings_all : (one : Taken) (o : Option Answer) → one.answer ≡ o → IsSomeAnd o (λ answer. (answer.reply ≡ desk_reply.Quotes (batch_of_all editions state day)) ⊎ (answer.reply ≡ desk_reply.Memory)) → brings_quotes o ≡ true
      → gathered (one ∷ []) ≡ batch_of_all editions state day
  brings_all one None e is brings = absurd is
  brings_all one (Some answer) e (inl quotes) brings = (gathers editions state day one answer e quotes).1
  brings_all one (Some answer) e (inr memory) brings = absurd (true_false (sym brings ∙ ap gives_quotes memory))

  -- all that the machine answered is gathered
  gathers_all : (put : List Taken) → IsWhole 1 put → AllByRecursion (IsOfMachine editions state day) put → gathered put ≡ batch_of_all editions state day
  gathers_all [] whole are = absurd (omega (arith, whole.0))
  gathers_all (one ∷ []) whole are = brings_all one one.answer refl are.0 whole.1.0
  gathers_all (one ∷ other ∷ put) whole are = absurd (omega (arith, whole.0))

-- ---- a close

-- there is a ledger, and a database after an open connection has it
record TheLedger (s : State) (o : Option LedgerParts) : Type 0 where
  ledger : LedgerParts
  there : o ≡ Some ledger
  is : IsTrue s.is_open → IsLedger s.now ledger

the_ledger : (s : State) (o : Option LedgerParts) → HasLedger s o → TheLedger s o
the_ledger s None has = absurd has
the_ledger s (Some ledger) has = record { ledger = ledger; there = refl; is = has }

module _ (gathers : OneShardGathersAll) (m : Machine) (day : ℕ) (old new : State) (put : List Taken) (answers : AllByRecursion (IsOfMachine m.editions m.accounts day) put) where
  as_before : (l : TheLedger old m.ledger) → IsAsBefore old new → IsLedger new.now l.ledger
  as_before l same = subst (λ (db : Database). IsLedger db l.ledger) (sym same.now) (l.is same.was_open)

  refused_or_failed : (fault : Refusal) (l : TheLedger old m.ledger) → (IsTrue new.is_open → IsLedger new.now l.ledger) → IsWhySaid 1 put l.ledger fault → ClosesAs m day (Err fault) (HasLedger new)
  refused_or_failed fault l still (inl outside) = outside_as m day new l.ledger l.there still fault outside
  refused_or_failed fault l still (inr refused) =
      refused_as m day new l.ledger l.there still (gathered put) refused.0 fault (gathers_all gathers m.editions m.accounts day put refused.2 answers) refused.1 refused.3

  -- a connection that was shut refuses for a cause from outside alone
  shut_or_not : (fault : Refusal) (l : TheLedger old m.ledger) → (IsTrue new.is_open → IsLedger new.now l.ledger) → ((ledger : LedgerParts) → IsLedger old.now ledger → IsWhySaid 1 put ledger fault)
      → IsTrue (is_outside fault) ⊎ IsTrue old.is_open → ClosesAs m day (Err fault) (HasLedger new)
  shut_or_not fault l still why (inl outside) = outside_as m day new l.ledger l.there still fault outside
  shut_or_not fault l still why (inr live) = refused_or_failed fault l still (why l.ledger (l.is live))

  pub ledger_closes : (result : Result (List Posting) Refusal) → Closes old new 1 put result → HasCleanDisk new → HasLedger old m.ledger → ClosesAs m day result (HasLedger new)
  ledger_closes (Ok given) closes clean has =
      let l = the_ledger old m.ledger has in
      let done = closes.closed clean in
      let became = done.1.ledger l.ledger (l.is done.1.was_open) in
      posted_as m day new l.ledger l.there (gathered put) given (gathers_all gathers m.editions m.accounts day put done.0 answers) (became.0, became.1, became.2)
  ledger_closes (Err fault) closes clean has =
      let l = the_ledger old m.ledger has in
      shut_or_not fault l (λ live. as_before l (closes.unchanged clean live)) (closes.refused clean) (closes.of_open clean)

-- where the disk is clean after a close, so it was before it
pub was_clean : (old new : State) (put : List Taken) (result : Result (List Posting) Refusal) → Closes old new 1 put result → HasCleanDisk new → HasCleanDisk old
was_clean old new put result closes clean = omega (arith, closes.survives.clean, clean)
