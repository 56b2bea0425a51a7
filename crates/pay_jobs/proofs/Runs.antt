-- How a session by texts ends: what there is once they are read, and what came of it over the ledger that was opened.
use Rattle.std.proofs.Common.{◌∙◌, ℕ, List, Option, None, Some, IfSome, inl, inr, refl, sym, ap, subst, arith}
use Rattle.std.specs.Prelude.{Result, Ok, Err, IfOk, IfErr, IsSomeAnd, ⊤}
use Rattle.sqlite.specs.Held.{Held, state}
use Rattle.sqlite.specs.State.{HasCleanDisk}
use Rattle.sqlite.specs.Store.{Ghosts}
use Rattle.pay_journal.specs.declared.keeper.Keeper.{Ghosts as Keeping}
use Rattle.pay_ledger.specs.Words.{IsLedger}
use Rattle.pay_postings.specs.Words.{LedgerParts, AgreesWith}
use Rattle.pay_shard.specs.Words.{ShardParts, state_now}
use Rattle.pay_run.specs.Ledgers.{has_none}
use Rattle.pay_records.specs.Words.{LeavesAsBefore}
use Rattle.pay_session.specs.Words.{line_requests}
use Rattle.pay_journal.specs.declared.replaying.ReplayFault.{ReplayFault}
use Rattle.pay_journal.specs.declared.replaying.ReplayFault.TheVariants as replaying
use Rattle.pay_session.specs.declared.sessions.Done.{Done}
use Rattle.pay_session.specs.declared.stop.SessionFault.{SessionFault}
use Rattle.pay_run.specs.Words.{HasLedger, Machine, machine_on, GivesBack, IsNotReplayed, Before, After, Known, with_ledger_in, without_ledger, LinesEnd, LinesFail}
use Rattle.pay_jobs.specs.Taken.{IsTakenWith, IsNotTakenWith}
use Rattle.pay_jobs.specs.Faults.{IsRefusal, IsReplayFault}
use Rattle.pay_jobs.specs.Run.{Begins, Resumes, IsRefused, IsNotBegun, HasBegun, JobRan, HasRun, HasNotRun}
use Rattle.pay_jobs.specs.Texts.{Texts}
use Rattle.pay_jobs.specs.declared.begun.Begun.{Begun}
use Rattle.pay_jobs.specs.declared.fault.Fault.{Fault}
use Rattle.pay_jobs.specs.declared.fault.Fault.TheVariants.{Usage, File, BadZone, CannotListen, Input, Output, Kept, JournalLine, JournalLineOf, Journal, LedgerAlone, Lacks, PostedOtherwise, Refused}

-- ---- there is no desk

module _ (texts : Texts) where
  -- what is told as a refusal is one
  by_refusal : (fault : Fault) (number : ℕ) (name : List ℕ) → IsRefusal fault number name → IsRefused fault texts.fares → IsNotBegun texts fault
  by_refusal (Refused number name) n text told h = h
  by_refusal Usage n text told h = absurd told
  by_refusal (File why) n text told h = absurd told
  by_refusal BadZone n text told h = absurd told
  by_refusal CannotListen n text told h = absurd told
  by_refusal Input n text told h = absurd told
  by_refusal Output n text told h = absurd told
  by_refusal (Kept why) n text told h = absurd told
  by_refusal (JournalLine line why) n text told h = absurd told
  by_refusal (JournalLineOf journal line why) n text told h = absurd told
  by_refusal Journal n text told h = absurd told
  by_refusal LedgerAlone n text told h = absurd told
  by_refusal (Lacks what) n text told h = absurd told
  by_refusal (PostedOtherwise account week through) n text told h = absurd told

  pub begun_refused : (fault : Fault) → IsRefused fault texts.fares → IsNotBegun texts fault
  begun_refused fault (inl told) = by_refusal fault _ _ told (inl told)
  begun_refused fault (inr (of, says, told)) = by_refusal fault _ _ told (inr (of, says, told))

  -- where a line of the journal is not accepted, or memory was wanting for one
  pub begun_past : (of : ReplayFault) (fault : Fault) (m : Machine) → IsReplayFault of fault → Begins texts.fares texts.zone None m → IsNotReplayed m (line_requests texts.past) of → IsNotBegun texts fault
  begun_past (replaying.Line line why) fault m is begins h = subst (λ f. IsNotBegun texts f) (sym is) (m, begins, h)
  begun_past replaying.Memory fault m is begins h = begun_refused fault (inl is)

-- ---- the machine with which a session begins, over a ledger

resumed : (texts : Texts) (begun : Begun) → HasBegun texts begun → (ledger : Option LedgerParts) → Resumes texts ledger (machine_on begun.zone begun.desk.shard ledger)
resumed texts begun has ledger = record {
  says = has.says ∙ ap Ok (sym has.replay.same);
  rule = has.rule;
  gives_back = subst (λ t. GivesBack begun.zone t (line_requests texts.past) (machine_on begun.zone begun.desk.shard ledger)) (sym has.replay.same) (has.replay.gives_back ledger);
  posted = refl;
}

-- ---- a session was held, or not, over the ledger that was opened

-- a ledger that was taken is as it was, and one that was not too
module _ {S : Type 0} (store : Ghosts S) (old new : Held S) where
  was_clean : LeavesAsBefore store old new → HasCleanDisk (state store new) → HasCleanDisk (state store old)
  was_clean survives clean = let less = survives.clean in omega (arith, less, clean)

  module _ (shard : ShardParts) (taken : IsTakenWith store old new shard) where
    same_ledger : HasCleanDisk (state store new) → (found : LedgerParts) → IsLedger (state store old).now found → HasLedger (state store new) (Some found)
    same_ledger clean found is live = subst (λ db. IsLedger db found) (sym (taken.unchanged clean live).now) is

    agrees_so : HasCleanDisk (state store new) → (found : Option LedgerParts) → IsSomeAnd found (IsLedger (state store old).now) → IfSome found (AgreesWith shard.editions (state_now shard))
    agrees_so clean None is = tt
    agrees_so clean (Some found) is = taken.agrees clean found is

-- where the input is known this is so of it, if that is
if_known : (known : Option (List ℕ)) (A B : Type 0) → IfSome known (λ _. A) → (A → B) → IfSome known (λ _. B)
if_known None A B h f = tt
if_known (Some input) A B h f = f h

-- a run is told where the input is known, and so it may rest on what is so then
ok_if_known : (ended : Result Done SessionFault) (known : Option (List ℕ)) (A : Type 0) (Told : Done → List ℕ → Type 0)
    → IfSome known (λ _. A) → (A → IfOk ended (λ done. IfSome known (Told done))) → IfOk ended (λ done. IfSome known (Told done))
ok_if_known (Err fault) known A Told h f = tt
ok_if_known (Ok done) None A Told h f = tt
ok_if_known (Ok done) (Some input) A Told h f = f h

err_if_known : (ended : Result Done SessionFault) (known : Option (List ℕ)) (A : Type 0) (Told : SessionFault → List ℕ → Type 0)
    → IfSome known (λ _. A) → (A → IfErr ended (λ fault. IfSome known (Told fault))) → IfErr ended (λ fault. IfSome known (Told fault))
err_if_known (Ok done) known A Told h f = tt
err_if_known (Err fault) None A Told h f = tt
err_if_known (Err fault) (Some input) A Told h f = f h

-- the same over another ledger before
abbrev pub over : {K L R W : Type 0} → Before K L R W → L → Before K L R W
over before ledger = record { keeper = before.keeper; ledger = ledger; reader = before.reader; writer = before.writer }

-- What came of the lines over the ledger that was taken, which is what it was when it was opened.
pub record RanLines {K S R W : Type 0} (store : Ghosts S) (known : Known K (Held S) R W) (begun : Begun) (taken : Held S) (before : Before K (Held S) R W) (after : After (Held S) R W) (ended : Result Done SessionFault) : Type 0 where
  pub beside : IsTakenWith store before.ledger taken begun.desk.shard
  pub clean : IfSome (known.remaining before.reader) (λ _. HasCleanDisk (state store after.ledger) → HasCleanDisk (state store taken))
  pub ends : LinesEnd known begun.zone begun.desk (over before taken) after ended
  pub fails : LinesFail known begun.zone begun.desk (over before taken) after ended

module _ {K S R W : Type 0} (store : Ghosts S) (keeper : Keeping K) (remaining : R → Option (List ℕ)) (contents : W → Option (List ℕ)) (begun : Begun) where
  abbrev known : Known K (Held S) R W
  known = with_ledger_in store keeper remaining contents

  module _ (before : Before K (Held S) R W) (after : After (Held S) R W) (taken : Held S) (ended : Result Done SessionFault) (ran : RanLines store known begun taken before after ended) (texts : Texts) (has : HasBegun texts begun) where
    over_found : (found : Option LedgerParts) → known.IsFound before.ledger found → HasCleanDisk (state store taken) → known.Has taken found
    over_found None is was = absurd is
    over_found (Some found) is was = same_ledger store before.ledger taken begun.desk.shard ran.beside was found is

    job : JobRan known texts before after ended
    job = record {
      sound = λ clean. if_known (remaining before.reader) _ _ ran.clean (λ was. was_clean store before.ledger taken ran.beside.survives (was clean));
      over = λ clean found is. record {
        machine = machine_on begun.zone begun.desk.shard found;
        resumes = resumed texts begun has found;
        agrees = if_known (remaining before.reader) _ _ ran.clean (λ was. agrees_so store before.ledger taken begun.desk.shard ran.beside (was clean) found is);
        ends = ok_if_known ended (remaining before.reader) _ _ ran.clean (λ was. ran.ends clean found (over_found found is (was clean)));
        fails = err_if_known ended (remaining before.reader) _ _ ran.clean (λ was. ran.fails clean found (over_found found is (was clean)));
      };
    }

  pub job_ran : (before : Before K (Held S) R W) (after : After (Held S) R W) (taken : Held S) (ended : Result Done SessionFault) → RanLines store known begun taken before after ended → HasRun known begun before after ended
  job_ran before after taken ended ran texts has = job before after taken ended ran texts has

-- the ledger was not taken with what the journal gives back
pub job_not_ran : {S : Type 0} (store : Ghosts S) (begun : Begun) (opened last : Held S) (fault : Fault) → IsNotTakenWith store opened last begun.desk.shard fault → HasNotRun store begun opened last fault
job_not_ran store begun opened last fault why texts has = record { clean = was_clean store opened last why.survives; why = why }

-- without a ledger
pub job_ran_alone : {K R W : Type 0} (keeper : Keeping K) (remaining : R → Option (List ℕ)) (contents : W → Option (List ℕ)) (begun : Begun) (before : Before K ⊤ R W) (after : After ⊤ R W) (ended : Result Done SessionFault)
    → LinesEnd (without_ledger keeper remaining contents) begun.zone begun.desk before after ended → LinesFail (without_ledger keeper remaining contents) begun.zone begun.desk before after ended
    → HasRun (without_ledger keeper remaining contents) begun before after ended
job_ran_alone keeper remaining contents begun before after ended ends fails texts has = record {
  sound = λ sound. always (remaining before.reader) _ tt;
  over = λ sound found is. record {
    machine = machine_on begun.zone begun.desk.shard found;
    resumes = resumed texts begun has found;
    agrees = always (remaining before.reader) _ (none_agrees begun.desk.shard found is);
    ends = ends sound found is;
    fails = fails sound found is;
  };
}
  where
    none_agrees : (shard : ShardParts) (found : Option LedgerParts) → has_none tt found → IfSome found (AgreesWith shard.editions (state_now shard))
    none_agrees shard None is = tt
    none_agrees shard (Some found) is = absurd (cc)

    always : (known : Option (List ℕ)) (A : Type 0) → A → IfSome known (λ _. A)
    always None A a = tt
    always (Some input) A a = a
