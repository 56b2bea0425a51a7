use Rattle.std.proofs.Common.{◌≡◌, subst, sym, arith, rules}
use Rattle.sqlite.specs.State.{HasCleanDisk, Survives}
use Rattle.sqlite.specs.Held.{state}
use Rattle.sqlite.proofs.StateLemmas.{survives_then}
use Rattle.sqlite.proofs.Callers.{survives_begin}
use Rattle.pay_ledger.specs.Opening.{BlankJustGrows, IsOpened, MayLeaveOpened}
use Rattle.pay_ledger.proofs.Readied.{opened_of}
use Rattle.pay_ledger.proofs.opening.prepare_tables.Goals as goal

pub returns-in_err-commit-clause-survives : goal.returns-in_err-commit-clause-survives
returns-in_err-commit-clause-survives g c =
    let old = c.args.conn.now in
    let last = c.ready.new.tx.conn.now in
    let P = MayLeaveOpened (state g.S.Store old) in
    let begun = c.transaction-tx.ensures.begun in
    let ledger = λ (clean : HasCleanDisk (state g.S.Store last)). rw begun at ((c.in_ok-ready.ensures.readied clean).ledger) in
    let blank = λ (clean : HasCleanDisk (state g.S.Store last)). rw begun at ((c.in_ok-ready.ensures.readied clean).blank) in
    let grows = λ (clean : HasCleanDisk (state g.S.Store last)). rw begun at ((c.in_ok-ready.ensures.readied clean).grows) in
    let copied = λ (clean : HasCleanDisk (state g.S.Store last)). rw begun at ((c.in_ok-ready.ensures.readied clean).copied) in
    let inside = c.in_ok-ready.ensures.step.goes_on.stays.survives in
    let whole = survives_then (state g.S.Store old) (state g.S.Store last) (state g.S.Store c.commit.new.self.0) _ _ P (λ _ db none. absurd none)
    (λ clean db is. ((state g.S.Store last).now, is, ledger (omega (arith, c.commit.ensures.survives.clean)), blank (omega (arith, c.commit.ensures.survives.clean)), grows (omega (arith, c.commit.ensures.survives.clean)), copied (omega (arith, c.commit.ensures.survives.clean))))
    (survives_begin g.S.Store old (state g.S.Store last) _ (rw begun at inside)) c.commit.ensures.survives in
    let same : c.commit.new.self.0 ≡ c.conn-2-1.given.0 = search rules in
    subst (λ h. Survives (state g.S.Store old) (state g.S.Store h) P) same whole

pub returns-clause-survives : goal.returns-clause-survives
returns-clause-survives g c =
    let old = c.args.conn.now in
    let last = c.ready.new.tx.conn.now in
    let P = MayLeaveOpened (state g.S.Store old) in
    let begun = c.transaction-tx.ensures.begun in
    let ledger = λ (clean : HasCleanDisk (state g.S.Store last)). rw begun at ((c.in_ok-ready.ensures.readied clean).ledger) in
    let blank = λ (clean : HasCleanDisk (state g.S.Store last)). rw begun at ((c.in_ok-ready.ensures.readied clean).blank) in
    let grows = λ (clean : HasCleanDisk (state g.S.Store last)). rw begun at ((c.in_ok-ready.ensures.readied clean).grows) in
    let copied = λ (clean : HasCleanDisk (state g.S.Store last)). rw begun at ((c.in_ok-ready.ensures.readied clean).copied) in
    let inside = c.in_ok-ready.ensures.step.goes_on.stays.survives in
    let whole = survives_then (state g.S.Store old) (state g.S.Store last) (state g.S.Store c.commit.new.self.0) _ _ P (λ _ db none. absurd none)
    (λ clean db is. ((state g.S.Store last).now, is, ledger (omega (arith, c.commit.ensures.survives.clean)), blank (omega (arith, c.commit.ensures.survives.clean)), grows (omega (arith, c.commit.ensures.survives.clean)), copied (omega (arith, c.commit.ensures.survives.clean))))
    (survives_begin g.S.Store old (state g.S.Store last) _ (rw begun at inside)) c.commit.ensures.survives in
    let same : c.commit.new.self.0 ≡ c.conn-2-1.given.0 = search rules in
    subst (λ h. Survives (state g.S.Store old) (state g.S.Store h) P) same whole

pub returns-clause-grows : goal.returns-clause-grows
returns-clause-grows g c =
    let old = c.args.conn.now in
    let last = c.ready.new.tx.conn.now in
    let begun = c.transaction-tx.ensures.begun in
    let grows = λ (clean : HasCleanDisk (state g.S.Store last)). rw begun at ((c.in_ok-ready.ensures.readied clean).grows) in
    let whole : HasCleanDisk (state g.S.Store c.commit.new.self.0) → BlankJustGrows (state g.S.Store old).now (state g.S.Store c.commit.new.self.0).now = λ clean.
    let done = c.in_ok-commit.ensures.ok clean in
    subst (BlankJustGrows (state g.S.Store old).now) (sym done.1.now_is) (grows (omega (arith, clean, c.commit.ensures.survives.clean))) in
    let same : c.commit.new.self.0 ≡ c.conn-2-1.given.0 = search rules in
    subst (λ h. HasCleanDisk (state g.S.Store h) → BlankJustGrows (state g.S.Store old).now (state g.S.Store h).now) same whole

pub returns-clause-opened : goal.returns-clause-opened
returns-clause-opened g c =
    let old = c.args.conn.now in
    let last = c.ready.new.tx.conn.now in
    let begun = c.transaction-tx.ensures.begun in
    let readied = λ (clean : HasCleanDisk (state g.S.Store last)). rw begun at (c.in_ok-ready.ensures.readied clean) in
    let whole : HasCleanDisk (state g.S.Store c.commit.new.self.0) → IsOpened (state g.S.Store old) (state g.S.Store c.commit.new.self.0) = λ clean.
    opened_of (state g.S.Store old) (state g.S.Store last) (state g.S.Store c.commit.new.self.0) (readied (omega (arith, clean, c.commit.ensures.survives.clean))) (c.in_ok-commit.ensures.ok clean).1 in
    let same : c.commit.new.self.0 ≡ c.conn-2-1.given.0 = search rules in
    subst (λ h. HasCleanDisk (state g.S.Store h) → IsOpened (state g.S.Store old) (state g.S.Store h)) same whole
