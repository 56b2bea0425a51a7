use Rattle.std.proofs.Common.{◌≡◌, Ok, refl, ap, subst, arith, rules}
use Rattle.sqlite.specs.State.{HasCleanDisk, Survives}
use Rattle.sqlite.specs.Held.{state}
use Rattle.sqlite.proofs.StateLemmas.{survives_then}
use Rattle.sqlite.proofs.Callers.{survives_begin}
use Rattle.pay_ledger.specs.declared.fault.LedgerFault.TheVariants.{Store}
use Rattle.pay_ledger.specs.Steps.{MayLeave}
use Rattle.pay_ledger.specs.Calls.{IsJudged}
use Rattle.pay_ledger.proofs.Readable.{judged_by_store, judged_between, judged_done}
use Rattle.pay_ledger.proofs.post.post.Goals as goal

pub returns-in_err-commit-clause-survives : goal.returns-in_err-commit-clause-survives
returns-in_err-commit-clause-survives g c =
    let old = c.args.conn.now in
    let last = c.post_in.new.tx.conn.now in
    let P = MayLeave (state g.S.Store old) c.args.quotes.now c.args.sets.now in
    let begun = c.transaction-tx.ensures.begun in
    let posts = λ (clean : HasCleanDisk (state g.S.Store last)). rw begun at (c.in_ok-given.ensures.posts clean (rw begun)) in
    let inside = c.in_ok-given.ensures.step.goes_on.stays.survives in
    let whole = survives_then (state g.S.Store old) (state g.S.Store last) (state g.S.Store c.commit.new.self.0) _ _ P (λ _ db none. absurd none)
    (λ clean db is. ((state g.S.Store last).now, is, λ ledger k. let it = posts (omega (arith, c.commit.ensures.survives.clean)) ledger k in ((c.in_ok-given.given.items, it.0), it.1, it.2, it.3)))
    (survives_begin g.S.Store old (state g.S.Store last) _ (rw begun at inside)) c.commit.ensures.survives in
    let same : c.commit.new.self.0 ≡ c.conn-2-1.given.0 = search rules in
    subst (λ h. Survives (state g.S.Store old) (state g.S.Store h) P) same whole

pub returns-clause-survives : goal.returns-clause-survives
returns-clause-survives g c =
    let old = c.args.conn.now in
    let last = c.post_in.new.tx.conn.now in
    let P = MayLeave (state g.S.Store old) c.args.quotes.now c.args.sets.now in
    let begun = c.transaction-tx.ensures.begun in
    let posts = λ (clean : HasCleanDisk (state g.S.Store last)). rw begun at (c.in_ok-given.ensures.posts clean (rw begun)) in
    let inside = c.in_ok-given.ensures.step.goes_on.stays.survives in
    let whole = survives_then (state g.S.Store old) (state g.S.Store last) (state g.S.Store c.commit.new.self.0) _ _ P (λ _ db none. absurd none)
    (λ clean db is. ((state g.S.Store last).now, is, λ ledger k. let it = posts (omega (arith, c.commit.ensures.survives.clean)) ledger k in ((c.in_ok-given.given.items, it.0), it.1, it.2, it.3)))
    (survives_begin g.S.Store old (state g.S.Store last) _ (rw begun at inside)) c.commit.ensures.survives in
    let same : c.commit.new.self.0 ≡ c.conn-2-1.given.0 = search rules in
    subst (λ h. Survives (state g.S.Store old) (state g.S.Store h) P) same whole

pub returns-in_err-given-clause-judged : goal.returns-in_err-given-clause-judged
returns-in_err-given-clause-judged g c =
    let last = c.drop-tx.new.self.0 in
    let whole : IsJudged g.S.Store c.args.conn.now last c.from_residual.result c.args.quotes.now c.args.sets.now =
    judged_between g.S.Store c.from_residual.result c.args.quotes.now c.args.sets.now c.in_err-given.field-0.0 c.from_residual.ensures.1 _ _ c.args.conn.now last (λ clean. let less = c.drop-tx.ensures.survives.clean in omega (arith, less, clean))
    (ap (λ h. (state g.S.Store h).now) c.transaction-tx.ensures.begun) c.in_err-given.ensures.judged in
    subst (λ h. IsJudged g.S.Store c.args.conn.now h c.from_residual.result c.args.quotes.now c.args.sets.now) (search rules) whole

pub returns-in_err-commit-clause-judged : goal.returns-in_err-commit-clause-judged
returns-in_err-commit-clause-judged g c = judged_by_store g.S.Store c.from_residual-in_err-commit.result c.args.quotes.now c.args.sets.now Store c.from_residual-in_err-commit.ensures.1 c.args.conn.now _ refl

pub returns-clause-judged : goal.returns-clause-judged
returns-clause-judged g c =
    let last = c.commit.new.self.0 in
    let whole : IsJudged g.S.Store c.args.conn.now last (Ok c.in_ok-given.given) c.args.quotes.now c.args.sets.now =
    judged_done g.S.Store c.in_ok-given.given c.args.quotes.now c.args.sets.now _ _ c.args.conn.now last (λ clean. let less = c.commit.ensures.survives.clean in omega (arith, less, clean))
    (ap (λ h. (state g.S.Store h).now) c.transaction-tx.ensures.begun) c.in_ok-given.ensures.judged in
    subst (λ h. IsJudged g.S.Store c.args.conn.now h (Ok c.in_ok-given.given) c.args.quotes.now c.args.sets.now) (search rules) whole
