use Rattle.std.proofs.Common.{Ok, Err, ◌⊎◌, IsTrue, rules, sym, subst}
use Rattle.sqlite.specs.Held.{state}
use Rattle.pay_rules.specs.SetsParts.{SetsParts}
use Rattle.pay_postings.specs.Words.{IsThere}
use Rattle.pay_records.specs.Words.{LedgerRows, HoldsRows}
use Rattle.pay_ledger.specs.Faults.{is_of_store}
use Rattle.pay_ledger.specs.BadRows.{in_sets, IsBadAmong}
use Rattle.pay_ledger.proofs.Along.{not_begun, was, gone, and_on, and_stopped}
use Rattle.pay_ledger.proofs.Gathered.{reads_none, reads_then, all_there}
use Rattle.pay_ledger.proofs.Readable.{by_fault, one_is_bad}
use Rattle.pay_ledger.proofs.read.read_sets.Goals as goal

pub returns-in_err-read_into-clause-step : goal.returns-in_err-read_into-clause-step
returns-in_err-read_into-clause-step g c = and_stopped g.S.Store c.from_residual.result c.loop-set.invariant.0 _ c.from_residual.ensures.1 c.in_err-read_into.ensures.step

pub returns-clause-step : goal.returns-clause-step
returns-clause-step g c = gone g.S.Store _ c.loop-set.invariant.0

pub loop-set-init : goal.loop-set-init
loop-set-init g c = (not_begun g.S.Store c.args.tx.now.conn, reads_none (state g.S.Store c.args.tx.now.conn.now) c.args.accounts.now, tt)

pub loop-set-preserved : goal.loop-set-preserved
loop-set-preserved g c =
    let first = state g.S.Store c.args.tx.now.conn.now in
    let before = state g.S.Store c.loop-set.tx.conn.now in
    let after = state g.S.Store c.read_into.new.tx.conn.now in
    let step = c.in_ok-read_into.ensures.step in
    let read = c.in_ok-read_into.ensures.read in (
      and_on g.S.Store c.loop-set.invariant.0 step,
      reads_then first before after _ _ _ (was g.S.Store {r = Ok tt} step) c.loop-set.invariant.1 read,
      all_there (λ (x : SetsParts). x.account) _ _ c.args.sets.now c.loop-set.set-index c.set-item.result c.loop-set-test.true read.stay c.loop-set.invariant.2
          (subst (IsThere c.read_into.new.accounts) (search rules) c.in_ok-read_into.ensures.there),
    )

pub returns-in_err-read_into-clause-bad : goal.returns-in_err-read_into-clause-bad
returns-in_err-read_into-clause-bad g c clean =
    let first = state g.S.Store c.args.tx.now.conn.now in
    let fault = c.in_err-read_into.field-0.0 in
    let was_clean = was g.S.Store {r = Err fault} c.in_err-read_into.ensures.step clean in
    by_fault c.from_residual.result (λ f. (rows : LedgerRows) → HoldsRows first.now rows → IsTrue (is_of_store f) ⊎ IsBadAmong rows (in_sets c.args.sets.now) f) fault c.from_residual.ensures.1
    (λ rows k. one_is_bad (λ (x : SetsParts). x.account) c.args.sets.now c.loop-set.set-index c.set-item.result c.account.result rows fault c.loop-set-test.true (search rules)
    (c.in_err-read_into.ensures.bad clean rows (subst (λ db. HoldsRows db rows) (sym (c.loop-set.invariant.1.rows was_clean rows k).1) k)))
