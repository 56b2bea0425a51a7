use Rattle.std.proofs.Common.{◌≡◌, ◌⊎◌, IsTrue, None, rules, sym, ap₂, ◌∙◌}
use Rattle.sqlite.specs.Held.{state}
use Rattle.pay_postings.specs.PostingRows.{postings_from_rows}
use Rattle.pay_records.specs.Words.{LedgerRows, HoldsRows}
use Rattle.pay_rules.specs.declared.post_fault.PostFault.TheVariants.{BadArchive}
use Rattle.pay_ledger.specs.declared.fault.LedgerFault.TheVariants.{Refused}
use Rattle.pay_ledger.specs.Faults.{is_of_store}
use Rattle.pay_ledger.specs.BadRows.{ReadsAs}
use Rattle.pay_ledger.proofs.Along.{goes_by_read, stops, was, stopped, and_stopped, and_gone}
use Rattle.pay_ledger.proofs.Readable.{rows_read, bad_or_memory, by_fault, by_read}
use Rattle.pay_ledger.proofs.read.read_posted.Goals as goal

pub returns-in_err-rows-clause-step : goal.returns-in_err-rows-clause-step
returns-in_err-rows-clause-step g c =
    stopped g.S.Store c.from_residual.result _ c.from_residual.ensures.1
    (stops g.S.Store c.args.tx.now.conn c.postings_of.new.tx.conn c.postings_of.ensures.same_reference c.postings_of.ensures.unchanged c.postings_of.ensures.survives)

pub returns-in_err-shares-clause-step : goal.returns-in_err-shares-clause-step
returns-in_err-shares-clause-step g c =
    and_stopped g.S.Store c.from_residual-in_err-shares.result
    (goes_by_read g.S.Store c.args.tx.now.conn c.postings_of.new.tx.conn c.postings_of.ensures.same_reference c.postings_of.ensures.unchanged c.in_ok-rows.ensures.inside c.postings_of.ensures.survives)
    _ c.from_residual-in_err-shares.ensures.1
    (stops g.S.Store c.postings_of.new.tx.conn c.shares_of.new.tx.conn c.shares_of.ensures.same_reference c.shares_of.ensures.unchanged c.shares_of.ensures.survives)

pub returns-in_err-postings_from_rows-clause-step : goal.returns-in_err-postings_from_rows-clause-step
returns-in_err-postings_from_rows-clause-step g c =
    and_gone g.S.Store c.from_residual-in_err-postings_from_rows.result
    (goes_by_read g.S.Store c.args.tx.now.conn c.postings_of.new.tx.conn c.postings_of.ensures.same_reference c.postings_of.ensures.unchanged c.in_ok-rows.ensures.inside c.postings_of.ensures.survives)
    (goes_by_read g.S.Store c.postings_of.new.tx.conn c.shares_of.new.tx.conn c.shares_of.ensures.same_reference c.shares_of.ensures.unchanged c.in_ok-shares.ensures.inside c.shares_of.ensures.survives)

pub returns-clause-step : goal.returns-clause-step
returns-clause-step g c =
    and_gone g.S.Store _
    (goes_by_read g.S.Store c.args.tx.now.conn c.postings_of.new.tx.conn c.postings_of.ensures.same_reference c.postings_of.ensures.unchanged c.in_ok-rows.ensures.inside c.postings_of.ensures.survives)
    (goes_by_read g.S.Store c.postings_of.new.tx.conn c.shares_of.new.tx.conn c.shares_of.ensures.same_reference c.shares_of.ensures.unchanged c.in_ok-shares.ensures.inside c.shares_of.ensures.survives)

pub returns-in_err-shares-clause-bad : goal.returns-in_err-shares-clause-bad
returns-in_err-shares-clause-bad g c clean =
    let first = state g.S.Store c.args.tx.now.conn.now in
    let between = state g.S.Store c.postings_of.new.tx.conn.now in
    let before = was g.S.Store (stops g.S.Store c.postings_of.new.tx.conn c.shares_of.new.tx.conn c.shares_of.ensures.same_reference c.shares_of.ensures.unchanged c.shares_of.ensures.survives) clean in
    by_read c.from_residual-in_err-shares.result (λ rows. ReadsAs rows c.args.account None) c.in_err-shares.field-0.0 c.from_residual-in_err-shares.ensures.1 first.now between.now
    (λ rows k. (c.in_ok-rows.ensures.found before rows k).1.0.now_is) (λ bad. c.in_err-shares.ensures.never_bad clean (search rules))

pub returns-clause-found : goal.returns-clause-found
returns-clause-found g c clean =
    let first = state g.S.Store c.args.tx.now.conn.now in
    let between = state g.S.Store c.postings_of.new.tx.conn.now in
    let last = state g.S.Store c.shares_of.new.tx.conn.now in
    let before = was g.S.Store (goes_by_read g.S.Store c.postings_of.new.tx.conn c.shares_of.new.tx.conn c.shares_of.ensures.same_reference c.shares_of.ensures.unchanged c.in_ok-shares.ensures.inside c.shares_of.ensures.survives) clean in
    let as_given = ap₂ (λ l s. postings_from_rows c.args.account l s) c.deref.ensures.value c.deref-2.ensures.value in
    rows_read first between last c.args.account _ _ _ _ _ (search rules) (search rules) (c.in_ok-rows.ensures.found before) (c.in_ok-shares.ensures.found clean) (sym as_given ∙ c.in_ok-postings_from_rows.ensures)

pub returns-in_err-postings_from_rows-clause-bad : goal.returns-in_err-postings_from_rows-clause-bad
returns-in_err-postings_from_rows-clause-bad g c clean =
    let first = state g.S.Store c.args.tx.now.conn.now in
    let between = state g.S.Store c.postings_of.new.tx.conn.now in
    let last = state g.S.Store c.shares_of.new.tx.conn.now in
    let before = was g.S.Store (goes_by_read g.S.Store c.postings_of.new.tx.conn c.shares_of.new.tx.conn c.shares_of.ensures.same_reference c.shares_of.ensures.unchanged c.in_ok-shares.ensures.inside c.shares_of.ensures.survives) clean in
    let fault = c.in_err-postings_from_rows.field-0.0 in
    let as_given = ap₂ (λ l s. postings_from_rows c.args.account l s) c.deref.ensures.value c.deref-2.ensures.value in
    by_fault c.from_residual-in_err-postings_from_rows.result (λ f. (rows : LedgerRows) → HoldsRows first.now rows → IsTrue (is_of_store f) ⊎ ((f ≡ Refused BadArchive) × ReadsAs rows c.args.account None)) (Refused fault) c.from_residual-in_err-postings_from_rows.ensures.1
    (λ rows k. bad_or_memory fault (ReadsAs rows c.args.account None) (λ other.
    let it = c.in_err-postings_from_rows.ensures other in
    (it.0, (rows_read first between last c.args.account _ _ _ _ None (search rules) (search rules) (c.in_ok-rows.ensures.found before) (c.in_ok-shares.ensures.found clean) (sym as_given ∙ it.1) rows k).0)))
