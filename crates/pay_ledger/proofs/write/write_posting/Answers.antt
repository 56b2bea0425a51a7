use Rattle.std.proofs.Common.{rules, ◌∙◌, ap}
use Rattle.sqlite.specs.Held.{state}
use Rattle.pay_postings.specs.PostingRows.{share_rows}
use Rattle.pay_ledger.proofs.Along.{goes, was, gone, stopped, stops, and_stopped, and_gone, others_then, store_only}
use Rattle.pay_ledger.proofs.Written.{posting_written}
use Rattle.pay_ledger.proofs.write.write_posting.Goals as goal

pub returns-clause-writes : goal.returns-clause-writes
returns-clause-writes g c clean inside =
    let first = state g.S.Store c.args.tx.now.conn.now in
    let between = state g.S.Store c.add_posting.new.tx.conn.now in
    let after = state g.S.Store c.write_shares.new.tx.conn.now in
    let added = c.in_ok-id.ensures.adds (was g.S.Store c.in_ok-write_shares.ensures.step clean) inside in
    let shared = c.in_ok-write_shares.ensures.writes clean in (
      posting_written first.now between.now after.now c.in_ok-id.id _ _ c.deref.result.now c.args.posting.now (search rules) c.posting_row.ensures (c.deref.ensures.value ∙ c.in_ok-shares.ensures ∙ ap (λ i. share_rows i c.args.posting.now) (search rules))
          added.rows shared.0,
      others_then first.now between.now after.now added.others shared.1,
    )

pub returns-in_err-id-clause-step : goal.returns-in_err-id-clause-step
returns-in_err-id-clause-step g c =
    stopped g.S.Store c.from_residual.result _ c.from_residual.ensures.1
    (stops g.S.Store c.args.tx.now.conn c.add_posting.new.tx.conn c.add_posting.ensures.same_reference c.add_posting.ensures.unchanged c.add_posting.ensures.survives)

pub returns-in_err-shares-clause-step : goal.returns-in_err-shares-clause-step
returns-in_err-shares-clause-step g c =
    gone g.S.Store c.from_residual-in_err-shares.result
    (goes g.S.Store c.args.tx.now.conn c.add_posting.new.tx.conn c.add_posting.ensures.same_reference c.add_posting.ensures.unchanged c.in_ok-id.ensures.inside c.add_posting.ensures.survives)

pub returns-in_err-write_shares-clause-step : goal.returns-in_err-write_shares-clause-step
returns-in_err-write_shares-clause-step g c =
    and_stopped g.S.Store c.from_residual-in_err-write_shares.result
    (goes g.S.Store c.args.tx.now.conn c.add_posting.new.tx.conn c.add_posting.ensures.same_reference c.add_posting.ensures.unchanged c.in_ok-id.ensures.inside c.add_posting.ensures.survives)
    _ c.from_residual-in_err-write_shares.ensures.1 c.in_err-write_shares.ensures.step

pub returns-clause-step : goal.returns-clause-step
returns-clause-step g c =
    and_gone g.S.Store _
    (goes g.S.Store c.args.tx.now.conn c.add_posting.new.tx.conn c.add_posting.ensures.same_reference c.add_posting.ensures.unchanged c.in_ok-id.ensures.inside c.add_posting.ensures.survives)
    c.in_ok-write_shares.ensures.step
