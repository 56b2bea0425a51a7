use Rattle.std.proofs.Common.{sym, subst, append-nil}
use Rattle.sqlite.specs.Held.{state}
use Rattle.pay_records.specs.Words.{HoldsRows}
use Rattle.pay_ledger.proofs.Along.{not_begun, goes, stops, was, gone, and_on, and_stopped, one_more, others_same, others_then}
use Rattle.pay_ledger.proofs.write.write_shares.Goals as goal

pub returns-in_err-add_share-clause-step : goal.returns-in_err-add_share-clause-step
returns-in_err-add_share-clause-step g c =
    and_stopped g.S.Store c.from_residual.result c.loop-share.invariant.0 _ c.from_residual.ensures.1
    (stops g.S.Store c.loop-share.tx.conn c.add_share.new.tx.conn c.add_share.ensures.same_reference (λ clean inside. c.add_share.ensures.unchanged clean) c.add_share.ensures.survives)

pub returns-clause-step : goal.returns-clause-step
returns-clause-step g c = gone g.S.Store _ c.loop-share.invariant.0

pub loop-share-preserved : goal.loop-share-preserved
loop-share-preserved g c =
    let first = state g.S.Store c.args.tx.now.conn.now in
    let before = state g.S.Store c.loop-share.tx.conn.now in
    let after = state g.S.Store c.add_share.new.tx.conn.now in
    let step = goes g.S.Store c.loop-share.tx.conn c.add_share.new.tx.conn c.add_share.ensures.same_reference (λ clean inside. c.add_share.ensures.unchanged clean) c.in_ok-add_share.ensures.inside c.add_share.ensures.survives in (
      and_on g.S.Store c.loop-share.invariant.0 step,
      λ clean.
          let grown = c.loop-share.invariant.1 (was g.S.Store step clean) in
          let added = c.in_ok-add_share.ensures.adds clean in
          (λ rows held. subst (λ s. HoldsRows after.now (record rows { shares = s })) (one_more rows.shares c.args.shares.now c.loop-share.share-index _ c.loop-share-test.true) (added.rows _ (grown.0 rows held)), others_then first.now before.now after.now grown.1 added.others),
    )

pub loop-share-init : goal.loop-share-init
loop-share-init g c =
    let first = state g.S.Store c.args.tx.now.conn.now in
    (not_begun g.S.Store c.args.tx.now.conn, λ clean. (λ rows held. subst (λ s. HoldsRows first.now (record rows { shares = s })) (sym (append-nil rows.shares)) held, others_same first.now))
