use Rattle.std.proofs.Common.{◌++◌, ◌∷◌, [], take, rules, sym, ap, subst, append-nil, ◌∙◌}
use Rattle.sqlite.specs.Held.{state}
use Rattle.pay_ledger.specs.Stores.{Stores}
use Rattle.pay_ledger.proofs.Along.{not_begun, goes, stops, was, gone, and_on, and_stopped, one_more, others_same, others_then}
use Rattle.pay_ledger.proofs.Written.{tap_written}
use Rattle.pay_ledger.proofs.write.write_taps.Goals as goal

pub returns-in_err-add_tap-clause-step : goal.returns-in_err-add_tap-clause-step
returns-in_err-add_tap-clause-step g c =
    and_stopped g.S.Store c.from_residual.result c.loop-tap.invariant.0 _ c.from_residual.ensures.1
    (stops g.S.Store c.loop-tap.tx.conn c.add_tap.new.tx.conn c.add_tap.ensures.same_reference (λ clean inside. c.add_tap.ensures.unchanged clean) c.add_tap.ensures.survives)

pub returns-clause-step : goal.returns-clause-step
returns-clause-step g c = gone g.S.Store _ c.loop-tap.invariant.0

pub loop-tap-preserved : goal.loop-tap-preserved
loop-tap-preserved g c =
    let first = state g.S.Store c.args.tx.now.conn.now in
    let before = state g.S.Store c.loop-tap.tx.conn.now in
    let after = state g.S.Store c.add_tap.new.tx.conn.now in
    let step = goes g.S.Store c.loop-tap.tx.conn c.add_tap.new.tx.conn c.add_tap.ensures.same_reference (λ clean inside. c.add_tap.ensures.unchanged clean) c.in_ok-add_tap.ensures.inside c.add_tap.ensures.survives in (
      and_on g.S.Store c.loop-tap.invariant.0 step,
      λ clean inside.
          let grown = c.loop-tap.invariant.1 (was g.S.Store step clean) inside in
          let added = c.in_ok-add_tap.ensures.adds clean in
          let more = tap_written before.now after.now c.tap-item.result _ _ (search rules) c.tap_row.ensures added.rows in
          (λ ledger unchanged. subst (λ s. Stores after.now (record ledger { taps = s })) (ap (λ x. (ledger.taps ++ take c.loop-tap.tap-index c.args.taps.now) ++ x ∷ []) (search rules) ∙ one_more ledger.taps c.args.taps.now c.loop-tap.tap-index c.tap-item.result c.loop-tap-test.true) (more _ (grown.0 ledger unchanged)), others_then first.now before.now after.now grown.1 added.others),
    )

pub loop-tap-init : goal.loop-tap-init
loop-tap-init g c =
    let first = state g.S.Store c.args.tx.now.conn.now in
    (not_begun g.S.Store c.args.tx.now.conn, λ clean inside. (λ ledger unchanged. subst (λ s. Stores first.now (record ledger { taps = s })) (sym (append-nil ledger.taps)) unchanged, others_same first.now))
