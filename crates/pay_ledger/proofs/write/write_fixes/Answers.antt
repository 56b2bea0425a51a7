use Rattle.std.proofs.Common.{◌++◌, ◌∷◌, [], take, rules, sym, ap, subst, append-nil, ◌∙◌}
use Rattle.sqlite.specs.Held.{state}
use Rattle.pay_ledger.specs.Stores.{Stores}
use Rattle.pay_ledger.proofs.Along.{not_begun, goes, stops, was, gone, and_on, and_stopped, one_more, others_same, others_then}
use Rattle.pay_ledger.proofs.Written.{fix_written}
use Rattle.pay_ledger.proofs.write.write_fixes.Goals as goal

pub returns-in_err-add_fix-clause-step : goal.returns-in_err-add_fix-clause-step
returns-in_err-add_fix-clause-step g c =
    and_stopped g.S.Store c.from_residual.result c.loop-fix.invariant.0 _ c.from_residual.ensures.1
    (stops g.S.Store c.loop-fix.tx.conn c.add_fix.new.tx.conn c.add_fix.ensures.same_reference (λ clean inside. c.add_fix.ensures.unchanged clean) c.add_fix.ensures.survives)

pub returns-clause-step : goal.returns-clause-step
returns-clause-step g c = gone g.S.Store _ c.loop-fix.invariant.0

pub loop-fix-preserved : goal.loop-fix-preserved
loop-fix-preserved g c =
    let first = state g.S.Store c.args.tx.now.conn.now in
    let before = state g.S.Store c.loop-fix.tx.conn.now in
    let after = state g.S.Store c.add_fix.new.tx.conn.now in
    let step = goes g.S.Store c.loop-fix.tx.conn c.add_fix.new.tx.conn c.add_fix.ensures.same_reference (λ clean inside. c.add_fix.ensures.unchanged clean) c.in_ok-add_fix.ensures.inside c.add_fix.ensures.survives in (
      and_on g.S.Store c.loop-fix.invariant.0 step,
      λ clean inside.
          let grown = c.loop-fix.invariant.1 (was g.S.Store step clean) inside in
          let added = c.in_ok-add_fix.ensures.adds clean in
          let more = fix_written before.now after.now c.fix-item.result _ _ (search rules) c.fix_row.ensures added.rows in
          (λ ledger unchanged. subst (λ s. Stores after.now (record ledger { fixes = s })) (ap (λ x. (ledger.fixes ++ take c.loop-fix.fix-index c.args.fixes.now) ++ x ∷ []) (search rules) ∙ one_more ledger.fixes c.args.fixes.now c.loop-fix.fix-index c.fix-item.result c.loop-fix-test.true) (more _ (grown.0 ledger unchanged)), others_then first.now before.now after.now grown.1 added.others),
    )

pub loop-fix-init : goal.loop-fix-init
loop-fix-init g c =
    let first = state g.S.Store c.args.tx.now.conn.now in
    (not_begun g.S.Store c.args.tx.now.conn, λ clean inside. (λ ledger unchanged. subst (λ s. Stores first.now (record ledger { fixes = s })) (sym (append-nil ledger.fixes)) unchanged, others_same first.now))
