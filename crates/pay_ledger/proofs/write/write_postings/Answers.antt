use Rattle.std.proofs.Common.{Ok, ◌++◌, ◌∷◌, [], take, rules, sym, ap, subst, append-nil, ◌∙◌}
use Rattle.sqlite.specs.Held.{state}
use Rattle.pay_ledger.specs.Stores.{Stores}
use Rattle.pay_ledger.proofs.Along.{not_begun, was, gone, and_on, and_stopped, one_more, others_same, others_then}
use Rattle.pay_ledger.proofs.write.write_postings.Goals as goal

pub returns-in_err-write_posting-clause-step : goal.returns-in_err-write_posting-clause-step
returns-in_err-write_posting-clause-step g c = and_stopped g.S.Store c.from_residual.result c.loop-posting.invariant.0 _ c.from_residual.ensures.1 c.in_err-write_posting.ensures.step

pub returns-clause-step : goal.returns-clause-step
returns-clause-step g c = gone g.S.Store _ c.loop-posting.invariant.0

pub loop-posting-preserved : goal.loop-posting-preserved
loop-posting-preserved g c =
    let first = state g.S.Store c.args.tx.now.conn.now in
    let before = state g.S.Store c.loop-posting.tx.conn.now in
    let after = state g.S.Store c.write_posting.new.tx.conn.now in
    let step = c.in_ok-write_posting.ensures.step in (
      and_on g.S.Store c.loop-posting.invariant.0 step,
      λ clean inside.
          let was_clean = was g.S.Store {r = Ok c.in_ok-write_posting.field-0} step clean in
          let grown = c.loop-posting.invariant.1 was_clean inside in
          let more = c.in_ok-write_posting.ensures.writes clean (c.loop-posting.invariant.0.goes_on.inside was_clean inside) in
          (λ ledger unchanged. subst (λ s. Stores after.now (record ledger { postings = s })) (ap (λ x. (ledger.postings ++ take c.loop-posting.posting-index c.args.postings.now) ++ x ∷ []) (search rules) ∙ one_more ledger.postings c.args.postings.now c.loop-posting.posting-index c.posting-item.result c.loop-posting-test.true) (more.0 _ (grown.0 ledger unchanged)), others_then first.now before.now after.now grown.1 more.1),
    )

pub loop-posting-init : goal.loop-posting-init
loop-posting-init g c =
    let first = state g.S.Store c.args.tx.now.conn.now in
    (not_begun g.S.Store c.args.tx.now.conn, λ clean inside. (λ ledger unchanged. subst (λ s. Stores first.now (record ledger { postings = s })) (sym (append-nil ledger.postings)) unchanged, others_same first.now))
