use Rattle.sqlite.specs.Held.{state}
use Rattle.pay_postings.specs.Words.{lists, with_batch}
use Rattle.pay_ledger.proofs.Along.{was, stopped, and_stopped, and_gone}
use Rattle.pay_ledger.proofs.Batched.{posted_ledger}
use Rattle.pay_ledger.proofs.Readable.{judged_so, judged_by_store}
use Rattle.pay_ledger.proofs.post.add_batch.Goals as goal

pub returns-in_err-batch-clause-step : goal.returns-in_err-batch-clause-step
returns-in_err-batch-clause-step g c = stopped g.S.Store c.from_residual.result _ c.from_residual.ensures.1 c.in_err-batch.ensures.step

pub returns-in_err-id-clause-step : goal.returns-in_err-id-clause-step
returns-in_err-id-clause-step g c =
    and_stopped g.S.Store c.from_residual-in_err-id.result c.in_ok-batch.ensures.step _ c.from_residual-in_err-id.ensures.1 c.in_err-id.ensures.step

pub returns-clause-step : goal.returns-clause-step
returns-clause-step g c = and_gone g.S.Store _ c.in_ok-batch.ensures.step c.in_ok-id.ensures.step

pub returns-in_err-batch-clause-judged : goal.returns-in_err-batch-clause-judged
returns-in_err-batch-clause-judged g c =
    judged_so g.S.Store c.from_residual.result c.args.quotes.now c.args.sets.now c.in_err-batch.field-0.0 c.from_residual.ensures.1
    c.args.tx.now.conn.now c.batch_for.new.tx.conn.now c.in_err-batch.ensures.judged

pub returns-in_err-id-clause-judged : goal.returns-in_err-id-clause-judged
returns-in_err-id-clause-judged g c =
    judged_by_store g.S.Store c.from_residual-in_err-id.result c.args.quotes.now c.args.sets.now c.in_err-id.field-0.0 c.from_residual-in_err-id.ensures.1
    c.args.tx.now.conn.now c.write_batch.new.tx.conn.now c.in_err-id.ensures.of_store

pub returns-clause-judged : goal.returns-clause-judged
returns-clause-judged g c = record {
  refused = λ clean. tt;
  read = λ clean. c.in_ok-batch.ensures.judged.read (was g.S.Store c.in_ok-id.ensures.step clean);
  bad_first = λ clean. tt;
}

pub returns-clause-posts : goal.returns-clause-posts
returns-clause-posts g c clean inside =
    let a = state g.S.Store c.args.tx.now.conn.now in
    let b = state g.S.Store c.batch_for.new.tx.conn.now in
    let d = state g.S.Store c.write_batch.new.tx.conn.now in
    let between = was g.S.Store c.in_ok-id.ensures.step clean in
    posted_ledger c.paid.ensures.all a b d c.args.quotes.now c.args.sets.now _ (λ ledger. with_batch ledger (lists c.in_ok-batch.batch)) c.are_quotes.ensures (c.in_ok-batch.ensures.posts between)
    (c.in_ok-id.ensures.writes clean (c.in_ok-batch.ensures.step.goes_on.inside between inside))
