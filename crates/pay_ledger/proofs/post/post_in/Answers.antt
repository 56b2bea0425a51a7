use Rattle.std.proofs.Common.{IfOk, ap}
use Rattle.sqlite.specs.Effect.{Database}
use Rattle.sqlite.specs.Held.{state}
use Rattle.pay_ledger.specs.Faults.{is_of_store}
use Rattle.pay_ledger.specs.Steps.{BecomesPosted}
use Rattle.pay_ledger.proofs.Along.{was, stopped, and_so}
use Rattle.pay_ledger.proofs.Asked.{so_inside, refuses_open}
use Rattle.pay_ledger.proofs.Readable.{judged_by_store, judged_since}
use Rattle.pay_ledger.proofs.post.post_in.Goals as goal

pub returns-in_err-ask-clause-step : goal.returns-in_err-ask-clause-step
returns-in_err-ask-clause-step g c = stopped g.S.Store c.from_residual.result _ c.from_residual.ensures.1 c.in_err-ask.ensures.step

pub returns-in_err-ask-clause-judged : goal.returns-in_err-ask-clause-judged
returns-in_err-ask-clause-judged g c =
    judged_by_store g.S.Store c.from_residual.result c.args.quotes.now c.args.sets.now c.in_err-ask.field-0.0 c.from_residual.ensures.1
    c.args.tx.now.conn.now c.ask.new.tx.conn.now (ap is_of_store c.in_err-ask.ensures.store)

pub returns-clause-step : goal.returns-clause-step
returns-clause-step g c = and_so g.S.Store c.add_batch.result c.in_ok-ask.ensures.step c.add_batch.ensures.step

pub returns-clause-posts : goal.returns-clause-posts
returns-clause-posts g c =
    let a = state g.S.Store c.args.tx.now.conn.now in
    let b = state g.S.Store c.ask.new.tx.conn.now in
    let d = state g.S.Store c.add_batch.new.tx.conn.now in
    so_inside a b d c.in_ok-ask.ensures.same (was g.S.Store c.add_batch.ensures.step)
    (λ (db : Database). IfOk c.add_batch.result (λ given. BecomesPosted db d.now (c.args.quotes.now, c.args.sets.now) given.items)) c.add_batch.ensures.posts

pub returns-clause-judged : goal.returns-clause-judged
returns-clause-judged g c =
    judged_since g.S.Store c.add_batch.result c.args.quotes.now c.args.sets.now c.args.tx.now.conn.now c.ask.new.tx.conn.now c.add_batch.new.tx.conn.now
    (λ clean. (c.in_ok-ask.ensures.same (was g.S.Store c.add_batch.ensures.step clean)).0.now_is) c.add_batch.ensures.judged

pub returns-clause-of_open : goal.returns-clause-of_open
returns-clause-of_open g c =
    refuses_open (state g.S.Store c.args.tx.now.conn.now) (state g.S.Store c.ask.new.tx.conn.now) (state g.S.Store c.add_batch.new.tx.conn.now)
    c.in_ok-ask.ensures.same (was g.S.Store c.add_batch.ensures.step) c.add_batch.result
