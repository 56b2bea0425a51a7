use Rattle.std.proofs.lemmas.Result.{err_from_is_err_and}
use Rattle.pay_close.proofs.ClosedBy.{close_posted, close_refused}
use Rattle.pay_close.proofs.ledger_till.close.Goals as goal

pub returns-in_err-given-clause-closed : goal.returns-in_err-given-clause-closed
returns-in_err-given-clause-closed g c =
    let p = err_from_is_err_and c.from_residual-in_err-given.result c.from_residual-in_err-given.ensures.1 in
    let e = c.in_err-given.ensures in
    close_refused _ _ _ c.args.day _ _ _ _ _ c.in_ok-gathered.gathered c.in_ok-gathered.ensures.asked _ _ c.quotes.ensures c.sets.ensures e.survives _ _ _ p.1 p.2 e.refused e.of_open e.unchanged

pub returns-clause-closed : goal.returns-clause-closed
returns-clause-closed g c =
    let e = c.in_ok-given.ensures in
    close_posted _ _ _ c.args.day _ _ _ _ _ c.in_ok-gathered.gathered c.in_ok-gathered.ensures.asked _ _ c.quotes.ensures c.sets.ensures e.survives c.in_ok-given.given.items _ c.from.ensures e.posts
