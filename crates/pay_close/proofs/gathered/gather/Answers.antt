use Rattle.std.proofs.lemmas.Result.{err_from_is_err_and}
use Rattle.pay_close.proofs.Gathering.{sorted_want}
use Rattle.pay_close.proofs.gathered.gather.Goals as goal

pub returns-in_err-sort-clause-asked : goal.returns-in_err-sort-clause-asked
returns-in_err-sort-clause-asked g c =
    let p = err_from_is_err_and c.from_residual-in_err-sort.result c.from_residual-in_err-sort.ensures.1 in
    sorted_want g.D.Desk.parts _ c.args.day _ _ _ c.in_ok-all.all _ _ p.1 p.2 c.ask_all.ensures.some c.in_ok-all.ensures.asked
