use Rattle.std.proofs.Common.{refl}
use Rattle.std.proofs.lemmas.Result.{err_from_is_err_and}
use Rattle.sqlite.specs.Held.{state}
use Rattle.pay_close.proofs.Counted.{count_refused, count_told}
use Rattle.pay_close.proofs.open_accounts.count_open.Goals as goal

pub returns-in_err-count-clause-counted : goal.returns-in_err-count-clause-counted
returns-in_err-count-clause-counted g c =
    let p = err_from_is_err_and c.from_residual-in_err-count.result c.from_residual-in_err-count.ensures.1 in
    count_refused _ _ _ (state g.S.Store c.args.ledger.now) (state g.S.Store c.count.new.ledger) c.args.day _ _ _ c.in_ok-gathered.gathered c.in_ok-gathered.ensures.asked _ c.quotes.ensures _ _ _ p.1 p.2 c.in_err-count.ensures.refused

pub returns-clause-counted : goal.returns-clause-counted
returns-clause-counted g c =
    count_told _ _ _ (state g.S.Store c.args.ledger.now) (state g.S.Store c.count.new.ledger) c.args.day _ _ _ c.in_ok-gathered.gathered c.in_ok-gathered.ensures.asked _ c.quotes.ensures _ _ refl c.in_ok-count.ensures.told
