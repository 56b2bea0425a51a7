use Rattle.std.proofs.Common.{take, ◌≤◌}
use Rattle.sqlite.specs.Held.{state}
use Rattle.pay_close.proofs.Counted.{HasCounted}
use Rattle.pay_close.proofs.open_accounts.count.Given as goal

abbrev pub invariant-loop-quote : goal.invariant-loop-quote
invariant-loop-quote g l = HasCounted (state g.S.Store l.fn.ledger) (state g.S.Store l.ledger) (take l.quote-index l.quotes) l.count × (l.count ≤ l.quote-index)
