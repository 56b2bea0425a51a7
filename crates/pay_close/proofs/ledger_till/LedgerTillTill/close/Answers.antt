use Rattle.pay_close.proofs.ClosedBy.{till_put_off, till_closed_not}
use Rattle.pay_close.proofs.ledger_till.LedgerTillTill.close.Goals as goal

pub returns-in-Err-clause-closed : goal.returns-in-Err-clause-closed
returns-in-Err-clause-closed g c = till_closed_not _ _ _ _ _ _ _ _ _ c.in-Err.why c.close.result c.in-Err.is _ c.from.ensures c.close.ensures.closed

pub returns-then-not-may_close-clause-closed : goal.returns-then-not-may_close-clause-closed
returns-then-not-may_close-clause-closed g c = till_put_off _ _ _ _ c.args.day _ _
