use Rattle.pay_close.proofs.Counted.{till_counts, till_counts_not}
use Rattle.pay_close.proofs.ledger_till.LedgerTillTill.open.Goals as goal

pub returns-in-Ok-clause-opened : goal.returns-in-Ok-clause-opened
returns-in-Ok-clause-opened g c = till_counts _ _ _ _ _ c.args.day _ _ _ c.count_open.result _ c.in-Ok.is c.count_open.ensures.only_read c.count_open.ensures.counted

pub returns-in-Err-clause-opened : goal.returns-in-Err-clause-opened
returns-in-Err-clause-opened g c = till_counts_not _ _ _ _ _ c.args.day _ _ _ c.count_open.result c.in-Err.why _ c.in-Err.is c.from.ensures c.count_open.ensures.only_read c.count_open.ensures.counted
