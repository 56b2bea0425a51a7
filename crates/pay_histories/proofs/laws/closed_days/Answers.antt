use Rattle.pay_histories.proofs.Histories.{closed_as_due}
use Rattle.pay_histories.proofs.laws.closed_days.Goals as goal

pub returns-clause-net : goal.returns-clause-net
returns-clause-net c events day given ledger e account is =
    (closed_as_due c.args.editions.now c.quotes.ensures.operators c.quotes.ensures.together events day given ledger e account is).due

pub returns-clause-by_operator : goal.returns-clause-by_operator
returns-clause-by_operator c events day given ledger e account is =
    (closed_as_due c.args.editions.now c.quotes.ensures.operators c.quotes.ensures.together events day given ledger e account is).shared
