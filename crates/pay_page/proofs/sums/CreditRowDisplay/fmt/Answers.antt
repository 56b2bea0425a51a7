use Rattle.pay_page.proofs.sums.CreditRowDisplay.fmt.Goals as goal

pub returns-in-Credit-clause-writes : goal.returns-in-Credit-clause-writes
returns-in-Credit-clause-writes g c = rw c.in-Credit.is (rw (c.day-day.ensures.value, c.pence.ensures.value) at c.write.ensures.writes)
