use Rattle.pay_page.specs.Marks.{join}
use Rattle.pay_page.proofs.marks.JoinDisplay.fmt.Goals as goal

pub returns-clause-writes : goal.returns-clause-writes
unfolding join
returns-clause-writes g c = rw (c.across_on-from.ensures.value, c.across_on-to.ensures.value) at c.write.ensures.writes
