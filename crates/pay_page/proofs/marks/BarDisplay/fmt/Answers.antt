use Rattle.pay_page.specs.Marks.{bar}
use Rattle.pay_page.proofs.marks.BarDisplay.fmt.Goals as goal

pub returns-clause-writes : goal.returns-clause-writes
unfolding bar
returns-clause-writes g c = rw (c.width_of-width.ensures, c.class_of-class.ensures, c.across_on-from.ensures.value, c.across_on-to.ensures.value) at c.write.ensures.writes
