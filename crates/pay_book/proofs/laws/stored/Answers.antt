use Rattle.pay_book.proofs.Stored.{stored}
use Rattle.pay_book.proofs.laws.stored.Goals as goal

pub returns : goal.returns
returns c = stored c.kept_as_marks.ensures c.by_the_last.ensures c.boarded_by_all.ensures
