use Rattle.pay_book.proofs.Accepting.{nothing_stored}
use Rattle.pay_book.proofs.book.BookFares.new.Goals as goal

pub returns-clause-any : goal.returns-clause-any
returns-clause-any c = λ editions. nothing_stored editions c.new.result c.new-2.result c.new-3.result c.new.ensures.nothing (c.new-2.ensures editions)
