use Rattle.std.proofs.Common.{sym, subst}
use Rattle.pay_rules.specs.Journeys.{journeys_of}
use Rattle.pay_rules.specs.Accepted.{touches}
use Rattle.pay_book.specs.Books.{BookParts}
use Rattle.pay_book.specs.Days.{AreSums}
use Rattle.pay_book.proofs.Stored.{sums_of_stored}
use Rattle.pay_book.proofs.book.Book.price_through.Goals as goal

pub returns : goal.returns
returns c =
    let editions = c.args.editions.now in
    let list = journeys_of editions (touches c.args.self.now.accepted) in
    c.price_through.ensures list (subst (λ (b : BookParts). AreSums editions b.days list) (sym c.self.view_is) (sums_of_stored c.boarded_by_all.ensures editions c.args.self.now c.requires.held))
