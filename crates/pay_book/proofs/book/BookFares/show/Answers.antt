use Rattle.std.proofs.Common.{◌∙◌, ap, sym}
use Rattle.pay_rules.specs.Accepted.{touches}
use Rattle.pay_rules.specs.Journeys.{journeys_of}
use Rattle.pay_book.specs.Books.{BookParts}
use Rattle.pay_book.proofs.book.BookFares.show.Goals as goal

pub show_by-requires-clause-all : goal.show_by-requires-clause-all
show_by-requires-clause-all c = c.in_ok-journeys.ensures.all ∙ ap (λ (b : BookParts). journeys_of c.args.editions.now (touches b.accepted)) (sym c.self.view_is)
