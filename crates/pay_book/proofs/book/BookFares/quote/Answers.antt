use Rattle.std.proofs.Common.{◌≡◌, ◌∙◌, ap, sym}
use Rattle.std.proofs.lemmas.Result.{IfOk-weaker}
use Rattle.pay_rules.specs.Accepted.{touches}
use Rattle.pay_rules.specs.Journeys.{journeys_of}
use Rattle.pay_rules.specs.Prices.{price_of_week}
use Rattle.pay_rules.specs.QuoteParts.{QuoteParts}
use Rattle.pay_rules.specs.Quotes.{quote}
use Rattle.pay_book.specs.Books.{BookParts}
use Rattle.pay_book.proofs.book.BookFares.quote.Goals as goal

pub quote_by-requires-clause-all : goal.quote_by-requires-clause-all
quote_by-requires-clause-all c = c.in_ok-journeys.ensures.all ∙ ap (λ (b : BookParts). journeys_of c.args.editions.now (touches b.accepted)) (sym c.self.view_is)

pub quote_by-requires-clause-priced : goal.quote_by-requires-clause-priced
quote_by-requires-clause-priced c = c.price_through-price.ensures ∙ sym (ap (λ list. price_of_week c.args.editions.now list c.args.through) c.in_ok-journeys.ensures.all)

pub returns : goal.returns
returns c =
    let editions = c.args.editions.now in
    let inside = c.self.inside.account in
    IfOk-weaker c.quote_by.result (λ (it : QuoteParts). it ≡ quote editions inside.0 inside.1 c.args.through)
    (λ (it : QuoteParts). it ≡ quote editions c.args.self.now.account c.args.self.now.accepted c.args.through) (λ it e. e ∙ ap (λ (b : BookParts). quote editions b.account b.accepted c.args.through) c.self.view_is) c.quote_by.ensures
