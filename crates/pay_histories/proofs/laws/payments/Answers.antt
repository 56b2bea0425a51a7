use Rattle.pay_postings.specs.Words.{net, shares_posted, last_of}
use Rattle.pay_close.specs.Close.{history}
use Rattle.pay_histories.proofs.Settling.{together}
use Rattle.pay_histories.proofs.Histories.{always_settled, posted_as_due}
use Rattle.pay_histories.proofs.laws.payments.Goals as goal

pub returns-clause-net : goal.returns-clause-net
returns-clause-net c events account week last e =
    (posted_as_due c.args.editions.now c.quotes.ensures.operators c.quotes.ensures.together events account week last e).due

pub returns-clause-by_operator : goal.returns-clause-by_operator
returns-clause-by_operator c events account week last e =
    (posted_as_due c.args.editions.now c.quotes.ensures.operators c.quotes.ensures.together events account week last e).shared

pub returns-clause-together : goal.returns-clause-together
returns-clause-together c events account week =
    let list = (history c.args.editions.now events).ledger.postings in
    together (last_of account week list) (net account week list) (shares_posted account week list)
    (always_settled c.args.editions.now c.quotes.ensures.operators c.quotes.ensures.together events account week)
