use Rattle.std.proofs.Common.{ap, ◌∙◌}
use Rattle.std.specs.Prelude.{pos}
use Rattle.pay_postings.specs.Amounts.{total}
use Rattle.pay_postings.proofs.Settling.{last_comes, total_of_shares}
use Rattle.pay_postings.proofs.laws.payments_come_to_what_is_due.Goals as goal

pub returns-clause-net : goal.returns-clause-net
returns-clause-net c ledger after quotes sets given kept are e quote last = (last_comes ledger after quotes sets given kept are e quote last).1

pub returns-clause-by_operator : goal.returns-clause-by_operator
returns-clause-by_operator c ledger after quotes sets given kept are e quote last = (last_comes ledger after quotes sets given kept are e quote last).2

pub returns-clause-together : goal.returns-clause-together
returns-clause-together c ledger after quotes sets given kept are e quote last =
    let came = last_comes ledger after quotes sets given kept are e quote last in
    ap total came.2 ∙ total_of_shares quote.shares ∙ ap pos came.0.shared
