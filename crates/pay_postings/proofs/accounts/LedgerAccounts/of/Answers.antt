use Rattle.pay_postings.proofs.Maps.{lent}
use Rattle.pay_postings.proofs.accounts.LedgerAccounts.of.Goals as goal

pub returns : goal.returns
returns c = lent c.get.result c.self.inside.archived.entries c.args.self.now c.args.account c.self.view_is c.get.ensures.value
