use Rattle.pay_postings.proofs.Maps.{is_there}
use Rattle.pay_postings.proofs.accounts.LedgerAccounts.has.Goals as goal

pub returns : goal.returns
returns c = is_there c.self.inside.archived.entries c.args.self.now c.args.account c.contains_key.result c.self.view_is c.contains_key.ensures
