use Rattle.pay_postings.proofs.Maps.{inserted}
use Rattle.pay_postings.proofs.accounts.LedgerAccounts.add.Goals as goal

pub returns-clause-ok : goal.returns-clause-ok
returns-clause-ok c = inserted c.self.inside.archived.entries c.insert.new.self.entries c.args.self.now c.args.account c.args.archived c.self.view_is c.in_ok-insert.ensures.updates.0
