use Rattle.pay_postings.proofs.Maps.{taken, not_taken, removed}
use Rattle.pay_postings.proofs.accounts.LedgerAccounts.take.Goals as goal

pub returns-clause-some : goal.returns-clause-some
returns-clause-some c = taken c.remove.result c.self.inside.archived.entries c.args.self.now c.args.account c.self.view_is c.remove.ensures.value

pub returns-clause-none : goal.returns-clause-none
returns-clause-none c = not_taken c.remove.result c.self.inside.archived.entries c.args.self.now c.args.account c.self.view_is c.remove.ensures.value

pub returns-clause-others : goal.returns-clause-others
returns-clause-others c = removed c.self.inside.archived.entries c.remove.new.self.entries c.args.self.now c.args.account c.self.view_is c.remove.ensures.updates.0
