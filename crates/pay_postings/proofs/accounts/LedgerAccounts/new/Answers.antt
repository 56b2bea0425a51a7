use Rattle.std.proofs.Common.{ap, ◌∙◌}
use Rattle.pay_postings.specs.Archived.{accounts_of}
use Rattle.pay_postings.proofs.Maps.{none_there}
use Rattle.pay_postings.proofs.accounts.LedgerAccounts.new.Goals as goal

pub returns : goal.returns
returns c = ap accounts_of c.new.ensures.empty ∙ none_there
