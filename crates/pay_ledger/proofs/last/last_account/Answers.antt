use Rattle.std.proofs.Common.{◌∙◌}
use Rattle.pay_ledger.proofs.Lists.{last_is}
use Rattle.pay_ledger.proofs.last.last_account.Goals as goal

pub returns : goal.returns
returns c = c.copied.ensures ∙ c.last.ensures.value ∙ last_is c.args.accounts.now
