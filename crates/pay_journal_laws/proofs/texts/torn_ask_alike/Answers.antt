use Rattle.pay_journal_laws.proofs.TextsAgain.{torn_ask_alike}
use Rattle.pay_journal_laws.proofs.texts.torn_ask_alike.Goals as goal

pub returns : goal.returns
returns c = torn_ask_alike c.line_by_line.ensures
