use Rattle.pay_journal_laws.proofs.PartsAgain.{cut_ask_within}
use Rattle.pay_journal_laws.proofs.texts.cut_ask_within.Goals as goal

pub returns : goal.returns
returns c = cut_ask_within c.line_by_line.ensures
