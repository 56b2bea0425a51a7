use Rattle.pay_journal_laws.proofs.TextsAgain.{kept_asks_more}
use Rattle.pay_journal_laws.proofs.texts.kept_asks_more.Goals as goal

pub returns : goal.returns
returns c = kept_asks_more c.line_by_line.ensures c.cut_at_newlines.ensures.rest
