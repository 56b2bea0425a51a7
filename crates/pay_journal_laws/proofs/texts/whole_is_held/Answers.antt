use Rattle.pay_journal_laws.proofs.TextsAgain.{whole_is_held}
use Rattle.pay_journal_laws.proofs.texts.whole_is_held.Goals as goal

pub returns : goal.returns
returns c = whole_is_held c.cut_at_newlines.ensures.whole
