use Rattle.pay_journal_laws.proofs.PartsAgain.{part_asks_alike}
use Rattle.pay_journal_laws.proofs.texts.part_asks_alike.Goals as goal

pub returns : goal.returns
returns c = part_asks_alike
