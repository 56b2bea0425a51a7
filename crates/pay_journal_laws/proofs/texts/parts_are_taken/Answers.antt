use Rattle.pay_journal_laws.proofs.PartsAgain.{parts_are_taken}
use Rattle.pay_journal_laws.proofs.texts.parts_are_taken.Goals as goal

pub returns : goal.returns
returns c = parts_are_taken
