use Rattle.pay_journal.proofs.LinesOfCommands.{asked_by_its_line}
use Rattle.pay_journal.proofs.laws.one_line.Goals as goal

pub returns : goal.returns
returns c = asked_by_its_line
