use Rattle.pay_journal_laws.proofs.KeptAgain.{kept_gives_back}
use Rattle.pay_journal_laws.proofs.services.kept_gives_back.Goals as goal

pub returns : goal.returns
returns c = kept_gives_back c.one_line.ensures c.read_back.ensures c.kept_asks_more.ensures c.repeats_are_of_new.ensures c.new_gives_back.ensures
