use Rattle.pay_journal_laws.proofs.Repeats.{repeats_are_of_new}
use Rattle.pay_journal_laws.proofs.texts.repeats_are_of_new.Goals as goal

pub returns : goal.returns
returns c = repeats_are_of_new c.accepted_alone.ensures.others
