use Rattle.pay_journal_laws.proofs.MergedNew.{gives_back}
use Rattle.pay_journal_laws.proofs.texts.new_gives_back.Goals as goal

pub returns : goal.returns
returns c = gives_back c.merge.ensures.replies c.merge.ensures.states c.accepted_alone.ensures.alone c.accepted_alone.ensures.newly c.order_forgets_arrival.ensures.accepted
