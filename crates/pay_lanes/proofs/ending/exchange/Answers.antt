use Rattle.std.proofs.Common.{ap, ◌∙◌}
use Rattle.pay_mailbox.specs.Words.{having_back}
use Rattle.pay_lanes.proofs.Exchanges.{last_first}
use Rattle.pay_lanes.proofs.ending.exchange.Goals as goal

pub returns-clause-taken : goal.returns-clause-taken
returns-clause-taken c = last_first c.args.lane.now.answers _ c.args.way (c.rejoin.ensures ∙ ap (λ r. having_back r c.args.way) (cc)) c.compare.ensures.first
