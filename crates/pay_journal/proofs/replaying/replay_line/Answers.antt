use Rattle.std.proofs.Common.{sym, ap, ◌∙◌}
use Rattle.pay_session.specs.Asks.{asks_of}
use Rattle.pay_journal.proofs.Replays.{refused_step}
use Rattle.pay_journal.proofs.replaying.replay_line.Goals as goal

pub returns-in-No-clause-step : goal.returns-in-No-clause-step
returns-in-No-clause-step g c =
    refused_step g.D.Desk.parts _ _ c.in-No.why (ap (asks_of c.args.zone.now) (sym c.request_of.ensures.value) ∙ sym c.asks_of.ensures.value ∙ c.in-No.is)
