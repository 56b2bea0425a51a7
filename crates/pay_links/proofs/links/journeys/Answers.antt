use Rattle.pay_links.proofs.Divisions.{journeys_are}
use Rattle.pay_links.proofs.OpenRun.{all_read}
use Rattle.pay_links.proofs.links.journeys.Goals as goal

pub returns-clause-described : goal.returns-clause-described
returns-clause-described c =
    rw (all_read c.args.tables.now _ _ _ _ _ c.loop-part-test.false c.loop-part.invariant c.in_ok-close.ensures) (journeys_are _ _)
