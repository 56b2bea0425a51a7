use Rattle.pay_why.proofs.ByRail.{run_found}
use Rattle.pay_why.proofs.rail_journeys.rail_reason.Goals as goal

pub returns-in-Run : goal.returns-in-Run
returns-in-Run c =
    run_found c.args.editions.now c.args.before.now c.args.after.now c.args.journey.now c.in-Run.run' c.first_tap.result c.day.result c.on-tables.result.now c.run_reason.result
    c.first_tap.ensures c.day.ensures.value c.on-tables.ensures c.in-Run.is c.run_reason.ensures
