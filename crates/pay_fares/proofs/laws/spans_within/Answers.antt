use Rattle.pay_tables.specs.Words.{on}
use Rattle.pay_fares.proofs.Within.{run_within, station_within}
use Rattle.pay_fares.proofs.laws.spans_within.Goals as goal

pub returns-clause-run : goal.returns-clause-run
returns-clause-run c day = run_within (on c.args.editions.now day) (c.each_day.ensures.stations day) c.spans_within.ensures

pub returns-clause-station : goal.returns-clause-station
returns-clause-station c day = station_within (on c.args.editions.now day) (c.each_day.ensures.stations day) c.spans_within.ensures
