use Rattle.pay_tables.proofs.Within.{station_within}
use Rattle.pay_tables.proofs.laws.stations_within.Goals as goal

pub returns : goal.returns
returns c = station_within c.args.tables.now c.in_range.ensures
