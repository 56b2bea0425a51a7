use Rattle.pay_tables.specs.Words.{station_at}
use Rattle.pay_shares.proofs.Fares.{operator_within}
use Rattle.pay_shares.proofs.laws.operators_within.Goals as goal

pub returns : goal.returns
returns c place = operator_within c.args.tables.now.zones (station_at c.args.tables.now place) (c.stations_within.ensures place)
