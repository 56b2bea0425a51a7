use Rattle.pay_tables.proofs.Days.{each_in_range}
use Rattle.pay_tables.proofs.Within.{station_within, single_within}
use Rattle.pay_tables.specs.FareEditions.{on}
use Rattle.pay_tables.proofs.laws.each_day.Goals as goal

pub returns-clause-zones : goal.returns-clause-zones
returns-clause-zones c day = (each_in_range c.args.editions.now c.of_one_file.ensures day).zones.1

pub returns-clause-rules : goal.returns-clause-rules
returns-clause-rules c day = (each_in_range c.args.editions.now c.of_one_file.ensures day).rules

pub returns-clause-stations : goal.returns-clause-stations
returns-clause-stations c day = station_within (on c.args.editions.now day) (each_in_range c.args.editions.now c.of_one_file.ensures day)

pub returns-clause-fares : goal.returns-clause-fares
returns-clause-fares c day = single_within (on c.args.editions.now day) (each_in_range c.args.editions.now c.of_one_file.ensures day)
