use Rattle.pay_why.proofs.ByRail.{legs_by_seconds, exits_are_late, entries_are_early}
use Rattle.pay_why.proofs.laws.rail_times.Goals as goal

pub returns-clause-station : goal.returns-clause-station
returns-clause-station c = legs_by_seconds

pub returns-clause-exits : goal.returns-clause-exits
returns-clause-exits c = exits_are_late

pub returns-clause-entries : goal.returns-clause-entries
returns-clause-entries c = entries_are_early
