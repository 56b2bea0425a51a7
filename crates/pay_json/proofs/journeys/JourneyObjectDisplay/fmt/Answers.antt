use Rattle.json.specs.Print.{escape_byte}
use Rattle.pay_json.specs.Journeys.{journey_members}
use Rattle.pay_json.proofs.journeys.JourneyObjectDisplay.fmt.Goals as goal

pub returns-clause-writes : goal.returns-clause-writes
unfolding journey_members escape_byte
returns-clause-writes g c = rw (c.pence-fare.ensures, c.utc-utc.ensures.value) at c.write.ensures.writes
