use Rattle.json.specs.Print.{escape_byte}
use Rattle.pay_json.specs.Journeys.{journey_why}
use Rattle.pay_json.proofs.journeys.JourneyWhyDisplay.fmt.Goals as goal

pub returns-clause-writes : goal.returns-clause-writes
unfolding journey_why escape_byte
returns-clause-writes g c = rw c.why_word.ensures at c.write.ensures.writes
