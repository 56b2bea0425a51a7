use Rattle.pay_week.proofs.WeekSums.{at_most_days, at_most_band, one_journey_grows}
use Rattle.pay_week.proofs.laws.bounds.Goals as goal

pub returns-clause-by_days : goal.returns-clause-by_days
returns-clause-by_days c editions = at_most_days editions c.charges.ensures.by_all

pub returns-clause-by_band : goal.returns-clause-by_band
returns-clause-by_band c editions = at_most_band editions c.charges.ensures.by_band

pub returns-clause-grows : goal.returns-clause-grows
returns-clause-grows c editions = one_journey_grows editions c.charges.ensures.grows c.bounds.ensures.capped_grows c.bounds.ensures.maximum_grows
