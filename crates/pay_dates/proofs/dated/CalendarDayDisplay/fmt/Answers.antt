use Rattle.pay_dates.proofs.DatesOf.{dated_alike}
use Rattle.pay_dates.proofs.dated.CalendarDayDisplay.fmt.Goals as goal

pub returns-clause-writes : goal.returns-clause-writes
returns-clause-writes g c plain ok =
    let it = c.args.self.now.0 in
    rw (dated_alike it.date it.day it.same) at (c.write.ensures.writes plain ok)
