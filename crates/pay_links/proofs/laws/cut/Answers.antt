use Rattle.pay_links.proofs.Cuts.{marks_cut, journeys_cut}
use Rattle.pay_links.proofs.laws.cut.Goals as goal

pub returns-clause-marks : goal.returns-clause-marks
returns-clause-marks c = marks_cut

pub returns-clause-journeys : goal.returns-clause-journeys
returns-clause-journeys c = journeys_cut c.kept_as_marks.ensures
