use Rattle.pay_links.proofs.KeptJourneys.{kept_as_marks}
use Rattle.pay_links.proofs.laws.kept_as_marks.Goals as goal

pub returns : goal.returns
returns c = kept_as_marks c.starts_are_local.ensures.local c.each_tap.ensures
