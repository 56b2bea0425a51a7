use Rattle.std.proofs.Common.{subst, sym}
use Rattle.pay_taps.specs.Timelines.{AreTimed}
use Rattle.pay_taps.proofs.Places.{none_timed}
use Rattle.pay_taps.proofs.timeline.Timeline.new.Goals as goal

pub invariant_of-result : goal.invariant_of-result
invariant_of-result c = subst AreTimed (sym c.new.ensures) none_timed
