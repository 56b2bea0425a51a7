use Rattle.std.proofs.Common.{sym, subst}
use Rattle.pay_taps.specs.Timelines.{AreTimed}
use Rattle.pay_taps.proofs.Places.{timed_removed}
use Rattle.pay_taps.proofs.timeline.Timeline.remove.Goals as goal

pub invariant_of-self : goal.invariant_of-self
invariant_of-self c = subst AreTimed (sym c.remove.ensures.after) (timed_removed _ _ c.self.invariant)
