use Rattle.std.proofs.Common.{ap}
use Rattle.pay_taps.proofs.Places.{inserted, timed_inserted}
use Rattle.pay_taps.proofs.timeline.Timeline.insert.Goals as goal

pub invariant_of-self : goal.invariant_of-self
invariant_of-self c =
    timed_inserted _ _ _ _ _ (ap (λ t. t.touches) c.self.view_is) c.place-place.ensures.place c.insert.ensures c.self.invariant c.requires.own_number

pub returns-clause-after : goal.returns-clause-after
returns-clause-after c = inserted _ _ _ _ _ (ap (λ t. t.touches) c.self.view_is) c.place-place.ensures.place c.insert.ensures
