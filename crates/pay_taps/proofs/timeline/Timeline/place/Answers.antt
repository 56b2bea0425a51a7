use Rattle.std.proofs.Common.{ap, ◌∙◌}
use Rattle.pay_taps.specs.Timelines.{place_of}
use Rattle.pay_taps.proofs.Places.{parted, place_found}
use Rattle.pay_taps.proofs.timeline.Timeline.place.Goals as goal

pub place-requires : goal.place-requires
place-requires c = parted c.args.touch.now c.self.inside.touches.items c.self.invariant.in_order

pub returns-clause-place : goal.returns-clause-place
returns-clause-place c =
    place_found c.args.touch.now c.self.inside.touches.items _ c.place.ensures.within c.place.ensures.place ∙ ap (λ t. place_of c.args.touch.now t.touches) c.self.view_is
