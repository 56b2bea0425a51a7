use Rattle.std.proofs.Common.{◌≡◌, ◌∙◌, sym, subst}
use Rattle.pay_lanes.specs.Words.{IsSameLane}
use Rattle.pay_office.specs.Waits.{tickets_of, AreWaiting, HasTaken}
use Rattle.pay_office.proofs.Waited.{taken_more}
use Rattle.pay_office.proofs.waiting.take_until.Goals as goal

pub returns-then-is_answered-clause-lane : goal.returns-then-is_answered-clause-lane
returns-then-is_answered-clause-lane g c = taken_more c.args.lane.now c.loop-looks.lane c.take_all.new.lane c.loop-looks.invariant.0 c.take_all.ensures.lane

pub loop-looks-preserved : goal.loop-looks-preserved
loop-looks-preserved g c =
    subst (λ l. HasTaken c.args.lane.now l × IsSameLane c.args.lane.now l × AreWaiting l c.take_all.new.waiting.items × (tickets_of c.take_all.new.waiting.items ≡ tickets_of c.args.waiting.now.items)) (sym c.pause.ensures) (
      taken_more c.args.lane.now c.loop-looks.lane c.take_all.new.lane c.loop-looks.invariant.0 c.take_all.ensures.lane,
      c.same_lanes.ensures.then c.args.lane.now c.loop-looks.lane c.take_all.new.lane c.loop-looks.invariant.1 c.take_all.ensures.same,
      c.take_all.ensures.waiting,
      c.take_all.ensures.tickets ∙ c.loop-looks.invariant.3,
    )
