use Rattle.std.proofs.Common.{◌≡◌}
use Rattle.pay_lanes.specs.Words.{IsSameLane}
use Rattle.pay_office.specs.Waits.{tickets_of, AreWaiting, HasTaken}
use Rattle.pay_office.proofs.waiting.take_until.Given as goal

abbrev pub invariant-loop-looks : goal.invariant-loop-looks
invariant-loop-looks g l = HasTaken l.initial.lane l.lane × IsSameLane l.initial.lane l.lane × AreWaiting l.lane l.waiting.items × (tickets_of l.waiting.items ≡ tickets_of l.initial.waiting.items)
