use Rattle.pay_hopper.proofs.Stretches.{last_paid_is_marked, last_marked_from_after}
use Rattle.pay_hopper.proofs.laws.last_paid_by_marks.Goals as goal

pub returns-clause-same : goal.returns-clause-same
returns-clause-same c = last_paid_is_marked

pub returns-clause-from_after : goal.returns-clause-from_after
returns-clause-from_after c = last_marked_from_after
