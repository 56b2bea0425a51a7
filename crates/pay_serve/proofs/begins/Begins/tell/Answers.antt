use Rattle.pay_serve.proofs.OneTold.{never_full}
use Rattle.pay_serve.proofs.begins.Begins.tell.Goals as goal

-- it is told once, and there is room for that
pub unreachable-requires : goal.unreachable-requires
unreachable-requires g c = never_full c.self.inside.outbox c.self.invariant.0 c.self.invariant.1 c.self.invariant.2 c.in-Err.ensures.full
