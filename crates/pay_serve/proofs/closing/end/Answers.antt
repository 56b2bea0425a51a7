use Rattle.std.proofs.Common.{subst}
use Rattle.pay_serve.specs.Machines.{IsOverWith}
use Rattle.pay_serve.proofs.closing.end.Goals as goal

pub returns-clause-over : goal.returns-clause-over
returns-clause-over g c = subst (λ ls. IsOverWith g.G.Gate.Holds c.args.office ls c.in-Ok.ended.gates.items) c.push_reserved.ensures.items ((_, _, c.in-Ok.ensures.ended), c.in-Ok.ensures.gates)
