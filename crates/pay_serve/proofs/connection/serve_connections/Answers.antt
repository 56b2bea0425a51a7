use Rattle.std.proofs.Common.{◌∙◌, refl}
use Rattle.pay_serve.proofs.LinesAsked.{asked_none, asked_then}
use Rattle.pay_serve.proofs.connection.serve_connections.Goals as goal

pub loop-init : goal.loop-init
loop-init g c = (refl, asked_none _ _)

-- one connection more
pub loop-preserved : goal.loop-preserved
loop-preserved g c = (c.serve_connection.ensures.same_desk ∙ c.loop.invariant.0, asked_then _ _ _ _ c.loop.invariant.1 c.serve_connection.ensures.asked)
