use Rattle.pay_serve.proofs.Served.{with_some}
use Rattle.pay_serve.proofs.service.serve.Goals as goal

pub returns-clause-served : goal.returns-clause-served
returns-clause-served g c = with_some _ _ _ _ _ _ c.serve_gated.ensures.served
