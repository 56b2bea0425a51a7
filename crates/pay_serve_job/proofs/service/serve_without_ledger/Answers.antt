use Rattle.std.proofs.Common.{ap}
use Rattle.pay_serve.specs.Words.{terms_of}
use Rattle.pay_serve_job.proofs.Served.{alone_well, alone_badly}
use Rattle.pay_serve_job.proofs.service.serve_without_ledger.Goals as goal

pub returns-in-Err-serve-clause-served : goal.returns-in-Err-serve-clause-served
returns-in-Err-serve-clause-served g c = alone_badly g.K.Keeper (terms_of g.K.Keeper c.args.given) _ _ _ _ _ _ _ (λ same. ap g.W.Write.contents same.1) c.fault_of-in-Err-serve.ensures c.in-Err-serve.ensures.served

pub returns-in-Ok-serve-clause-served : goal.returns-in-Ok-serve-clause-served
returns-in-Ok-serve-clause-served g c = alone_well g.K.Keeper (terms_of g.K.Keeper c.args.given) _ _ _ _ _ _ c.in-Ok-serve.ensures.served
