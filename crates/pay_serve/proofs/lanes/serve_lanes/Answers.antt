use Rattle.std.proofs.Common.{sym, subst}
use Rattle.std.specs.List.{AllZip}
use Rattle.pay_serve.specs.Lanes.{HasGoneOn}
use Rattle.pay_serve.proofs.TriedOver.{none_gone}
use Rattle.pay_serve.proofs.lanes.serve_lanes.Goals as goal

-- no lane was served
pub returns-in-Err-clause-served : goal.returns-in-Err-clause-served
returns-in-Err-clause-served g c =
    subst (AllZip (HasGoneOn (c.args.zone, g.P.Place.asks)) c.args.lanes.items) (sym c.in-Err.ensures.refused) (none_gone (c.args.zone, g.P.Place.asks) c.same_lanes.ensures.itself c.args.lanes.items)
