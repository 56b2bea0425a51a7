use Rattle.std.proofs.Common.{sym, subst}
use Rattle.std.proofs.iter.Serving.{serving}
use Rattle.pay_serve.specs.Begins.{HasServed}
use Rattle.pay_serve.specs.declared.threads.Serving.{Serving}
use Rattle.pay_session.specs.declared.port.Role.{Role}
use Rattle.pay_serve.proofs.lanes.begin.Goals as goal

-- it goes on as it was promised
pub spawn_with-requires-clause-keeps : goal.spawn_with-requires-clause-keeps
spawn_with-requires-clause-keeps g c κs within r ens =
    let served : HasServed (c.args.zone, g.P.Place.asks) (c.args.lane, c.in-Ok.awaits) (r.lane, r.awaits) = grind serving in
    subst (λ (who : Role). HasServed (c.args.zone, who) (c.of.result.value.lane, c.of.result.value.awaits) (r.lane, r.awaits)) (sym c.role.ensures)
    (subst (λ (s : Serving). HasServed (c.args.zone, g.P.Place.asks) (s.lane, s.awaits) (r.lane, r.awaits)) (sym c.of.ensures) served)
