use Rattle.std.proofs.Common.{sym, subst, false, []}
use Rattle.pay_serve.specs.KeepingGates.{HoldsPassed}
use Rattle.pay_serve.proofs.GatesKept.{holds_none}
use Rattle.pay_serve.proofs.gate.KeepingGate.begin.Goals as goal

pub returns-clause-none : goal.returns-clause-none
returns-clause-none g c =
    let K = g.K.Keeper in
    subst (λ first. HoldsPassed K.holds K.HasFailed K.IsSettled (record { held_first = K.holds first; holds = K.holds c.args.keeper; stuck = false }) [] false) (sym c.of.ensures)
    (holds_none K.holds K.HasFailed K.IsSettled (K.holds c.args.keeper))
