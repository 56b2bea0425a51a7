use Rattle.std.proofs.Common.{◌≡◌, ◌≤◌, false, [], All, map as each, length, vec_capacity}
use Rattle.pay_serve.specs.KeepingGates.{HoldsPassed}
use Rattle.pay_serve.proofs.gates.all_gates.Given as goal

abbrev pub invariant-loop-keeper : goal.invariant-loop-keeper
invariant-loop-keeper g l =
    let K = g.K.Keeper in
    (each (λ gate. gate.held_first) l.gates.items ≡ each K.holds l.yielded)
    × All (λ gate. HoldsPassed K.holds K.HasFailed K.IsSettled gate [] false) l.gates.items
    × (length l.fn.keepers.items ≤ vec_capacity l.gates)
