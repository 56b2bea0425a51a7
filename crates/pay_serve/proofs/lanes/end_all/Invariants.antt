use Rattle.std.proofs.Common.{◌≡◌, vec_capacity}
use Rattle.std.specs.List.{AllZip}
use Rattle.pay_serve.specs.TriedLanes.{GivesBack}
use Rattle.pay_serve.proofs.lanes.end_all.Given as goal

abbrev pub invariant-loop-one : goal.invariant-loop-one
invariant-loop-one g l = AllZip GivesBack l.yielded l.lanes.items × (vec_capacity l.lanes ≡ vec_capacity l.initial.lanes)
