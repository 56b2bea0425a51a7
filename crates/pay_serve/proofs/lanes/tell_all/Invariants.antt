use Rattle.std.proofs.Common.{◌≡◌, vec_capacity}
use Rattle.std.specs.List.{AllZip}
use Rattle.pay_serve.specs.TriedLanes.{IsToldOf}
use Rattle.pay_serve.proofs.lanes.tell_all.Given as goal

abbrev pub invariant-loop-one : goal.invariant-loop-one
invariant-loop-one g l = AllZip (IsToldOf l.fn.begins) l.yielded l.informed.items × (vec_capacity l.informed ≡ vec_capacity l.initial.informed)
