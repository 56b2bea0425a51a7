use Rattle.std.proofs.Common.{◌≡◌, ◌≤◌, length, vec_capacity}
use Rattle.pay_serve.specs.Lanes.{HasShards}
use Rattle.pay_serve.specs.TriedLanes.{IsTried, first_refused}
use Rattle.pay_serve.proofs.TriedOver.{AreTriedSoFar}
use Rattle.pay_serve.proofs.lanes.begin_all.Given as goal

-- the lanes so far were tried, and each of the others has its place
abbrev pub invariant-loop-place : goal.invariant-loop-place
invariant-loop-place g l =
    AreTriedSoFar HasShards (IsTried (l.fn.zone, g.P.Place.asks)) l.fn.lanes.items l.tried.items l.place-iterator.a.rest.items l.place-iterator.b.rest.items
    × (length l.fn.lanes.items ≤ vec_capacity l.tried)
    × (l.refused ≡ first_refused l.tried.items)
