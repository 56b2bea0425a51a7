use Rattle.std.proofs.Common.{map as each, take}
use Rattle.pay_shard.specs.Held.{ArePlaces}
use Rattle.pay_shard.proofs.accounts.places_of.Given as goal

abbrev pub invariant-loop-place : goal.invariant-loop-place
invariant-loop-place g l = ArePlaces l.places.entries (take l.place (each g.F.Fares.account l.accounts))
