use Rattle.std.proofs.Common.{All}
use Rattle.pay_zone.specs.Steady.{IsSteady}
use Rattle.pay_zone.proofs.zone.stretches_of.Given as goal

abbrev pub invariant-loop : goal.invariant-loop
invariant-loop l = All (λ s. IsSteady l.fn.zone s.from s.until s.offset.seconds) l.stretches.items
