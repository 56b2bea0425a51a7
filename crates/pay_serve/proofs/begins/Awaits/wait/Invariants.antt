use Rattle.std.proofs.Common.{◌≡◌}
use Rattle.pay_serve.proofs.begins.Awaits.wait.Given as goal

-- nothing was heard yet
abbrev pub invariant-loop : goal.invariant-loop
invariant-loop g l = l.self-inside.inbox ≡ l.initial.self-inside.inbox
