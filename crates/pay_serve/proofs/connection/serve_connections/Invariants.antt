use Rattle.std.proofs.Common.{◌≡◌}
use Rattle.pay_session.specs.Words.{AreAskedIn}
use Rattle.pay_serve.proofs.connection.serve_connections.Given as goal

abbrev pub invariant-loop : goal.invariant-loop
invariant-loop g l =
    let D = g.D.Desk in
    ((D.parts l.desk).standing ≡ (D.parts l.initial.desk).standing)
    × AreAskedIn l.zone (D.parts l.initial.desk).taken (D.parts l.desk).taken
