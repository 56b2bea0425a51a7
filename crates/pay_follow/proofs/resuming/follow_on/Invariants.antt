use Rattle.std.proofs.Common.{◌≡◌}
use Rattle.sqlite.specs.Held.{state}
use Rattle.sqlite.specs.State.{HasCleanDisk}
use Rattle.pay_follow.specs.Partitions.{read_up_to}
use Rattle.pay_follow.specs.Following.{replica}
use Rattle.pay_follow.specs.Resuming.{IsUnderway, moment}
use Rattle.pay_follow.proofs.resuming.follow_on.Given as goal

abbrev pub invariant-loop : goal.invariant-loop
invariant-loop g l =
    let O = g.O.Opens in
    record {
      same : O.source l.opens ≡ O.source l.initial.opens;
      clean : HasCleanDisk (state g.S.Store l.ledger) → HasCleanDisk (state g.S.Store l.initial.ledger);
      underway : IsUnderway g.S.Store (O.HasLine (O.source l.initial.opens)) l.initial.zone (replica l.initial.desk.shard l.initial.ledger (read_up_to 0)) (moment l.desk.shard l.ledger l.progress);
    }
