use Rattle.std.proofs.Common.{◌≡◌, ◌+◌, ◌++◌, ℕ, List}
use Rattle.sqlite.specs.Held.{state}
use Rattle.sqlite.specs.State.{HasCleanDisk}
use Rattle.pay_follow.specs.Following.{replica, Follows}
use Rattle.pay_follow.proofs.following.follow.Given as goal

-- the lines so far were followed
abbrev pub invariant-loop : goal.invariant-loop
invariant-loop g l =
    let P = g.P.Partition in
    record {
      same : P.origin l.partition ≡ P.origin l.initial.partition;
      clean : HasCleanDisk (state g.S.Store l.ledger) → HasCleanDisk (state g.S.Store l.initial.ledger);
      follows : Follows g.S.Store (P.HasLine (P.origin l.initial.partition)) l.initial.zone (replica l.initial.desk.shard l.initial.ledger (P.parts l.initial.partition)) (replica l.desk.shard l.ledger (P.parts l.partition));
      many : (P.parts l.partition).last ≡ (P.parts l.initial.partition).last + l.counter;
      grew : (more : List (ℕ × List ℕ)) × ((P.parts l.partition).published ≡ (P.parts l.initial.partition).published ++ more);
    }
