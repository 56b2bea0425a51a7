use Rattle.std.proofs.Common.{subst}
use Rattle.pay_shard.specs.Words.{ShardParts, AreInPlace}
use Rattle.pay_run.proofs.PastLines.{more_replayed, more_stopped}
use Rattle.pay_run.proofs.past.replay_more.Goals as goal

pub returns-clause-replayed : goal.returns-clause-replayed
returns-clause-replayed g c = more_replayed c.args.zone.now c.args.desk.now c.replay-ended.new.desk c.args.text.now c.replay-ended.result c.replay-ended.ensures.same_desk c.replay-ended.ensures.transcript c.replay-ended.ensures.replayed

pub returns-clause-stopped : goal.returns-clause-stopped
returns-clause-stopped g c =
    let placed = subst (λ (s : ShardParts). AreInPlace 0 s.journal) c.shard.ensures.value c.shard.ensures.in_place in
    more_stopped c.args.zone.now c.args.desk.now c.replay-ended.new.desk c.args.text.now c.one_line.ensures c.replay-ended.result placed c.replay-ended.ensures.same_desk c.replay-ended.ensures.transcript c.replay-ended.ensures.ended
