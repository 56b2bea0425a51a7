use Rattle.std.proofs.Common.{subst}
use Rattle.pay_shard.specs.Words.{ShardParts, AreInPlace}
use Rattle.pay_run.proofs.PastLines.{gives_back, journal_commands}
use Rattle.pay_run.proofs.past.replayed_lines.Goals as goal

pub returns-clause-accepted : goal.returns-clause-accepted
returns-clause-accepted g c zone editions requests has =
    let placed = subst (λ (s : ShardParts). AreInPlace 0 s.journal) c.shard.ensures.value c.shard.ensures.in_place in
    gives_back c.one_line.ensures zone editions _ _ placed has

pub returns-clause-commands : goal.returns-clause-commands
returns-clause-commands g c zone editions requests has = journal_commands zone editions _ _ has
