use Rattle.std.proofs.Common.{◌∙◌, None, ap, refl}
use Rattle.std.proofs.lemmas.Result.{err_from_is_err_and}
use Rattle.std.specs.Arc.{arc_value}
use Rattle.pay_shard.specs.Words.{ShardParts}
use Rattle.pay_run.specs.Words.{commands_in, new_machine}
use Rattle.pay_jobs.specs.Replays.{summary_line, summary_of}
use Rattle.pay_jobs.proofs.ToldReplays.{unsummed_refused, unsummed_memory, unsummed_stopped}
use Rattle.pay_jobs.proofs.replays.summed.Goals as goal

pub returns-in_err-editions-clause-fails : goal.returns-in_err-editions-clause-fails
returns-in_err-editions-clause-fails c =
    let p = err_from_is_err_and c.from_residual.result c.from_residual.ensures.1 in
    rw (p.1, p.2) (unsummed_refused _ _ _ _ c.in_err-editions.ensures.refused)

pub returns-in_err-zone-clause-fails : goal.returns-in_err-zone-clause-fails
returns-in_err-zone-clause-fails c =
    let p = err_from_is_err_and c.from_residual-in_err-zone.result c.from_residual-in_err-zone.ensures.1 in
    let e = c.in_err-zone.ensures in
    rw (p.1, p.2, e.bad) (arc_value c.in_ok-editions.editions, c.in_ok-editions.ensures.ok, e.none)

pub returns-in_err-replayed-clause-fails : goal.returns-in_err-replayed-clause-fails
returns-in_err-replayed-clause-fails c =
    let p = err_from_is_err_and c.from_residual-in_err-replayed.result c.from_residual-in_err-replayed.ensures.1 in
    rw (p.1, p.2) (unsummed_stopped _ _ _ _ c.in_ok-zone.zone (arc_value c.in_ok-editions.editions) (record { says = c.in_ok-editions.ensures.ok; rule = c.in_ok-zone.ensures.ok; new = refl; posted = refl })
    c.in_err-replayed.ensures.stopped)

pub returns-in_err-summary-clause-fails : goal.returns-in_err-summary-clause-fails
returns-in_err-summary-clause-fails c =
    let p = err_from_is_err_and c.from_residual-in_err-summary.result c.from_residual-in_err-summary.ensures.1 in
    rw p.1 (unsummed_memory _ _ _ _ p.2)

pub returns-in_err-line-clause-fails : goal.returns-in_err-line-clause-fails
returns-in_err-line-clause-fails c =
    let p = err_from_is_err_and c.from_residual-in_err-line.result c.from_residual-in_err-line.ensures.1 in
    rw p.1 (unsummed_memory _ _ _ _ p.2)

pub returns-clause-summed : goal.returns-clause-summed
returns-clause-summed c =
    let zone = c.in_ok-zone.zone in
    let editions = arc_value c.in_ok-editions.editions in
    let has = c.in_ok-replayed.ensures.replayed in
    let journal = c.journal.ensures.value ∙ ap (λ (s : ShardParts). s.journal) c.shard.ensures.value in
    record {
      machine = new_machine zone editions None;
      begins = record { says = c.in_ok-editions.ensures.ok; rule = c.in_ok-zone.ensures.ok; new = refl; posted = refl };
      accepted = (c.replayed_lines.ensures.accepted zone editions _ has).accepted;
      says = c.in_ok-line.ensures ∙ ap summary_line (c.in_ok-summary.ensures ∙ ap (λ l. summary_of l c.in_ok-replayed.replayed.1) (ap commands_in journal ∙ c.replayed_lines.ensures.commands zone editions _ has) ∙ ap (summary_of _) c.in_ok-replayed.ensures.rest);
    }
