use Rattle.std.proofs.Common.{subst}
use Rattle.std.proofs.lemmas.Result.{err_from_is_err_and}
use Rattle.pay_shard.specs.Words.{ShardParts}
use Rattle.pay_jobs.specs.Taken.{IsTakenWith, IsNotTakenWith}
use Rattle.pay_run.specs.Words.{after, before}
use Rattle.pay_jobs.proofs.Runs.{job_not_ran, job_ran}
use Rattle.pay_jobs.proofs.begun.Begun.run.Goals as goal

pub returns-in_err-take_with-clause-fails : goal.returns-in_err-take_with-clause-fails
returns-in_err-take_with-clause-fails g c =
    let p = err_from_is_err_and c.from_residual.result c.from_residual.ensures.1 in
    rw (p.1, p.2) (job_not_ran g.S.Store c.args.self _ _ _ (subst (λ (s : ShardParts). IsNotTakenWith g.S.Store c.args.ledger.now c.take_with.new.ledger s c.in_err-take_with.field-0.0) c.shard.ensures.value c.in_err-take_with.ensures.refused))

pub returns-clause-ran : goal.returns-clause-ran
returns-clause-ran g c =
    job_ran g.S.Store g.K.Keeper g.R.Read.remaining g.W.Write.contents c.args.self (before c.args.keeper c.args.ledger.now c.args.reader.now c.args.writer.now)
    (after c.run_lines.result.desk c.run_lines.new.ledger c.run_lines.new.reader c.run_lines.new.writer) c.take_with.new.ledger c.run_lines.result.ended
    (record { beside = subst (λ (s : ShardParts). IsTakenWith g.S.Store c.args.ledger.now c.take_with.new.ledger s) c.shard.ensures.value c.in_ok-take_with.ensures.taken; clean = c.run_lines.ensures.clean; ends = c.run_lines.ensures.ends; fails = c.run_lines.ensures.fails })
