use Rattle.pay_run.specs.Words.{after, before}
use Rattle.pay_jobs.proofs.Runs.{job_ran_alone}
use Rattle.pay_jobs.proofs.begun.Begun.run_without_ledger.Goals as goal

pub returns-clause-ran : goal.returns-clause-ran
returns-clause-ran g c =
    job_ran_alone g.K.Keeper g.R.Read.remaining g.W.Write.contents c.args.self (before c.args.keeper tt c.args.reader.now c.args.writer.now)
    (after c.run_lines_without_ledger.result.desk tt c.run_lines_without_ledger.new.reader c.run_lines_without_ledger.new.writer) c.run_lines_without_ledger.result.ended
    c.run_lines_without_ledger.ensures.ends c.run_lines_without_ledger.ensures.fails
