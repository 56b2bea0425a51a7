use Rattle.clap.specs.Words.{found_of}
use Rattle.pay_words.proofs.Results.{audit_values, check_texts, explain_texts, follow_texts, log_texts, page_texts, rebuild_values, replay_values, run_values, serve_texts, statement_texts}
use Rattle.pay_words.proofs.words.job_of.Goals as goal

pub returns-in-Some-run-default-clause-run : goal.returns-in-Some-run-default-clause-run
returns-in-Some-run-default-clause-run c = λ r gives.
    c.run_job.ensures r (run_values c.args.matches.now (found_of c.in-Some-run-default.run'.now) r c.in-Some-run-default.ensures.rows gives)

pub returns-in-Some-check-default-clause-check : goal.returns-in-Some-check-default-clause-check
returns-in-Some-check-default-clause-check c = λ x gives.
    let found = found_of c.in-Some-check-default.check.now in
    rw (← gives.4) (c.check_job.ensures gives.0 (check_texts c.args.matches.now found x c.in-Some-check-default.ensures.rows gives))

pub returns-in-Some-statement-default-clause-statement : goal.returns-in-Some-statement-default-clause-statement
returns-in-Some-statement-default-clause-statement c = λ s gives.
    let found = found_of c.in-Some-statement-default.statement.now in
    rw (← gives.5) (c.statement_job.ensures gives.0 (statement_texts c.args.matches.now found s c.in-Some-statement-default.ensures.rows gives) gives.4)

pub returns-in-Some-explain-default-clause-explain : goal.returns-in-Some-explain-default-clause-explain
returns-in-Some-explain-default-clause-explain c = λ e gives.
    let found = found_of c.in-Some-explain-default.explain.now in
    rw (← gives.5) (c.explain_job.ensures gives.0 (explain_texts c.args.matches.now found e c.in-Some-explain-default.ensures.rows gives) gives.4)

pub returns-in-Some-page-default-clause-page : goal.returns-in-Some-page-default-clause-page
returns-in-Some-page-default-clause-page c = λ p gives.
    let found = found_of c.in-Some-page-default.page.now in
    rw (← gives.5) (c.page_job.ensures gives.0 (page_texts c.args.matches.now found p c.in-Some-page-default.ensures.rows gives) gives.4)

pub returns-in-Some-replay-default-clause-replay : goal.returns-in-Some-replay-default-clause-replay
returns-in-Some-replay-default-clause-replay c = λ fares zone files gives.
    let found = found_of c.in-Some-replay-default.replay.now in
    let values = replay_values c.args.matches.now found fares zone files c.in-Some-replay-default.ensures.rows gives in
    c.replay_job.ensures fares zone files (values.0, values.1) values.2

pub returns-in-Some-serve-default-clause-serve : goal.returns-in-Some-serve-default-clause-serve
returns-in-Some-serve-default-clause-serve c = λ s gives.
    let found = found_of c.in-Some-serve-default.serve.now in
    rw (← gives.5) (c.serve_job.ensures gives.0 (serve_texts c.args.matches.now found s c.in-Some-serve-default.ensures.rows gives) gives.4)

pub returns-in-Some-audit-default-clause-audit : goal.returns-in-Some-audit-default-clause-audit
returns-in-Some-audit-default-clause-audit c = λ a gives.
    c.audit_job.ensures a (audit_values c.args.matches.now (found_of c.in-Some-audit-default.audit.now) a c.in-Some-audit-default.ensures.rows gives)

pub returns-in-Some-rebuild-default-clause-rebuild : goal.returns-in-Some-rebuild-default-clause-rebuild
returns-in-Some-rebuild-default-clause-rebuild c = λ fares ledger gives.
    c.rebuild_job.ensures fares ledger (rebuild_values c.args.matches.now (found_of c.in-Some-rebuild-default.rebuild.now) fares ledger c.in-Some-rebuild-default.ensures.rows gives)

pub returns-in-Some-follow-default-clause-follow : goal.returns-in-Some-follow-default-clause-follow
returns-in-Some-follow-default-clause-follow c = λ f gives.
    let found = found_of c.in-Some-follow-default.follow.now in
    rw (← gives.5) (c.follow_job.ensures gives.0 (follow_texts c.args.matches.now found f c.in-Some-follow-default.ensures.rows gives) gives.4)

pub returns-in-Some-log-default-clause-log : goal.returns-in-Some-log-default-clause-log
returns-in-Some-log-default-clause-log c = λ l gives.
    let found = found_of c.in-Some-log-default.log.now in
    rw (← gives.5) (c.log_job.ensures gives.0 (log_texts c.args.matches.now found l c.in-Some-log-default.ensures.rows gives) gives.4)
