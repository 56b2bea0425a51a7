use Rattle.std.proofs.Common.{◌≡◌, Err, ap, subst, List, []}
use Rattle.clap.specs.Words.{App, HasMatchesOf, HasKind, Text, app_of, fault_of, is_simple_and_free, kind_of}
use Rattle.clap.specs.Walk.{texts}
use Rattle.pay_words.specs.Asked.{asked, words_ask}
use Rattle.pay_words.specs.CommandLine.{farebox_app}
use Rattle.pay_words.proofs.Results.{job_read, matched, refused_as, result_audit, result_check, result_explain, result_follow, result_in_range, result_job, result_log, result_page, result_rebuild, result_refused, result_replay, result_run, result_serve, result_statement, result_words}
use Rattle.pay_words.proofs.words.read_words.Goals as goal

pub returns-in-Ok-clause-job : goal.returns-in-Ok-clause-job
returns-in-Ok-clause-job c =
    let ws : List Text = texts c.args.words.now in
    let app_is : app_of c.in_ok-command.command ≡ farebox_app = c.in_ok-command.ensures in
    let none : fault_of farebox_app ws ≡ [] = subst (λ (a : App). fault_of a ws ≡ []) app_is (c.in-Ok.ensures.kinds (ap is_simple_and_free app_is)) in
    let gives = matched ws c.in-Ok.matches none (subst (λ (a : App). HasMatchesOf a ws c.in-Ok.matches) app_is c.in-Ok.ensures.matches) in
    result_job c.job_of.result (asked ws) (job_read c.in-Ok.matches (words_ask ws) c.job_of.result gives (record {
      of_run = c.job_of.ensures.run;
      of_check = c.job_of.ensures.check;
      of_statement = c.job_of.ensures.statement;
      of_explain = c.job_of.ensures.explain;
      of_page = c.job_of.ensures.page;
      of_replay = c.job_of.ensures.replay;
      of_serve = c.job_of.ensures.serve;
      of_audit = c.job_of.ensures.audit;
      of_rebuild = c.job_of.ensures.rebuild;
      of_follow = c.job_of.ensures.follow;
      of_log = c.job_of.ensures.log;
    }))

pub returns-in-Ok-clause-refused : goal.returns-in-Ok-clause-refused
returns-in-Ok-clause-refused c =
    let ws : List Text = texts c.args.words.now in
    let app_is : app_of c.in_ok-command.command ≡ farebox_app = c.in_ok-command.ensures in
    let none : fault_of farebox_app ws ≡ [] = subst (λ (a : App). fault_of a ws ≡ []) app_is (c.in-Ok.ensures.kinds (ap is_simple_and_free app_is)) in
    let gives = matched ws c.in-Ok.matches none (subst (λ (a : App). HasMatchesOf a ws c.in-Ok.matches) app_is c.in-Ok.ensures.matches) in
    result_refused c.job_of.result (asked ws) (job_read c.in-Ok.matches (words_ask ws) c.job_of.result gives (record {
      of_run = c.job_of.ensures.run;
      of_check = c.job_of.ensures.check;
      of_statement = c.job_of.ensures.statement;
      of_explain = c.job_of.ensures.explain;
      of_page = c.job_of.ensures.page;
      of_replay = c.job_of.ensures.replay;
      of_serve = c.job_of.ensures.serve;
      of_audit = c.job_of.ensures.audit;
      of_rebuild = c.job_of.ensures.rebuild;
      of_follow = c.job_of.ensures.follow;
      of_log = c.job_of.ensures.log;
    }))

pub returns-in-Ok-clause-in_range : goal.returns-in-Ok-clause-in_range
returns-in-Ok-clause-in_range c = result_in_range c.named_days.ensures.service c.job_of.result (texts c.args.words.now) (returns-in-Ok-clause-job c)

pub returns-in-Ok-clause-words : goal.returns-in-Ok-clause-words
returns-in-Ok-clause-words c = result_words c.job_of.result (texts c.args.words.now) (returns-in-Ok-clause-job c)

pub returns-in-Err-clause-refused : goal.returns-in-Err-clause-refused
returns-in-Err-clause-refused c =
    let ws : List Text = texts c.args.words.now in
    let app_is : app_of c.in_ok-command.command ≡ farebox_app = c.in_ok-command.ensures in
    let kinds : HasKind (fault_of farebox_app ws) c.in-Err.error = subst (λ (a : App). HasKind (fault_of a ws) c.in-Err.error) app_is (c.in-Err.ensures.kinds (ap is_simple_and_free app_is)) in
    refused_as ws (kind_of c.in-Err.error) c.fault_of.result kinds c.fault_of.ensures

pub returns-in-Ok-clause-run : goal.returns-in-Ok-clause-run
returns-in-Ok-clause-run c = result_run c.job_of.result (texts c.args.words.now) (returns-in-Ok-clause-job c) (returns-in-Ok-clause-refused c)

pub returns-in-Err-clause-run : goal.returns-in-Err-clause-run
returns-in-Err-clause-run c = result_run (Err c.fault_of.result) (texts c.args.words.now) tt (returns-in-Err-clause-refused c)

pub returns-in-Ok-clause-check : goal.returns-in-Ok-clause-check
returns-in-Ok-clause-check c = result_check c.job_of.result (texts c.args.words.now) (returns-in-Ok-clause-job c) (returns-in-Ok-clause-refused c)

pub returns-in-Err-clause-check : goal.returns-in-Err-clause-check
returns-in-Err-clause-check c = result_check (Err c.fault_of.result) (texts c.args.words.now) tt (returns-in-Err-clause-refused c)

pub returns-in-Ok-clause-statement : goal.returns-in-Ok-clause-statement
returns-in-Ok-clause-statement c = result_statement c.job_of.result (texts c.args.words.now) (returns-in-Ok-clause-job c) (returns-in-Ok-clause-refused c) c.named_days.ensures.hyphen

pub returns-in-Err-clause-statement : goal.returns-in-Err-clause-statement
returns-in-Err-clause-statement c = result_statement (Err c.fault_of.result) (texts c.args.words.now) tt (returns-in-Err-clause-refused c) c.named_days.ensures.hyphen

pub returns-in-Ok-clause-explain : goal.returns-in-Ok-clause-explain
returns-in-Ok-clause-explain c = result_explain c.job_of.result (texts c.args.words.now) (returns-in-Ok-clause-job c) (returns-in-Ok-clause-refused c) c.named_days.ensures.hyphen

pub returns-in-Err-clause-explain : goal.returns-in-Err-clause-explain
returns-in-Err-clause-explain c = result_explain (Err c.fault_of.result) (texts c.args.words.now) tt (returns-in-Err-clause-refused c) c.named_days.ensures.hyphen

pub returns-in-Ok-clause-page : goal.returns-in-Ok-clause-page
returns-in-Ok-clause-page c = result_page c.job_of.result (texts c.args.words.now) (returns-in-Ok-clause-job c) (returns-in-Ok-clause-refused c)

pub returns-in-Err-clause-page : goal.returns-in-Err-clause-page
returns-in-Err-clause-page c = result_page (Err c.fault_of.result) (texts c.args.words.now) tt (returns-in-Err-clause-refused c)

pub returns-in-Ok-clause-replay : goal.returns-in-Ok-clause-replay
returns-in-Ok-clause-replay c = result_replay c.job_of.result (texts c.args.words.now) (returns-in-Ok-clause-job c) (returns-in-Ok-clause-refused c)

pub returns-in-Err-clause-replay : goal.returns-in-Err-clause-replay
returns-in-Err-clause-replay c = result_replay (Err c.fault_of.result) (texts c.args.words.now) tt (returns-in-Err-clause-refused c)

pub returns-in-Ok-clause-serve : goal.returns-in-Ok-clause-serve
returns-in-Ok-clause-serve c = result_serve c.job_of.result (texts c.args.words.now) (returns-in-Ok-clause-job c) (returns-in-Ok-clause-refused c)

pub returns-in-Err-clause-serve : goal.returns-in-Err-clause-serve
returns-in-Err-clause-serve c = result_serve (Err c.fault_of.result) (texts c.args.words.now) tt (returns-in-Err-clause-refused c)

pub returns-in-Ok-clause-audit : goal.returns-in-Ok-clause-audit
returns-in-Ok-clause-audit c = result_audit c.job_of.result (texts c.args.words.now) (returns-in-Ok-clause-job c) (returns-in-Ok-clause-refused c)

pub returns-in-Err-clause-audit : goal.returns-in-Err-clause-audit
returns-in-Err-clause-audit c = result_audit (Err c.fault_of.result) (texts c.args.words.now) tt (returns-in-Err-clause-refused c)

pub returns-in-Ok-clause-rebuild : goal.returns-in-Ok-clause-rebuild
returns-in-Ok-clause-rebuild c = result_rebuild c.job_of.result (texts c.args.words.now) (returns-in-Ok-clause-job c) (returns-in-Ok-clause-refused c)

pub returns-in-Err-clause-rebuild : goal.returns-in-Err-clause-rebuild
returns-in-Err-clause-rebuild c = result_rebuild (Err c.fault_of.result) (texts c.args.words.now) tt (returns-in-Err-clause-refused c)

pub returns-in-Ok-clause-follow : goal.returns-in-Ok-clause-follow
returns-in-Ok-clause-follow c = result_follow c.job_of.result (texts c.args.words.now) (returns-in-Ok-clause-job c) (returns-in-Ok-clause-refused c)

pub returns-in-Err-clause-follow : goal.returns-in-Err-clause-follow
returns-in-Err-clause-follow c = result_follow (Err c.fault_of.result) (texts c.args.words.now) tt (returns-in-Err-clause-refused c)

pub returns-in-Ok-clause-log : goal.returns-in-Ok-clause-log
returns-in-Ok-clause-log c = result_log c.job_of.result (texts c.args.words.now) (returns-in-Ok-clause-job c) (returns-in-Ok-clause-refused c)

pub returns-in-Err-clause-log : goal.returns-in-Err-clause-log
returns-in-Err-clause-log c = result_log (Err c.fault_of.result) (texts c.args.words.now) tt (returns-in-Err-clause-refused c)
