use Rattle.std.proofs.Common.{◌≡◌, true, codes, rules}
use Rattle.clap.specs.Words.{app_of, new_app, with_subcommand}
use Rattle.clap.specs.Simple.{App, on_top}
use Rattle.pay_words.specs.CommandLine.{audit_app, check_app, explain_app, follow_app, log_app, page_app, rebuild_app, replay_app, run_app, serve_app, statement_app}
use Rattle.pay_words.proofs.words.farebox_command.Goals as goal

pub returns : goal.returns
returns c =
    let top : App = on_top (λ top. record top { has_version = true; subcommand_required = true }) (new_app (codes "farebox")) in
    let made : app_of c.subcommand_required-top.result ≡ top = search rules in
    let one = with_subcommand top run_app.top in
    let two = with_subcommand one check_app.top in
    let three = with_subcommand two statement_app.top in
    let four = with_subcommand three explain_app.top in
    let five = with_subcommand four page_app.top in
    let six = with_subcommand five replay_app.top in
    let seven = with_subcommand six serve_app.top in
    let eight = with_subcommand seven audit_app.top in
    let nine = with_subcommand eight rebuild_app.top in
    let ten = with_subcommand nine follow_app.top in
    c.with_program.ensures ten log_app
    (c.with_program-ten.ensures nine follow_app
    (c.with_program-nine.ensures eight rebuild_app
    (c.with_program-eight.ensures seven audit_app
    (c.with_program-seven.ensures six serve_app
    (c.with_program-six.ensures five replay_app
    (c.with_program-five.ensures four page_app
    (c.with_program-four.ensures three explain_app
    (c.with_program-three.ensures two statement_app
    (c.with_program-two.ensures one check_app
    (c.with_program-one.ensures top run_app made c.run_command.ensures.app)
    c.check_command.ensures.app) c.statement_command.ensures.app) c.explain_command.ensures.app) c.page_command.ensures.app) c.replay_command.ensures.app) c.serve_command.ensures.app) c.audit_command.ensures.app) c.rebuild_command.ensures.app)
    c.follow_command.ensures.app)
    c.log_command.ensures.app
