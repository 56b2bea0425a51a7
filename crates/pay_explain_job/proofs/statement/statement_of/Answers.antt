use Rattle.std.proofs.Common.{◌≡◌, IfOk, subst}
use Rattle.pay_rules.specs.Accepted.{Accepted}
use Rattle.pay_tables.specs.Words.{FareEditions}
use Rattle.pay_long_statement.specs.Words.{statement_text}
use Rattle.pay_explain_job.proofs.statement.statement_of.Goals as goal

pub returns : goal.returns
returns c =
    let it = c.args.accepted.now in
    let sets : Accepted = record { taps = it.taps; fixes = it.fixes } in
    subst (λ (e : FareEditions). IfOk c.long_statement.result (λ text. text.items ≡ statement_text it.called.places e sets c.args.day c.args.postings.now)) c.deref.ensures c.long_statement.ensures
