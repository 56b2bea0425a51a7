use Rattle.std.proofs.Common.{◌≡◌, ℕ, IfOk, List, subst}
use Rattle.std.specs.Arc.{arc_value}
use Rattle.std.specs.String.{string_bytes}
use Rattle.pay_rules.specs.Accepted.{Accepted}
use Rattle.pay_tables.specs.Words.{FareEditions}
use Rattle.pay_explain_job.specs.Explain.{text_of, query}
use Rattle.pay_explain_job.proofs.explain.text_by.Goals as goal

pub returns : goal.returns
returns c =
    let it = c.args.accepted.now in
    let sets : Accepted = record { taps = it.taps; fixes = it.fixes } in
    let asked = query c.args.account c.args.day c.args.week in
    let priced = subst (λ (e : FareEditions). IfOk c.text_of.result (λ text. string_bytes text ≡ text_of asked it.called.places c.as_str.result.now e sets)) c.deref.ensures c.text_of.ensures in
    subst (λ (currency : List ℕ). IfOk c.text_of.result (λ text. string_bytes text ≡ text_of asked it.called.places currency (arc_value it.editions) sets)) c.as_str.ensures.value priced
