use Rattle.std.proofs.Common.{◌≡◌, ◌∙◌, ℕ, Bool, List, IfOk, ap, subst, sym}
use Rattle.std.specs.String.{string_bytes}
use Rattle.pay_json.specs.Days.{day_value}
use Rattle.pay_json.specs.Posted.{posted_members}
use Rattle.pay_json.specs.Weeks.{week_value}
use Rattle.pay_names.specs.Words.{Named}
use Rattle.pay_page.specs.declared.posted.Posted.{Posted}
use Rattle.pay_rules.specs.Accepted.{Accepted}
use Rattle.pay_tables.specs.Words.{FareEditions}
use Rattle.serde_json.specs.Data.{Members}
use Rattle.serde_json.specs.Written.{compact_text}
use Rattle.std.specs.Arc.{arc_value}
use Rattle.pay_explain_job.specs.Accounts.{told}
use Rattle.pay_explain_job.specs.Explain.{query}
use Rattle.pay_explain_job.specs.Pages.{json_text}
use Rattle.pay_explain_job.proofs.pages.json_of.Goals as goal

pub returns-then-week : goal.returns-then-week
returns-then-week c =
    let it = c.args.accepted.now in
    let sets : Accepted = record { taps = it.taps; fixes = it.fixes } in
    let week = c.posted_of-posted.result in
    let made = posted_members week.operators.now week.version week.posted.now in
    let field = posted_members it.called.operators it.version c.args.posted.now in
    let fields_are : made ≡ field =
    ap (λ (names : Named). posted_members names week.version week.posted.now) c.posted_of-posted.ensures.operators
    ∙ ap (λ (now : ℕ). posted_members it.called.operators now week.posted.now) c.posted_of-posted.ensures.version
    ∙ ap (λ (posted : Posted). posted_members it.called.operators it.version posted) c.posted_of-posted.ensures.posted in
    let by_editions = subst (λ (e : FareEditions). IfOk c.week_json.result (λ text. string_bytes text ≡ compact_text (week_value made c.as_str-currency.result.now e sets c.args.account c.args.day))) c.deref.ensures c.week_json.ensures in
    let by_currency = subst (λ (currency : List ℕ). IfOk c.week_json.result (λ text. string_bytes text ≡ compact_text (week_value made currency (arc_value it.editions) sets c.args.account c.args.day))) c.as_str-currency.ensures.value by_editions in
    let by_field = subst (λ (f : Members). IfOk c.week_json.result (λ text. string_bytes text ≡ compact_text (week_value f (string_bytes it.called.currency) (arc_value it.editions) sets c.args.account c.args.day))) fields_are by_currency in
    subst (λ (week : Bool). IfOk c.week_json.result (λ text. string_bytes text ≡ told (json_text field (query c.args.account c.args.day week)) it)) (sym c.if-week.true) by_field

pub returns-else-week : goal.returns-else-week
returns-else-week c =
    let it = c.args.accepted.now in
    let sets : Accepted = record { taps = it.taps; fixes = it.fixes } in
    let field = posted_members it.called.operators it.version c.args.posted.now in
    let by_editions = subst (λ (e : FareEditions). IfOk c.day_json.result (λ text. string_bytes text ≡ compact_text (day_value it.called.places c.as_str-currency.result.now e sets c.args.account c.args.day))) c.deref-else-week.ensures c.day_json.ensures in
    let by_currency = subst (λ (currency : List ℕ). IfOk c.day_json.result (λ text. string_bytes text ≡ compact_text (day_value it.called.places currency (arc_value it.editions) sets c.args.account c.args.day))) c.as_str-currency.ensures.value by_editions in
    subst (λ (week : Bool). IfOk c.day_json.result (λ text. string_bytes text ≡ told (json_text field (query c.args.account c.args.day week)) it)) (sym c.if-week.false) by_currency
