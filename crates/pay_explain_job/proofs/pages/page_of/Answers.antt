use Rattle.std.proofs.Common.{◌≡◌, ◌∙◌, ℕ, Bool, List, IfOk, ap, subst, sym}
use Rattle.std.specs.String.{string_bytes}
use Rattle.std.specs.Arc.{arc_value}
use Rattle.pay_names.specs.Words.{Named}
use Rattle.pay_page.specs.DayPages.{day_page_text}
use Rattle.pay_page.specs.Posted.{posted_part}
use Rattle.pay_page.specs.WeekPages.{week_page_text}
use Rattle.pay_page.specs.declared.posted.Posted.{Posted}
use Rattle.pay_rules.specs.Accepted.{Accepted}
use Rattle.pay_tables.specs.Words.{FareEditions}
use Rattle.pay_explain_job.specs.Accounts.{told}
use Rattle.pay_explain_job.specs.Explain.{query}
use Rattle.pay_explain_job.specs.Pages.{page_text}
use Rattle.pay_explain_job.proofs.pages.page_of.Goals as goal

pub returns-then-week : goal.returns-then-week
returns-then-week c =
    let it = c.args.accepted.now in
    let sets : Accepted = record { taps = it.taps; fixes = it.fixes } in
    let week = c.posted_of-posted.result in
    let made = posted_part week.operators.now week.version week.posted.now in
    let part = posted_part it.called.operators it.version c.args.posted.now in
    let parts : made ≡ part =
    ap (λ (names : Named). posted_part names week.version week.posted.now) c.posted_of-posted.ensures.operators
    ∙ ap (λ (now : ℕ). posted_part it.called.operators now week.posted.now) c.posted_of-posted.ensures.version
    ∙ ap (λ (posted : Posted). posted_part it.called.operators it.version posted) c.posted_of-posted.ensures.posted in
    let page = subst (λ (e : FareEditions). IfOk c.week_page.result (λ text. string_bytes text ≡ week_page_text c.args.corrects made e sets c.args.account c.args.day)) c.deref.ensures c.week_page.ensures in
    let told_so = subst (λ (p : List ℕ). IfOk c.week_page.result (λ text. string_bytes text ≡ week_page_text c.args.corrects p (arc_value it.editions) sets c.args.account c.args.day)) parts page in
    subst (λ (week : Bool). IfOk c.week_page.result (λ text. string_bytes text ≡ told (page_text c.args.corrects part (query c.args.account c.args.day week)) it)) (sym c.if-week.true) told_so

pub returns-else-week : goal.returns-else-week
returns-else-week c =
    let it = c.args.accepted.now in
    let sets : Accepted = record { taps = it.taps; fixes = it.fixes } in
    let part = posted_part it.called.operators it.version c.args.posted.now in
    let page = subst (λ (e : FareEditions). IfOk c.day_page.result (λ text. string_bytes text ≡ day_page_text c.args.corrects it.called.places e sets c.args.account c.args.day)) c.deref-else-week.ensures c.day_page.ensures in
    subst (λ (week : Bool). IfOk c.day_page.result (λ text. string_bytes text ≡ told (page_text c.args.corrects part (query c.args.account c.args.day week)) it)) (sym c.if-week.false) page
