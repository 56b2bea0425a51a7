use Rattle.std.proofs.Common.{rules, ◌≡◌, ◌∙◌, ap}
use Rattle.pay_rules.specs.Accepted.{version}
use Rattle.pay_rules.specs.QuoteParts.{QuoteParts}
use Rattle.pay_rules.specs.Quotes.{quote}
use Rattle.pay_postings.specs.Words.{is_kept}
use Rattle.pay_audit.proofs.Accounts.{quoted_so}
use Rattle.pay_audit.proofs.comparing.is_posted_so.Goals as goal

pub returns : goal.returns
returns g c =
    let account = g.F.Fares.account c.args.account.now in
    let accepted = g.F.Fares.accepted c.args.account.now in
    let posted = c.args.posting.now.quote in
    let same : posted.version ≡ version accepted = search rules in
    c.is_kept.ensures
    ∙ ap (λ (q : QuoteParts). is_kept q posted) (c.in_ok-quote.ensures ∙ ap (quote c.args.editions.now account accepted) c.through.ensures.value)
    ∙ quoted_so (version accepted) (quote c.args.editions.now account accepted posted.through) posted same
