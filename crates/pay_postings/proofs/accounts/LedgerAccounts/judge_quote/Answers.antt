use Rattle.std.proofs.Common.{◌≡◌, take, Some, refl, nat_lt, if◌then◌else◌, rules, sym, ap, ◌∙◌}
use Rattle.std.specs.FinMap.{get}
use Rattle.pay_postings.specs.Archived.{ArchivedParts, parts}
use Rattle.pay_postings.proofs.QuotesJudged.{judged_at}
use Rattle.pay_postings.proofs.accounts.LedgerAccounts.judge_quote.Goals as goal

pub returns-clause-judged : goal.returns-clause-judged
returns-clause-judged c ledger agrees covers up ok =
    let quotes = c.args.quotes.now in
    let quote = c.index-quotes-place.result in
    let there : get c.args.self.now quote.account ≡ Some (parts c.in-Some.archived.now) = ap (get c.args.self.now) (sym c.account.ensures.value) ∙ sym c.in-Some.ensures in
    judged_at ledger quotes (take c.looked_at.result quotes) c.args.place c.args.highest c.looked_at.result quote c.in-Some.archived.now.posted c.judge_quote.result c.requires (search rules)
    (ap (λ (a : ArchivedParts). a.postings) (agrees quote.account (parts c.in-Some.archived.now) there))
    (c.looked_at.ensures ∙ ap (λ n. if nat_lt c.args.highest n then 0 else c.args.place) c.account-2.ensures.value) refl c.judge_quote.ensures up ok
