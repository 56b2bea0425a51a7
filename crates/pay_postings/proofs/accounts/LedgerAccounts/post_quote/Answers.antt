use Rattle.std.proofs.Common.{ap, sym, ◌∙◌}
use Rattle.std.specs.FinMap.{get, insert, remove}
use Rattle.std.proofs.lemmas.Result.{err_from_is_err_and}
use Rattle.pay_postings.specs.Archived.{parts}
use Rattle.pay_postings.specs.Batches.{lists}
use Rattle.pay_postings.proofs.Maps.{same_put}
use Rattle.pay_postings.proofs.Steps.{with_postings, quote_posted, quote_refused, quote_as}
use Rattle.pay_postings.proofs.accounts.LedgerAccounts.post_quote.Goals as goal

pub returns-in_err-given-clause-posted : goal.returns-in_err-given-clause-posted
returns-in_err-given-clause-posted c = λ ledger agrees covers.
    let p = err_from_is_err_and c.from_residual.result c.from_residual.ensures.1 in
    let there = ap (get c.args.self.now) (sym c.account.ensures.value) ∙ c.in-Some.ensures.some in
    rw (p.1, p.2) (λ other later sets. quote_refused ledger c.args.self.now (lists c.args.batch.now) c.args.quote.now (parts c.in-Some.archived) agrees there _ (c.in_err-given.ensures other) later sets)

pub returns-clause-posted : goal.returns-clause-posted
returns-clause-posted c = λ ledger agrees covers.
    let there = ap (get c.args.self.now) (sym c.account.ensures.value) ∙ c.in-Some.ensures.some in
    let given = c.in_ok-given.given in
    let is = quote_posted ledger c.args.self.now (lists c.args.batch.now) c.args.quote.now (parts c.in-Some.archived) agrees there given c.in_ok-given.is_new c.post.new.posted c.in_ok-given.ensures.0 c.in_ok-given.ensures.1 in
    let rest = c.in-Some.ensures.others ∙ ap (remove c.args.self.now) c.account.ensures.value in
    let number = c.account-2.ensures.value in
    quote_as ledger c.args.self.now _ c.add.new.self (lists c.args.batch.now) _ (lists c.add_posting.new.self) c.args.quote.now is
    (c.in_ok-add.ensures.ok ∙ (λ i. insert (rest i) (number i) (with_postings (parts c.in-Some.archived) c.post.new.posted)))
    c.in_ok-add_posting.ensures

pub returns-clause-same : goal.returns-clause-same
returns-clause-same c =
    let there = ap (get c.args.self.now) (sym c.account.ensures.value) ∙ c.in-Some.ensures.some in
    let rest = c.in-Some.ensures.others ∙ ap (remove c.args.self.now) c.account.ensures.value in
    let number = c.account-2.ensures.value in
    same_put c.args.self.now c.add.new.self c.args.quote.now.account (parts c.in-Some.archived) (with_postings (parts c.in-Some.archived) c.post.new.posted) there
    (c.in_ok-add.ensures.ok ∙ (λ i. insert (rest i) (number i) (with_postings (parts c.in-Some.archived) c.post.new.posted)))
