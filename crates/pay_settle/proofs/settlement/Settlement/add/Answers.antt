use Rattle.std.proofs.Common.{rules, ◌∙◌, List, ap, refl, sym}
use Rattle.std.specs.Prelude.{ℤ, ◌+ℤ◌}
use Rattle.std.specs.BTreeMap as tree
use Rattle.std.specs.Ordering.{nat_cmp}
use Rattle.pay_postings.specs.Words.{added}
use Rattle.pay_settle.specs.Settled.{IsWhyNot, key_of, pair_cmp}
use Rattle.pay_settle.proofs.Adding.{account_beyond, account_put, by_fault, each_fault, on_both, shares_more, sum_more, total_beyond, week_beyond, week_put}
use Rattle.pay_settle.proofs.settlement.Settlement.add.Goals as goal

pub returns-in_err-put_total-clause-refused : goal.returns-in_err-put_total-clause-refused
returns-in_err-put_total-clause-refused c list sums =
    let p = c.args.posting.now in
    by_fault c.from_residual-in_err-put_total.result (IsWhyNot list p) c.in_err-put_total.field-0.0 (search rules)
    (total_beyond list p c.args.self.now.total p.amount c.in_err-put_total.field-0.0 sums.total refl c.in_err-put_total.ensures.too_large)

pub returns-in_err-put_week-clause-refused : goal.returns-in_err-put_week-clause-refused
returns-in_err-put_week-clause-refused c list sums =
    let p = c.args.posting.now in
    by_fault c.from_residual-in_err-put_week.result (IsWhyNot list p) c.in_err-put_week.field-0.0 (search rules)
    (week_beyond list p (tree.get nat_cmp c.args.self.now.weeks p.quote.week) c.in_err-put_week.field-0.0 (sums.weeks p.quote.week) c.in_err-put_week.ensures.too_large)

pub returns-clause-refused : goal.returns-clause-refused
returns-clause-refused c list sums =
    let p = c.args.posting.now in
    each_fault c.put_account.result _ (IsWhyNot list p)
    (λ fault beyond. account_beyond list p (tree.get pair_cmp c.args.self.now.accounts (key_of p)) fault (sums.accounts p.quote.account p.quote.week) beyond) c.put_account.ensures.too_large

pub returns-clause-sums : goal.returns-clause-sums
returns-clause-sums c list sums =
    let p = c.args.posting.now in
    on_both c.put_account.result _ _ _
    (λ put ordered. record {
      operators = c.in_ok-self.ensures.value ∙ ap (λ (o : List ℤ). added o p.share_amounts) sums.operators ∙ sym (shares_more list p);
      weeks = week_put list p c.args.self.now.weeks c.put_week.new.weeks sums.weeks c.in_ok-put_week.ensures.put;
      accounts = account_put list p c.args.self.now.accounts c.put_account.new.accounts sums.accounts put;
      total = c.in_ok-put_total.ensures.put ∙ ap (λ (n : ℤ). n +ℤ p.amount) sums.total ∙ sym (sum_more list p);
      weeks_ordered = c.in_ok-put_week.ensures.ordered;
      accounts_ordered = ordered;
    })
    c.put_account.ensures.put c.put_account.ensures.ordered
