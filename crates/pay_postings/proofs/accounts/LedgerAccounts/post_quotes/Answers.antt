use Rattle.std.proofs.Common.{rules, Err, drop, ap, ◌+◌, ◌∙◌}
use Rattle.std.proofs.lemmas.Result.{err_from_is_err_and}
use Rattle.pay_rules.specs.QuoteParts.{QuoteParts}
use Rattle.pay_postings.specs.Batches.{lists}
use Rattle.pay_postings.proofs.Loops.{next_left, one_there, quotes_on, quotes_refused}
use Rattle.pay_postings.proofs.NeverBad.{not_bad}
use Rattle.pay_postings.proofs.accounts.LedgerAccounts.post_quotes.Goals as goal

pub returns-in_err-post_quote-clause-posted : goal.returns-in_err-post_quote-clause-posted
returns-in_err-post_quote-clause-posted c = λ ledger agrees covers.
    let p = err_from_is_err_and c.from_residual.result c.from_residual.ensures.1 in
    let quotes = c.args.quotes.now in
    let place = c.loop-quote.quote-index in
    let quote = c.quote-item.result in
    let so_far = c.loop-quote.invariant.posted ledger agrees covers in
    let left = next_left quotes place quote (search rules) (search rules) in
    let there = one_there (λ (q : QuoteParts). q.account) c.args.self.now c.loop-quote.self quotes place quote covers.0 (search rules) (search rules) so_far.0.same in
    rw (p.1, p.2) (λ other later sets. quotes_refused ledger c.args.self.now c.loop-quote.self (lists c.args.batch.now) (lists c.loop-quote.batch) quotes (drop place quotes) (drop (place + 1) quotes) quote _ so_far left
    (c.in_err-post_quote.ensures.posted ledger so_far.0.agrees ((there, tt), tt) other) later sets)

pub loop-quote-preserved : goal.loop-quote-preserved
loop-quote-preserved c = record {
  same = λ account. c.in_ok-post_quote.ensures.same account ∙ c.loop-quote.invariant.same account;
  posted = λ ledger agrees covers.
      let quotes = c.args.quotes.now in
      let place = c.loop-quote.quote-index in
      let quote = c.quote-item.result in
      let so_far = c.loop-quote.invariant.posted ledger agrees covers in
      let left = next_left quotes place quote (search rules) (search rules) in
      let there = one_there (λ (q : QuoteParts). q.account) c.args.self.now c.loop-quote.self quotes place quote covers.0 (search rules) (search rules) so_far.0.same in
      quotes_on ledger c.args.self.now c.loop-quote.self c.post_quote.new.self (lists c.args.batch.now) (lists c.loop-quote.batch) (lists c.post_quote.new.batch) quotes (drop place quotes) (drop (place + 1) quotes) quote so_far left
      (c.in_ok-post_quote.ensures.posted ledger so_far.0.agrees ((there, tt), tt));
}

pub returns-in_err-post_quote-clause-never_bad : goal.returns-in_err-post_quote-clause-never_bad
returns-in_err-post_quote-clause-never_bad c covers =
    let there = one_there (λ (x : QuoteParts). x.account) c.args.self.now c.loop-quote.self c.args.quotes.now c.loop-quote.quote-index c.quote-item.result covers.0 (search rules) (search rules) c.loop-quote.invariant.same in
    not_bad c.from_residual.result c.in_err-post_quote.field-0.0 c.from_residual.ensures.1 (λ bad. c.in_err-post_quote.ensures.never_bad ((there, tt), tt) (ap Err bad))
