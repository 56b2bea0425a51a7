use Rattle.std.proofs.Common.{rules}
use Rattle.std.proofs.lemmas.Result.{err_from_is_err_and}
use Rattle.pay_postings.proofs.QuotesJudged.{up_more}
use Rattle.pay_postings.proofs.accounts.LedgerAccounts.judge_quotes.Goals as goal

pub returns-in_err-judge_quote-clause-judged : goal.returns-in_err-judge_quote-clause-judged
returns-in_err-judge_quote-clause-judged c ledger agrees covers =
    let p = err_from_is_err_and c.from_residual.result c.from_residual.ensures.1 in
    let so_far = c.loop-place.invariant in
    rw (p.1, p.2) (c.in_err-judge_quote.ensures.judged ledger agrees covers so_far.up (so_far.ok ledger agrees covers))

pub loop-place-preserved : goal.loop-place-preserved
loop-place-preserved c = record {
  up = up_more c.args.quotes.now c.loop-place.place c.loop-place.highest c.account.result c.max-highest.result c.index-quotes-place.result c.loop-place-test.true (search rules) c.account.ensures.value c.max-highest.ensures c.loop-place.invariant.up;
  ok = λ ledger agrees covers. c.in_ok-judge_quote.ensures.judged ledger agrees covers c.loop-place.invariant.up (c.loop-place.invariant.ok ledger agrees covers);
}
