use Rattle.std.proofs.lemmas.Result.{err_from_is_err_and}
use Rattle.pay_postings.proofs.SetsJudged.{by_quotes, by_sets}
use Rattle.pay_postings.proofs.accounts.LedgerAccounts.judge.Goals as goal

pub returns-in_err-judge_quotes-clause-judged : goal.returns-in_err-judge_quotes-clause-judged
returns-in_err-judge_quotes-clause-judged c ledger agrees covers =
    let p = err_from_is_err_and c.from_residual.result c.from_residual.ensures.1 in
    rw (p.1, p.2) (by_quotes ledger c.args.quotes.now c.args.sets.now _ (c.in_err-judge_quotes.ensures.judged ledger agrees (covers.0, tt)))

pub returns-clause-judged : goal.returns-clause-judged
returns-clause-judged c ledger agrees covers =
    by_sets ledger c.args.quotes.now c.args.sets.now c.judge_sets.result (c.in_ok-judge_quotes.ensures.judged ledger agrees (covers.0, tt)) (c.judge_sets.ensures.judged ledger agrees (tt, covers.1))
