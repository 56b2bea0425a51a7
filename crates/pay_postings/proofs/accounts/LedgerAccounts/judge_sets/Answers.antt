use Rattle.std.proofs.Common.{rules}
use Rattle.std.proofs.lemmas.Result.{err_from_is_err_and}
use Rattle.pay_postings.proofs.SetsJudged.{sets_up_more}
use Rattle.pay_postings.proofs.accounts.LedgerAccounts.judge_sets.Goals as goal

pub returns-in_err-judge_set-clause-judged : goal.returns-in_err-judge_set-clause-judged
returns-in_err-judge_set-clause-judged c ledger agrees covers =
    let p = err_from_is_err_and c.from_residual.result c.from_residual.ensures.1 in
    let so_far = c.loop-place.invariant in
    rw (p.1, p.2) (c.in_err-judge_set.ensures.judged ledger agrees covers so_far.up (so_far.ok ledger agrees covers))

pub loop-place-preserved : goal.loop-place-preserved
loop-place-preserved c = record {
  up = sets_up_more c.args.sets.now c.loop-place.place c.loop-place.highest c.account.result c.max-highest.result c.index-sets-place.result c.loop-place-test.true (search rules) c.account.ensures c.max-highest.ensures c.are_own.ensures.taps.0 c.are_own.ensures.fixes.0 c.loop-place.invariant.up;
  ok = λ ledger agrees covers. c.in_ok-judge_set.ensures.judged ledger agrees covers c.loop-place.invariant.up (c.loop-place.invariant.ok ledger agrees covers);
}
