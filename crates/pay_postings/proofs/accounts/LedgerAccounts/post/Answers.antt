use Rattle.std.proofs.Common.{[], Err, ap, ◌∙◌}
use Rattle.std.proofs.lemmas.Result.{err_from_is_err_and}
use Rattle.pay_postings.specs.Batches.{lists}
use Rattle.pay_postings.proofs.Loops.{agrees_at_start, still_covers, quotes_first, then_sets, all_posted}
use Rattle.pay_postings.proofs.NeverBad.{not_bad}
use Rattle.pay_postings.proofs.accounts.LedgerAccounts.post.Goals as goal

pub returns-in_err-judge-clause-batch : goal.returns-in_err-judge-clause-batch
returns-in_err-judge-clause-batch c = λ ledger agrees covers.
    let p = err_from_is_err_and c.from_residual.result c.from_residual.ensures.1 in
    let why = c.in_err-judge.ensures.judged ledger agrees covers in
    rw (p.1, p.2) (λ other. why.0, λ want. absurd (why.1 want))

pub returns-in_err-post_quotes-clause-batch : goal.returns-in_err-post_quotes-clause-batch
returns-in_err-post_quotes-clause-batch c = λ ledger agrees covers.
    let p = err_from_is_err_and c.from_residual-in_err-post_quotes.result c.from_residual-in_err-post_quotes.ensures.1 in
    let start = lists c.new-batch.result in
    let agrees_first = agrees_at_start ledger c.args.self.now start c.new-batch.ensures agrees in
    rw (p.1, p.2) (λ other. quotes_first ledger start c.args.quotes.now c.args.sets.now c.new-batch.ensures ∙ c.in_err-post_quotes.ensures.posted ledger agrees_first (covers.0, tt) other [] c.args.sets.now, λ want. c.in_ok-judge.ensures.judged ledger agrees covers)

pub returns-in_err-archive_sets-clause-batch : goal.returns-in_err-archive_sets-clause-batch
returns-in_err-archive_sets-clause-batch c = λ ledger agrees covers.
    let p = err_from_is_err_and c.from_residual-in_err-archive_sets.result c.from_residual-in_err-archive_sets.ensures.1 in
    let first = c.args.self.now in
    let mid = c.post_quotes.new.self in
    let sets = c.args.sets.now in
    let start = lists c.new-batch.result in
    let agrees_first = agrees_at_start ledger first start c.new-batch.ensures agrees in
    let posted = c.in_ok-post_quotes.ensures.posted ledger agrees_first (covers.0, tt) in
    let there = still_covers first mid sets covers.1 posted.0.same in
    rw (p.1, p.2) (λ other. then_sets ledger first mid start (lists c.post_quotes.new.batch) c.args.quotes.now sets c.new-batch.ensures posted ∙ c.in_err-archive_sets.ensures.posted ledger posted.0.agrees (tt, there) other [], λ want. c.in_ok-judge.ensures.judged ledger agrees covers)

pub returns-clause-batch : goal.returns-clause-batch
returns-clause-batch c = λ ledger agrees covers.
    let first = c.args.self.now in
    let mid = c.post_quotes.new.self in
    let sets = c.args.sets.now in
    let start = lists c.new-batch.result in
    let agrees_first = agrees_at_start ledger first start c.new-batch.ensures agrees in
    let posted = c.in_ok-post_quotes.ensures.posted ledger agrees_first (covers.0, tt) in
    let there = still_covers first mid sets covers.1 posted.0.same in
    let archived = c.in_ok-archive_sets.ensures.posted ledger posted.0.agrees (tt, there) in
    all_posted ledger first mid c.archive_sets.new.self start (lists c.post_quotes.new.batch) (lists c.archive_sets.new.batch) c.args.quotes.now sets c.new-batch.ensures posted archived

pub returns-in_err-archive_sets-clause-never_bad : goal.returns-in_err-archive_sets-clause-never_bad
returns-in_err-archive_sets-clause-never_bad c covers =
    let there = still_covers c.args.self.now c.post_quotes.new.self c.args.sets.now covers.1 c.in_ok-post_quotes.ensures.same in
    not_bad c.from_residual-in_err-archive_sets.result c.in_err-archive_sets.field-0.0 c.from_residual-in_err-archive_sets.ensures.1 (λ bad. c.in_err-archive_sets.ensures.never_bad (tt, there) (ap Err bad))
