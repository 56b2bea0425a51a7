use Rattle.std.proofs.Common.{rules, Err, drop, ap, ◌+◌, ◌∙◌}
use Rattle.std.proofs.lemmas.Result.{err_from_is_err_and}
use Rattle.pay_rules.specs.SetsParts.{SetsParts}
use Rattle.pay_postings.specs.Batches.{lists}
use Rattle.pay_postings.proofs.Loops.{next_left, one_there, sets_on, sets_refused}
use Rattle.pay_postings.proofs.NeverBad.{not_bad}
use Rattle.pay_postings.proofs.accounts.LedgerAccounts.archive_sets.Goals as goal

pub returns-in_err-archive_set-clause-posted : goal.returns-in_err-archive_set-clause-posted
returns-in_err-archive_set-clause-posted c = λ ledger agrees covers.
    let p = err_from_is_err_and c.from_residual.result c.from_residual.ensures.1 in
    let sets = c.args.sets.now in
    let place = c.loop-set.set-index in
    let set = c.set-item.result in
    let so_far = c.loop-set.invariant.posted ledger agrees covers in
    let left = next_left sets place set (search rules) (search rules) in
    let there = one_there (λ (s : SetsParts). s.account) c.args.self.now c.loop-set.self sets place set covers.1 (search rules) (search rules) so_far.0.same in
    rw (p.1, p.2) (λ other later. sets_refused ledger c.args.self.now c.loop-set.self (lists c.args.batch.now) (lists c.loop-set.batch) sets (drop place sets) (drop (place + 1) sets) set _ so_far left
    (c.in_err-archive_set.ensures.posted ledger so_far.0.agrees (tt, (there, tt)) other) later)

pub loop-set-preserved : goal.loop-set-preserved
loop-set-preserved c = record {
  same = λ account. c.in_ok-archive_set.ensures.same account ∙ c.loop-set.invariant.same account;
  posted = λ ledger agrees covers.
      let sets = c.args.sets.now in
      let place = c.loop-set.set-index in
      let set = c.set-item.result in
      let so_far = c.loop-set.invariant.posted ledger agrees covers in
      let left = next_left sets place set (search rules) (search rules) in
      let there = one_there (λ (s : SetsParts). s.account) c.args.self.now c.loop-set.self sets place set covers.1 (search rules) (search rules) so_far.0.same in
      sets_on ledger c.args.self.now c.loop-set.self c.archive_set.new.self (lists c.args.batch.now) (lists c.loop-set.batch) (lists c.archive_set.new.batch) sets (drop place sets) (drop (place + 1) sets) set so_far left
      (c.in_ok-archive_set.ensures.posted ledger so_far.0.agrees (tt, (there, tt)));
}

pub returns-in_err-archive_set-clause-never_bad : goal.returns-in_err-archive_set-clause-never_bad
returns-in_err-archive_set-clause-never_bad c covers =
    let there = one_there (λ (x : SetsParts). x.account) c.args.self.now c.loop-set.self c.args.sets.now c.loop-set.set-index c.set-item.result covers.1 (search rules) (search rules) c.loop-set.invariant.same in
    not_bad c.from_residual.result c.in_err-archive_set.field-0.0 c.from_residual.ensures.1 (λ bad. c.in_err-archive_set.ensures.never_bad (tt, (there, tt)) (ap Err bad))
