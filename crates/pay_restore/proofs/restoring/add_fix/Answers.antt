use Rattle.std.proofs.Common.{sym, ◌∙◌}
use Rattle.std.proofs.lemmas.Result.{err_from_is_err_and}
use Rattle.pay_restore.specs.Filed.{held}
use Rattle.pay_restore.proofs.Steps.{still_from_1, fix_taken, taken_some, fix_restored}
use Rattle.pay_restore.proofs.restoring.add_fix.Goals as goal

pub retake_fix-requires-clause-own : goal.retake_fix-requires-clause-own
retake_fix-requires-clause-own g c = sym (c.take-account.ensures.own c.args.editions.now c.requires)

pub keep-requires : goal.keep-requires
keep-requires g c =
    still_from_1 c.in-Some.fix.account (g.F.Fares.account c.take-account.result) (g.F.Fares.account c.retake_fix.new.account) c.in-Some.ensures.from_1
    (c.take-account.ensures.own c.args.editions.now c.requires) c.retake_fix.ensures.same_account

pub returns-clause-answer : goal.returns-clause-answer
returns-clause-answer g c =
    fix_restored c.args.editions.now (held g.F.Fares.accepted c.args.accounts.now.entries) (held g.F.Fares.accepted c.take-account.new.accounts.entries) (held g.F.Fares.accepted c.keep.new.accounts.entries)
    (g.F.Fares.accepted c.take-account.result) (g.F.Fares.accepted c.retake_fix.new.account) (g.F.Fares.account c.retake_fix.new.account) c.args.row.now c.in-Some.fix c.in-Some.ensures.value c.take-account.ensures.accepted
    c.in_ok-retake_fix.ensures.answer (c.retake_fix.ensures.same_account ∙ c.take-account.ensures.own c.args.editions.now c.requires) c.in_ok-keep.ensures.state c.take-account.ensures.others

pub returns-clause-kept : goal.returns-clause-kept
returns-clause-kept g c = c.in_ok-keep.ensures.kept c.args.editions.now c.retake_fix.ensures.priced_by (c.take-account.ensures.kept c.args.editions.now c.requires)

pub returns-in_err-retake_fix-clause-memory : goal.returns-in_err-retake_fix-clause-memory
returns-in_err-retake_fix-clause-memory g c =
    let p = err_from_is_err_and c.from_residual.result c.from_residual.ensures.1 in
    rw (p.1, p.2) (λ want. fix_taken c.args.editions.now (held g.F.Fares.accepted c.args.accounts.now.entries) (g.F.Fares.accepted c.take-account.result) c.args.row.now c.in-Some.fix c.in-Some.ensures.value
    c.take-account.ensures.accepted (c.in_err-retake_fix.ensures.memory want))

pub returns-in_err-keep-clause-memory : goal.returns-in_err-keep-clause-memory
returns-in_err-keep-clause-memory g c =
    let p = err_from_is_err_and c.from_residual-in_err-keep.result c.from_residual-in_err-keep.ensures.1 in
    rw (p.1, p.2) (λ want. fix_taken c.args.editions.now (held g.F.Fares.accepted c.args.accounts.now.entries) (g.F.Fares.accepted c.take-account.result) c.args.row.now c.in-Some.fix c.in-Some.ensures.value
    c.take-account.ensures.accepted (taken_some _ _ c.in_ok-retake_fix.ensures.answer))
