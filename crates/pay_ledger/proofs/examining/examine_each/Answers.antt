use Rattle.std.proofs.Common.{◌≡◌, rules, pos, take, subst}
use Rattle.std.specs.List.{AllByRecursion}
use Rattle.std.proofs.lemmas.List.{take_all}
use Rattle.pay_ledger.specs.Examined.{PassesRows}
use Rattle.pay_ledger.proofs.Passed.{one_more_passed}
use Rattle.pay_ledger.proofs.Finding.{found_at, up_to_it}
use Rattle.pay_ledger.proofs.examining.examine_each.Goals as goal

pub returns-in-Some-clause-finds : goal.returns-in-Some-clause-finds
returns-in-Some-clause-finds g c =
    found_at (g.E.Examiner.Passes c.args.examiner.now) (g.E.Examiner.Finds c.args.examiner.now) c.args.stretch.now c.args.numbers.now c.loop-number.number-index (pos 0) _ _ _ c.loop-number-test.true (search rules) c.in-Some.is c.in_ok-found.ensures.finds

pub returns-in-Some-clause-up_to : goal.returns-in-Some-clause-up_to
returns-in-Some-clause-up_to g c =
    up_to_it (g.E.Examiner.Passes c.args.examiner.now) (g.E.Examiner.Finds c.args.examiner.now) c.args.stretch.now c.args.numbers.now c.loop-number.number-index (pos 0) _ _ _ c.loop-number-test.true (search rules) c.in-Some.is c.in_ok-found.ensures.finds
    c.loop-number.invariant

pub loop-number-preserved : goal.loop-number-preserved
loop-number-preserved g c =
    one_more_passed (g.E.Examiner.Passes c.args.examiner.now) c.args.stretch.now c.args.numbers.now c.loop-number.number-index (pos 0) _ _ c.loop-number-test.true (search rules) c.in-None.is c.loop-number.invariant c.in_ok-found.ensures.found

pub returns-clause-found : goal.returns-clause-found
returns-clause-found g c rows has =
    let all : take c.loop-number.number-index c.args.numbers.now ≡ c.args.numbers.now = take_all c.loop-number.number-index c.args.numbers.now c.loop-number-test.false in
    subst (AllByRecursion (PassesRows (g.E.Examiner.Passes c.args.examiner.now) rows)) all (c.loop-number.invariant rows has)
