use Rattle.std.proofs.Common.{◌≡◌, ◌++◌, [], Ok, Some, IfNone, IfSome, rules, sym, ap, subst, ◌∙◌, append_assoc}
use Rattle.std.specs.List.{AllByRecursion}
use Rattle.std.specs.Slice.Iter.{chunks_rest}
use Rattle.sqlite.specs.Held.{state}
use Rattle.pay_ledger.specs.Examined.{PassesRows, PassUpTo, IsFoundAmong}
use Rattle.pay_ledger.specs.Steps.{FindsRows}
use Rattle.pay_ledger.proofs.Along.{was, and_on, and_gone, and_stopped, not_begun}
use Rattle.pay_ledger.proofs.Distinct.{ascend_part}
use Rattle.pay_ledger.proofs.Passed.{none_passed, more_passed}
use Rattle.pay_ledger.proofs.Finding.{found_later, first_later}
use Rattle.pay_ledger.proofs.examining.examine_all.Goals as goal

pub loop-some-init : goal.loop-some-init
loop-some-init g c = (search rules, tt, search rules, not_begun g.S.Store c.args.tx.now.conn, [], search rules, none_passed (g.E.Examiner.Passes c.args.examiner.now) (state g.S.Store c.args.tx.now.conn.now))

pub examine_stretch-requires-clause-ascend : goal.examine_stretch-requires-clause-ascend
examine_stretch-requires-clause-ascend g c =
    let done = c.loop-some.invariant.4 in
    let are : done ++ (c.in-Some.some.now ++ chunks_rest c.next.new.self) ≡ c.args.numbers.now = ap (λ l. done ++ l) (sym c.in-Some.ensures.steps.1.0) ∙ c.loop-some.invariant.5 in
    ascend_part done c.in-Some.some.now (chunks_rest c.next.new.self) c.args.numbers.now are c.requires.ascend

pub returns-in_err-found-clause-step : goal.returns-in_err-found-clause-step
returns-in_err-found-clause-step g c = and_stopped g.S.Store c.from_residual.result c.loop-some.invariant.3 _ c.from_residual.ensures.1 c.in_err-found.ensures.step

pub returns-in-Some-2-clause-step : goal.returns-in-Some-2-clause-step
returns-in-Some-2-clause-step g c = and_gone g.S.Store _ c.loop-some.invariant.3 c.in_ok-found.ensures.step

pub returns-in-Some-2-clause-finds : goal.returns-in-Some-2-clause-finds
returns-in-Some-2-clause-finds g c clean =
    let done = c.loop-some.invariant.4 in
    let are : done ++ (c.in-Some.some.now ++ chunks_rest c.next.new.self) ≡ c.args.numbers.now = ap (λ l. done ++ l) (sym c.in-Some.ensures.steps.1.0) ∙ c.loop-some.invariant.5 in
    let first = state g.S.Store c.args.tx.now.conn.now in
    let before = state g.S.Store c.loop-some.tx.conn.now in
    let after = state g.S.Store c.examine_stretch.new.tx.conn.now in
    let passed = c.loop-some.invariant.6.found (was g.S.Store {r = Ok c.in_ok-found.field-0} c.in_ok-found.ensures.step clean) in
    let Finds = g.E.Examiner.Finds c.args.examiner.now in
    found_later Finds first before after done c.in-Some.some.now (chunks_rest c.next.new.self) c.args.numbers.now (Some c.in-Some-2.found) are (λ rows k. (tt, (passed rows k).1))
    (subst (λ o. FindsRows before after (λ rows. IfSome o (IsFoundAmong Finds c.in-Some.some.now rows))) c.in-Some-2.is (c.in_ok-found.ensures.finds clean))

pub returns-in-Some-2-clause-up_to : goal.returns-in-Some-2-clause-up_to
returns-in-Some-2-clause-up_to g c clean =
    let done = c.loop-some.invariant.4 in
    let are : done ++ (c.in-Some.some.now ++ chunks_rest c.next.new.self) ≡ c.args.numbers.now = ap (λ l. done ++ l) (sym c.in-Some.ensures.steps.1.0) ∙ c.loop-some.invariant.5 in
    let first = state g.S.Store c.args.tx.now.conn.now in
    let before = state g.S.Store c.loop-some.tx.conn.now in
    let after = state g.S.Store c.examine_stretch.new.tx.conn.now in
    let passed = c.loop-some.invariant.6.found (was g.S.Store {r = Ok c.in_ok-found.field-0} c.in_ok-found.ensures.step clean) in
    let Passes = g.E.Examiner.Passes c.args.examiner.now in
    first_later Passes first before after done c.in-Some.some.now (chunks_rest c.next.new.self) c.args.numbers.now (Some c.in-Some-2.found) are passed
    (subst (λ o. FindsRows before after (λ rows. IfSome o (λ it. PassUpTo Passes c.in-Some.some.now rows it.0))) c.in-Some-2.is (c.in_ok-found.ensures.up_to clean))

pub loop-some-preserved : goal.loop-some-preserved
loop-some-preserved g c =
    let done = c.loop-some.invariant.4 in
    let steps = c.in-Some.ensures.steps in
    let are : done ++ (c.in-Some.some.now ++ chunks_rest c.next.new.self) ≡ c.args.numbers.now = ap (λ l. done ++ l) (sym steps.1.0) ∙ c.loop-some.invariant.5 in
    let step = c.in_ok-found.ensures.step in
    let first = state g.S.Store c.args.tx.now.conn.now in
    let before = state g.S.Store c.loop-some.tx.conn.now in
    let after = state g.S.Store c.examine_stretch.new.tx.conn.now in
    let Passes = g.E.Examiner.Passes c.args.examiner.now in (
      search rules,
      tt,
      steps.0 ∙ c.loop-some.invariant.2,
      and_on g.S.Store c.loop-some.invariant.3 step,
      done ++ c.in-Some.some.now,
      append_assoc done c.in-Some.some.now (chunks_rest c.next.new.self) ∙ are,
      more_passed Passes first before after done c.in-Some.some.now (was g.S.Store {r = Ok c.in_ok-found.field-0} step) c.loop-some.invariant.6
          (λ clean. subst (λ o. FindsRows before after (λ rows. IfNone o (AllByRecursion (PassesRows Passes rows) c.in-Some.some.now))) c.in-None-2.is (c.in_ok-found.ensures.found clean)),
    )
