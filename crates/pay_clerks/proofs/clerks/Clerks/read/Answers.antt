use Rattle.std.proofs.Common.{◌∙◌, ◌+◌, ap, arith, drop, lit<, sym}
use Rattle.std.proofs.lemmas.Iterator.Consumers.{YieldsList-at, YieldsList-end, YieldsList-turn}
use Rattle.std.proofs.lemmas.Iterator.Splits.{YieldsList-from_str_split}
use Rattle.std.proofs.lemmas.List.{length_push}
use Rattle.std.proofs.lemmas.Result.{err_from_is_err_and}
use Rattle.pay_clerks.specs.Files.{lines_of, with_lines}
use Rattle.pay_clerks.proofs.Turns.{last, turn}
use Rattle.pay_clerks.proofs.clerks.Clerks.read.Goals as goal

pub loop-line-preserved : goal.loop-line-preserved
loop-line-preserved c =
    let road = YieldsList-at c.into_iter-line-iterator.ensures.into_iter_gives (YieldsList-from_str_split 10 c.args.text.now (lit< tt) c.split-line-items.ensures.text c.split-line-items.ensures.has_more c.split-line-items.ensures.pattern) in
    let turned = YieldsList-turn road c.loop-line.yielded _ c.loop-line.yielded_by _ _ c.in-Some.line c.in-Some.is c.next.ensures.steps in
    let here = rw (← c.loop-line.invariant.0) at turned in
    let next = turn c.loop-line.number (lines_of c.args.text.now) c.in-Some.line.now c.loop-line.clerks here.0 here.1 in
    (omega (arith, length_push c.loop-line.yielded c.in-Some.line), ap (λ r. with_lines (c.loop-line.number + 1 + 1) r (drop (c.loop-line.number + 1) (lines_of c.args.text.now))) (sym c.in_ok-add_line.ensures.added) ∙ sym next ∙ c.loop-line.invariant.1)

pub returns-in_err-add_line-clause-refused : goal.returns-in_err-add_line-clause-refused
returns-in_err-add_line-clause-refused c =
    let road = YieldsList-at c.into_iter-line-iterator.ensures.into_iter_gives (YieldsList-from_str_split 10 c.args.text.now (lit< tt) c.split-line-items.ensures.text c.split-line-items.ensures.has_more c.split-line-items.ensures.pattern) in
    let turned = YieldsList-turn road c.loop-line.yielded _ c.loop-line.yielded_by _ _ c.in-Some.line c.in-Some.is c.next.ensures.steps in
    let here = rw (← c.loop-line.invariant.0) at turned in
    let next = turn c.loop-line.number (lines_of c.args.text.now) c.in-Some.line.now c.loop-line.clerks here.0 here.1 in
    let fault = err_from_is_err_and c.from_residual.result c.from_residual.ensures.1 in
    rw (fault.1, fault.2) (λ real. sym c.loop-line.invariant.1 ∙ next ∙ ap (λ r. with_lines (c.loop-line.number + 1 + 1) r (drop (c.loop-line.number + 1) (lines_of c.args.text.now))) (c.in_err-add_line.ensures.refused real))

pub returns-clause-read : goal.returns-clause-read
returns-clause-read c =
    let road = YieldsList-at c.into_iter-line-iterator.ensures.into_iter_gives (YieldsList-from_str_split 10 c.args.text.now (lit< tt) c.split-line-items.ensures.text c.split-line-items.ensures.has_more c.split-line-items.ensures.pattern) in
    let ended = YieldsList-end road c.loop-line.yielded _ c.loop-line.yielded_by _ _ c.in-None.is c.next.ensures.steps in
    sym c.loop-line.invariant.1 ∙ last c.loop-line.number (lines_of c.args.text.now) c.loop-line.clerks (c.loop-line.invariant.0 ∙ ended.1)
