use Rattle.std.proofs.Common.{rules, sym, ap, ◌∙◌}
use Rattle.std.specs.Prelude.{find}
use Rattle.pay_rules.specs.SetsParts.{SetsParts}
use Rattle.pay_postings.specs.Archive.{is_fix_numbered_as}
use Rattle.pay_postings.proofs.SetsJudged.{found_here, found_later, none_lent}
use Rattle.pay_postings.proofs.judging.fix_in_sets.Goals as goal

pub returns-in-Some : goal.returns-in-Some
returns-in-Some c =
    let test = is_fix_numbered_as c.args.fix.now in
    sym (found_here (λ (s : SetsParts). s.fixes) test c.args.sets.now c.loop-set.set-index c.set-item.result c.loop-set-test.true (search rules) c.in-Some.there.now (sym (c.in-Some.ensures ∙ ap (find test) c.fixes.ensures.value))) ∙ c.loop-set.invariant

pub loop-set-preserved : goal.loop-set-preserved
loop-set-preserved c =
    let test = is_fix_numbered_as c.args.fix.now in
    sym (found_later (λ (s : SetsParts). s.fixes) test c.args.sets.now c.loop-set.set-index c.set-item.result c.loop-set-test.true (search rules)
    (sym (sym (none_lent c.fix_among.result c.in_default.not-Some) ∙ c.fix_among.ensures ∙ ap (find test) c.fixes.ensures.value))) ∙ c.loop-set.invariant
