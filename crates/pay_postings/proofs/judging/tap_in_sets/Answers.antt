use Rattle.std.proofs.Common.{rules, sym, ap, ◌∙◌}
use Rattle.std.specs.Prelude.{find}
use Rattle.pay_rules.specs.SetsParts.{SetsParts}
use Rattle.pay_postings.specs.Archive.{is_numbered_as}
use Rattle.pay_postings.proofs.SetsJudged.{found_here, found_later, none_lent}
use Rattle.pay_postings.proofs.judging.tap_in_sets.Goals as goal

pub returns-in-Some : goal.returns-in-Some
returns-in-Some c =
    let test = is_numbered_as c.args.tap.now in
    sym (found_here (λ (s : SetsParts). s.taps) test c.args.sets.now c.loop-set.set-index c.set-item.result c.loop-set-test.true (search rules) c.in-Some.there.now (sym (c.in-Some.ensures ∙ ap (find test) c.taps.ensures.value))) ∙ c.loop-set.invariant

pub loop-set-preserved : goal.loop-set-preserved
loop-set-preserved c =
    let test = is_numbered_as c.args.tap.now in
    sym (found_later (λ (s : SetsParts). s.taps) test c.args.sets.now c.loop-set.set-index c.set-item.result c.loop-set-test.true (search rules)
    (sym (sym (none_lent c.tap_among.result c.in_default.not-Some) ∙ c.tap_among.ensures ∙ ap (find test) c.taps.ensures.value))) ∙ c.loop-set.invariant
