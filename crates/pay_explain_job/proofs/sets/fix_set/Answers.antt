use Rattle.std.proofs.Common.{◌≤◌, ◌∙◌, ap, length, rules}
use Rattle.std.proofs.lemmas.List.{take_all}
use Rattle.pay_rules.specs.Fixes.{number}
use Rattle.pay_explain_job.specs.Numbered.{set_of}
use Rattle.pay_explain_job.proofs.Values.{next}
use Rattle.pay_explain_job.proofs.sets.fix_set.Goals as goal

pub loop-fix-preserved : goal.loop-fix-preserved
loop-fix-preserved c =
    let added = c.in_ok-add_fix.ensures in
    next number c.loop-fix.set c.add_fix.new.set c.args.fixes.now c.loop-fix.fix-index c.fix-item.result c.loop-fix-test.true c.fix-item.is added.own_number added.added c.loop-fix.invariant

pub returns : goal.returns
returns c =
    let many : length c.args.fixes.now ≤ c.loop-fix.fix-index = search rules in
    c.loop-fix.invariant ∙ ap (set_of number) (take_all c.loop-fix.fix-index c.args.fixes.now many)
