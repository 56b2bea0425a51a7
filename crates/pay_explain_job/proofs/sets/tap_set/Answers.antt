use Rattle.std.proofs.Common.{◌≤◌, ◌∙◌, ap, length, rules}
use Rattle.std.proofs.lemmas.List.{take_all}
use Rattle.pay_rules.specs.Taps.{number}
use Rattle.pay_explain_job.specs.Numbered.{set_of}
use Rattle.pay_explain_job.proofs.Values.{next}
use Rattle.pay_explain_job.proofs.sets.tap_set.Goals as goal

pub loop-tap-preserved : goal.loop-tap-preserved
loop-tap-preserved c =
    let added = c.in_ok-add_tap.ensures in
    next number c.loop-tap.set c.add_tap.new.set c.args.taps.now c.loop-tap.tap-index c.tap-item.result c.loop-tap-test.true c.tap-item.is added.own_number added.added c.loop-tap.invariant

pub returns : goal.returns
returns c =
    let many : length c.args.taps.now ≤ c.loop-tap.tap-index = search rules in
    c.loop-tap.invariant ∙ ap (set_of number) (take_all c.loop-tap.tap-index c.args.taps.now many)
