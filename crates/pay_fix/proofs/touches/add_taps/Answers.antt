use Rattle.std.proofs.Common.{◌∙◌, sym, arith}
use Rattle.std.specs.FinMap.{values}
use Rattle.pay_fix.proofs.Few.{as_many}
use Rattle.pay_fix.proofs.Runs.{run_within, run_added, all_added}
use Rattle.pay_fix.proofs.touches.add_taps.Goals as goal

pub loop-place-preserved : goal.loop-place-preserved
loop-place-preserved c =
    let many = as_many c.args.taps.now in
    let before = c.loop-place.invariant in
    let within = run_within (values c.args.taps.now) c.run_from-run.result.now c.loop-place.place c.run_from-run.ensures.items (omega (arith, before.within)) in
    record {
      within = omega arith;
      value = before.value ∙ run_added c.args.fixes.now (values c.args.taps.now) c.run_from-run.result.now c.loop-place.place _ _ c.run_from-run.ensures.items c.in_ok-add_run.ensures.value;
      few = omega (arith, before.few, c.in_ok-add_run.ensures.few);
    }

pub returns-clause-value : goal.returns-clause-value
returns-clause-value c =
    let many = as_many c.args.taps.now in
    sym (c.loop-place.invariant.value ∙ all_added c.args.fixes.now (values c.args.taps.now) c.loop-place.place _ (omega (arith, c.loop-place-test.false, c.len.ensures.value)))
