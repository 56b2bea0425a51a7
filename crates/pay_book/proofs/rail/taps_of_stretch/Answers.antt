use Rattle.std.proofs.Common.{arith, ◌≡◌, ◌∙◌, sym}
use Rattle.pay_book.specs.Fewer.{fewer_of}
use Rattle.pay_book.proofs.Between.{none_in, grown, up_to}
use Rattle.pay_book.proofs.rail.taps_of_stretch.Goals as goal

pub loop-at-init : goal.loop-at-init
loop-at-init c = record {
  taps = c.in_ok-taps.ensures.items ∙ sym (none_in (fewer_of c.args.is_there c.args.place c.args.rail.now.touches) c.args.stretch.now.from);
  rises = omega arith;
  steps = omega arith;
}

pub loop-at-preserved : goal.loop-at-preserved
loop-at-preserved c = record {
  taps = grown (fewer_of c.args.is_there c.args.place c.args.rail.now.touches) c.args.stretch.now.from c.loop-at.at c.loop-at.taps.items _ c.tap_at.result (omega arith)
      c.in_ok-add_tap.ensures c.loop-at.invariant.taps c.tap_at.ensures.value;
  rises = omega arith;
  steps = omega arith;
}

pub returns-clause-taps : goal.returns-clause-taps
returns-clause-taps c =
    let e : c.loop-at.at ≡ c.args.stretch.now.to = omega arith in
    up_to (fewer_of c.args.is_there c.args.place c.args.rail.now.touches) c.args.stretch.now.from c.loop-at.at c.args.stretch.now.to _ e c.loop-at.invariant.taps
