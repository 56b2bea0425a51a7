use Rattle.std.proofs.Common.{arith, ◌<◌, ◌≤◌, ◌-◌, ◌^◌, length}
use Rattle.pay_book.proofs.Marks.{reached, marked_around, all_marked}
use Rattle.pay_book.proofs.rail.mark_again.Goals as goal

pub loop-at-init : goal.loop-at-init
loop-at-init c =
    let low : c.saturating_sub-at.result ≤ c.args.place - 1 = omega arith in
    let few : length c.args.marks.now < 2 ^ 64 = omega arith in
    record {
      marked = marked_around c.args.editions.now c.args.rail.now.touches c.args.place _ c.min-end.result c.args.marks.now c.requires low
          (reached c.args.place c.saturating_add.result c.min-end.result (length c.args.marks.now) c.saturating_add.ensures c.min-end.ensures few);
      span = omega arith;
      rises = omega arith;
      steps = omega arith;
    }

pub returns-clause-marks : goal.returns-clause-marks
returns-clause-marks c =
    all_marked c.args.editions.now c.args.rail.now.touches c.loop-at.at c.min-end.result c.loop-at.marks (omega arith) c.loop-at.invariant.marked

pub returns-clause-steps : goal.returns-clause-steps
returns-clause-steps c =
    let few : c.loop-at.at - c.saturating_sub-at.result ≤ 4 = omega arith in
    omega arith
