use Rattle.std.proofs.Common.{false, refl, ap, sym, ◌∙◌, arith, length}
use Rattle.pay_book.proofs.LastPaid.{last_before, marks_each, passed, found}
use Rattle.pay_book.proofs.boardings.last_paid_before.Goals as goal

pub loop-before-init : goal.loop-before-init
loop-before-init c = record { last = last_before c.last_paid_by_marks.ensures.same c.args.tables.now.rules.hopper c.args.buses.now.touches c.args.pays.now c.args.place c.requires.marks; steps = refl }

pub bounds-pays-before : goal.bounds-pays-before
bounds-pays-before c =
    let each = ap length c.requires.marks ∙ marks_each c.args.tables.now.rules.hopper _ c.args.buses.now.touches in
    omega arith

pub returns-then-pays-before-clause-value : goal.returns-then-pays-before-clause-value
returns-then-pays-before-clause-value c =
    let each = ap length c.requires.marks ∙ marks_each c.args.tables.now.rules.hopper _ c.args.buses.now.touches in
    let last = found c.last_paid_by_marks.ensures.from_after c.args.pays.now c.args.buses.now.touches c.loop-before.before false each (omega arith) (omega arith) c.if-pays-before.true in
    c.moment_at.ensures.value ∙ last ∙ sym c.loop-before.invariant.last

pub loop-before-preserved : goal.loop-before-preserved
loop-before-preserved c =
    let each = ap length c.requires.marks ∙ marks_each c.args.tables.now.rules.hopper _ c.args.buses.now.touches in
    record {
      last = c.loop-before.invariant.last
          ∙ passed c.last_paid_by_marks.ensures.from_after c.args.pays.now c.args.buses.now.touches c.loop-before.before false each (omega arith) (omega arith) c.if-pays-before.false;
      steps = c.loop-before.invariant.steps;
    }
