use Rattle.std.proofs.Common.{◌≡◌, ◌+◌, subst, arith, refl}
use Rattle.pay_journal.specs.Replays.{IsEndedAt}
use Rattle.pay_journal.proofs.Replays.{underway_none, underway_both, all_taken, one_ended, ended_both, told_of, finished}
use Rattle.pay_journal.proofs.replaying.replay.Goals as goal

pub loop-line-init : goal.loop-line-init
loop-line-init g c = underway_none c.args.zone.now g.D.Desk.parts c.args.text.now c.args.desk.now

pub loop-line-preserved : goal.loop-line-preserved
loop-line-preserved g c =
    let s = c.take_some-step in
    underway_both c.args.zone.now g.D.Desk.parts c.args.text.now c.args.desk.now c.loop-line.desk s.new.desk c.loop-line.ahead.now s.result.left.now c.loop-line.lines s.result.lines c.loop-line.invariant
    (all_taken c.args.zone.now g.D.Desk.parts c.loop-line.desk s.new.desk c.loop-line.ahead.now s.result.left.now s.result.lines s.result.ended s.ensures.step c.in_default-ended.is)

pub returns-in-Some-ended-clause-ended : goal.returns-in-Some-ended-clause-ended
returns-in-Some-ended-clause-ended g c =
    let s = c.take_some-step in
    let its = one_ended c.args.zone.now g.D.Desk.parts c.loop-line.desk s.new.desk c.loop-line.ahead.now s.result.left.now s.result.lines s.result.ended c.in-Some-ended.why s.ensures.step c.in-Some-ended.is in
    let here : c.loop-line.lines + (s.result.lines + 1) ≡ c.loop-line.lines + s.result.lines + 1 = omega arith in
    told_of c.args.zone.now g.D.Desk.parts c.args.text.now c.args.desk.now s.new.desk (c.loop-line.lines + s.result.lines + 1) c.in-Some-ended.why c.fault_at.result
    (subst (λ line. IsEndedAt c.args.zone.now g.D.Desk.parts c.args.desk.now s.new.desk c.args.text.now line c.in-Some-ended.why) here
    (ended_both c.args.zone.now g.D.Desk.parts c.args.text.now c.args.desk.now c.loop-line.desk s.new.desk c.loop-line.ahead.now c.loop-line.lines (s.result.lines + 1) c.in-Some-ended.why c.loop-line.invariant s.ensures.transcript its))
    c.fault_at.ensures

pub returns-clause-replayed : goal.returns-clause-replayed
returns-clause-replayed g c =
    finished c.args.zone.now g.D.Desk.parts c.line_by_line.ensures c.args.text.now _ c.loop-line.desk c.loop-line.ahead.now c.loop-line.lines _ c.loop-line.invariant c.in_default.ensures.none refl
