use Rattle.std.proofs.Common.{◌≡◌, None, rules, arith}
use Rattle.pay_journal.proofs.Replays.{underway_line, ended_at, handed_none_of}
use Rattle.pay_journal.proofs.replaying.take_some.Goals as goal

pub returns-in-Some-clause-step : goal.returns-in-Some-clause-step
returns-in-Some-clause-step g c =
    ended_at c.args.zone.now g.D.Desk.parts c.line_by_line.ensures c.args.text.now c.args.desk.now c.hand_on-handed.new.desk c.replay_line.new.desk c.args.text.now c.args.line.now c.args.rest.now 0 c.replay_line.result c.in-Some.why
    (handed_none_of c.args.zone.now g.D.Desk.parts c.args.text.now c.args.desk.now c.hand_on-handed.new.desk c.hand_on-handed.result.left.now c.hand_on-handed.result.lines c.hand_on-handed.result.ended c.hand_on-handed.ensures.step c.is_some.result c.is_some.ensures c.if-is_some.false (λ some. omega (arith, some, c.if-handed-gt0.false)))
    c.requires.parts c.requires.line c.replay_line.ensures.step c.in-Some.is

pub returns-in-None-clause-step : goal.returns-in-None-clause-step
returns-in-None-clause-step g c =
    let none : c.replay_line.result ≡ None = search rules in
    underway_line c.args.zone.now g.D.Desk.parts c.line_by_line.ensures c.args.text.now c.args.desk.now c.hand_on-handed.new.desk c.replay_line.new.desk c.args.text.now c.args.line.now c.args.rest.now 0 c.replay_line.result
    (handed_none_of c.args.zone.now g.D.Desk.parts c.args.text.now c.args.desk.now c.hand_on-handed.new.desk c.hand_on-handed.result.left.now c.hand_on-handed.result.lines c.hand_on-handed.result.ended c.hand_on-handed.ensures.step c.is_some.result c.is_some.ensures c.if-is_some.false (λ some. omega (arith, some, c.if-handed-gt0.false)))
    c.requires.parts c.requires.line c.replay_line.ensures.step none
