use Rattle.std.proofs.Common.{◌≡◌, ◌<◌, length, ap, arith, refl}
use Rattle.pay_journal.proofs.HandedOn.{gotten_none, waits_for, gotten_more, all_accepted, one_missed, missed_fits, put_fits, stands_as_before}
use Rattle.pay_journal.proofs.ahead.hand_on.Goals as goal

pub loop-place-init : goal.loop-place-init
loop-place-init g c = gotten_none g.D.Desk.parts c.args.zone.now c.args.desk.now c.put_lines-left.new.desk c.args.text.now c.put_lines-left.result.now c.put_lines-left.new.tickets.items c.put_lines-left.ensures

pub get_one-why-requires : goal.get_one-why-requires
get_one-why-requires g c =
    let same = c.deref.ensures.0 in
    let below : c.loop-place.place < length c.deref.result.now = omega (arith, c.loop-place-test.true, c.len-place-end.ensures.value, ap length same) in
    waits_for g.D.Desk.parts c.args.zone.now c.args.desk.now c.args.text.now c.put_lines-left.result.now c.put_lines-left.new.tickets.items c.deref.result.now c.loop-place.place _ 0 c.loop-place.desk c.loop-place.missed c.loop-place.invariant same below refl

-- one more
pub loop-place-preserved : goal.loop-place-preserved
loop-place-preserved g c =
    let same = c.deref.ensures.0 in
    let below : c.loop-place.place < length c.deref.result.now = omega (arith, c.loop-place-test.true, c.len-place-end.ensures.value, ap length same) in
    let e = c.get_one-why.ensures in
    gotten_more g.D.Desk.parts c.args.zone.now c.args.desk.now c.args.text.now c.put_lines-left.result.now c.put_lines-left.new.tickets.items c.deref.result.now c.loop-place.place _ 0 c.loop-place.desk c.loop-place.missed c.loop-place.invariant same below refl
    c.get_one-why.new.desk c.get_one-why.result _ _ e.got e.waits e.none_added e.transcript c.first_missed-missed.ensures refl

pub returns-in-Some-clause-step : goal.returns-in-Some-clause-step
returns-in-Some-clause-step g c =
    let all : c.loop-place.place ≡ length c.put_lines-left.new.tickets.items = omega (arith, c.loop-place-test.false, c.loop-place.auto.place-end, c.len-place-end.ensures.value) in
    one_missed g.D.Desk.parts c.args.zone.now c.args.desk.now c.args.text.now c.put_lines-left.result.now c.put_lines-left.new.tickets.items c.loop-place.desk c.loop-place.missed c.loop-place.place c.loop-place.invariant all
    c.in-Some.field-0.place c.in-Some.field-0.why c.in-Some.is

pub returns-in-Some-clause-fits : goal.returns-in-Some-clause-fits
returns-in-Some-clause-fits g c =
    missed_fits g.D.Desk.parts c.args.zone.now c.args.desk.now c.args.text.now c.put_lines-left.result.now c.put_lines-left.new.tickets.items c.loop-place.place c.loop-place.desk c.loop-place.missed c.loop-place.invariant
    c.in-Some.field-0 c.in-Some.is

pub returns-in-None-clause-step : goal.returns-in-None-clause-step
returns-in-None-clause-step g c =
    let all : c.loop-place.place ≡ length c.put_lines-left.new.tickets.items = omega (arith, c.loop-place-test.false, c.loop-place.auto.place-end, c.len-place-end.ensures.value) in
    all_accepted g.D.Desk.parts c.args.zone.now c.args.desk.now c.args.text.now c.put_lines-left.result.now c.put_lines-left.new.tickets.items c.loop-place.desk c.loop-place.missed c.loop-place.place c.loop-place.invariant all
    c.in-None.is c.len.result c.len.ensures.value

pub returns-in-None-clause-fits : goal.returns-in-None-clause-fits
returns-in-None-clause-fits g c =
    put_fits g.D.Desk.parts c.args.zone.now c.args.desk.now c.args.text.now c.put_lines-left.result.now c.put_lines-left.new.tickets.items c.loop-place.place c.loop-place.desk c.loop-place.missed c.loop-place.invariant c.len.result c.len.ensures.value

pub returns-in-Some-clause-same_desk : goal.returns-in-Some-clause-same_desk
returns-in-Some-clause-same_desk g c =
    let all : c.loop-place.place ≡ length c.put_lines-left.new.tickets.items = omega (arith, c.loop-place-test.false, c.loop-place.auto.place-end, c.len-place-end.ensures.value) in
    stands_as_before g.D.Desk.parts c.args.zone.now c.args.desk.now c.args.text.now c.put_lines-left.result.now c.put_lines-left.new.tickets.items c.loop-place.desk c.loop-place.missed c.loop-place.place c.loop-place.invariant all

pub returns-in-None-clause-same_desk : goal.returns-in-None-clause-same_desk
returns-in-None-clause-same_desk g c =
    let all : c.loop-place.place ≡ length c.put_lines-left.new.tickets.items = omega (arith, c.loop-place-test.false, c.loop-place.auto.place-end, c.len-place-end.ensures.value) in
    stands_as_before g.D.Desk.parts c.args.zone.now c.args.desk.now c.args.text.now c.put_lines-left.result.now c.put_lines-left.new.tickets.items c.loop-place.desk c.loop-place.missed c.loop-place.place c.loop-place.invariant all
