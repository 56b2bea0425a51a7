use Rattle.std.proofs.Common.{subst, rules, arith}
use Rattle.std.specs.FinMap.{get, len}
use Rattle.pay_numbered.specs.Sound.{IsPlace}
use Rattle.pay_rules.specs.Numbers.{IsNumbered}
use Rattle.pay_rules.specs.Judgement.{added_iff}
use Rattle.pay_numbered.proofs.KeptList.{set_numbered, count_of, put_in_place}
use Rattle.pay_numbered.proofs.numbered_set.NumberedSet.add.Goals as goal

pub returns-in_err-at-clause-numbered : goal.returns-in_err-at-clause-numbered
returns-in_err-at-clause-numbered g c = subst (IsNumbered g.T.Numbered.number g.row.MOST) c.self.view_is (set_numbered g.T.Numbered.number g.row.MOST _ c.self.invariant)

pub returns-in_default-clause-numbered : goal.returns-in_default-clause-numbered
returns-in_default-clause-numbered g c = subst (IsNumbered g.T.Numbered.number g.row.MOST) c.self.view_is (set_numbered g.T.Numbered.number g.row.MOST _ c.self.invariant)

pub insert-requires : goal.insert-requires
insert-requires g c =
    let place : IsPlace g.T.Numbered.same g.T.Numbered.number g.row.MOST c.in-Some.at c.args.self.now c.args.item = search rules in
    omega (arith, place.within, count_of g.T.Numbered.number g.row.MOST _ c.args.self.now c.self.invariant c.self.view_is)

pub returns-in_err-insert-clause-numbered : goal.returns-in_err-insert-clause-numbered
returns-in_err-insert-clause-numbered g c = set_numbered g.T.Numbered.number g.row.MOST _ (rw c.in_err-insert.ensures.err c.self.invariant)

pub invariant_of-self-2 : goal.invariant_of-self-2
invariant_of-self-2 g c =
    let own = g.T.Numbered in
    let met = g.met.T.Numbered in
    let place : IsPlace own.same own.number g.row.MOST c.in-Some.at c.args.self.now c.args.item = search rules in
    let room = (added_iff own.same met.same_is_one met.one_is_same g.row.MOST c.args.item (get c.args.self.now (own.number c.args.item)) (len c.args.self.now)).0 place.is_new in
    (put_in_place own.number g.row.MOST own.same c.self.inside.items.items c.insert.new.self.items c.args.self.now c.args.item c.in-Some.at c.self.invariant c.self.view_is place room.0 room.1 c.in_ok-insert.ensures.ok).1

pub returns-clause-after : goal.returns-clause-after
returns-clause-after g c =
    let own = g.T.Numbered in
    let met = g.met.T.Numbered in
    let place : IsPlace own.same own.number g.row.MOST c.in-Some.at c.args.self.now c.args.item = search rules in
    let room = (added_iff own.same met.same_is_one met.one_is_same g.row.MOST c.args.item (get c.args.self.now (own.number c.args.item)) (len c.args.self.now)).0 place.is_new in
    (put_in_place own.number g.row.MOST own.same c.self.inside.items.items c.insert.new.self.items c.args.self.now c.args.item c.in-Some.at c.self.invariant c.self.view_is place room.0 room.1 c.in_ok-insert.ensures.ok).0

pub returns-clause-numbered : goal.returns-clause-numbered
returns-clause-numbered g c = set_numbered g.T.Numbered.number g.row.MOST _ (invariant_of-self-2 g c)
