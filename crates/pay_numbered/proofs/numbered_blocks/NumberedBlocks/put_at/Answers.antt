use Rattle.std.proofs.Common.{arith}
use Rattle.std.specs.FinMap.{get, len}
use Rattle.pay_rules.specs.Judgement.{added_iff}
use Rattle.pay_numbered.proofs.KeptList.{set_numbered, count_of, put_in_place}
use Rattle.pay_numbered.proofs.numbered_blocks.NumberedBlocks.put_at.Goals as goal

pub insert-requires : goal.insert-requires
insert-requires g c = omega (arith, c.requires.within, count_of g.T.Numbered.number g.row.MOST _ c.args.self.now c.self.invariant c.self.view_is)

pub returns-in_err-insert-clause-numbered : goal.returns-in_err-insert-clause-numbered
returns-in_err-insert-clause-numbered g c = set_numbered g.T.Numbered.number g.row.MOST _ (rw c.in_err-insert.ensures.err c.self.invariant)

pub invariant_of-self-2 : goal.invariant_of-self-2
invariant_of-self-2 g c =
    let own = g.T.Numbered in
    let met = g.met.T.Numbered in
    let room = (added_iff own.same met.same_is_one met.one_is_same g.row.MOST c.args.item (get c.args.self.now (own.number c.args.item)) (len c.args.self.now)).0 c.requires.is_new in
    (put_in_place own.number g.row.MOST own.same c.self.inside.items c.insert.new.self c.args.self.now c.args.item c.args.place c.self.invariant c.self.view_is c.requires room.0 room.1 c.in_ok-insert.ensures.ok).1

pub returns-clause-ok : goal.returns-clause-ok
returns-clause-ok g c =
    let own = g.T.Numbered in
    let met = g.met.T.Numbered in
    let room = (added_iff own.same met.same_is_one met.one_is_same g.row.MOST c.args.item (get c.args.self.now (own.number c.args.item)) (len c.args.self.now)).0 c.requires.is_new in
    (put_in_place own.number g.row.MOST own.same c.self.inside.items c.insert.new.self c.args.self.now c.args.item c.args.place c.self.invariant c.self.view_is c.requires room.0 room.1 c.in_ok-insert.ensures.ok).0

pub returns-clause-numbered : goal.returns-clause-numbered
returns-clause-numbered g c = set_numbered g.T.Numbered.number g.row.MOST _ (invariant_of-self-2 g c)
