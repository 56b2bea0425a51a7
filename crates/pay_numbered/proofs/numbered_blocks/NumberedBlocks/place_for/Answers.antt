use Rattle.std.proofs.Common.{◌≡◌, ◌≢◌, ◌≤◌, ◌<◌, ◌∙◌, ap, subst, sym, refl, false, true, Some, length, rules, arith, Ok, Err}
use Rattle.std.specs.FinMap.{get, len}
use Rattle.pay_numbered.specs.Sound.{IsSought}
use Rattle.pay_rules.specs.Judgement.{repeat_iff, conflict_iff, full_iff, added_iff}
use Rattle.pay_numbered.proofs.KeptList.{count_of, place_of}
use Rattle.pay_numbered.proofs.SoughtNumber.{has, has_none}
use Rattle.pay_numbered.proofs.numbered_blocks.NumberedBlocks.place_for.Goals as goal

pub returns-in-Ok : goal.returns-in-Ok
returns-in-Ok g c =
    let own = g.T.Numbered in
    let met = g.met.T.Numbered in
    let set = c.args.self.now in
    let item = c.args.item.now in
    let list = c.self.inside.items in
    let there = has own.number g.row.MOST list set (own.number item) c.in-Ok.there c.self.invariant c.self.view_is (subst (λ q. IsSought own.number q list (Ok c.in-Ok.there)) c.number.ensures c.in-Ok.ensures) in
    let one : c.in-Ok.there.1 ≡ item = met.same_is_one _ _ (search rules) in
    (repeat_iff own.same met.same_is_one met.one_is_same g.row.MOST item (get set (own.number item)) (len set)).1 (there ∙ ap Some one)

pub returns-in-Ok-2 : goal.returns-in-Ok-2
returns-in-Ok-2 g c =
    let own = g.T.Numbered in
    let met = g.met.T.Numbered in
    let set = c.args.self.now in
    let item = c.args.item.now in
    let list = c.self.inside.items in
    let there = has own.number g.row.MOST list set (own.number item) c.in-Ok.there c.self.invariant c.self.view_is (subst (λ q. IsSought own.number q list (Ok c.in-Ok.there)) c.number.ensures c.in-Ok.ensures) in
    let differs : own.same c.in-Ok.there.1 item ≡ false = search rules in
    let other : c.in-Ok.there.1 ≢ item = λ one. absurd (let same : own.same c.in-Ok.there.1 item ≡ true = subst (λ x. own.same x item ≡ true) (sym one) (met.one_is_same item) in cc) in
    (conflict_iff own.same met.same_is_one met.one_is_same g.row.MOST item (get set (own.number item)) (len set)).1 (c.in-Ok.there.1, there, other)

pub returns-in-Err : goal.returns-in-Err
returns-in-Err g c =
    let own = g.T.Numbered in
    let met = g.met.T.Numbered in
    let set = c.args.self.now in
    let item = c.args.item.now in
    let list = c.self.inside.items in
    let none = has_none own.number g.row.MOST list set (own.number item) c.in-Err.field-0 c.self.invariant c.self.view_is (subst (λ q. IsSought own.number q list (Err c.in-Err.field-0)) c.number.ensures c.in-Err.ensures) in
    let full : g.row.MOST ≤ length list = search rules in
    (full_iff own.same met.same_is_one met.one_is_same g.row.MOST item (get set (own.number item)) (len set)).1 (none, omega (arith, full, count_of own.number g.row.MOST _ set c.self.invariant c.self.view_is))

pub returns-in-Err-2 : goal.returns-in-Err-2
returns-in-Err-2 g c =
    let own = g.T.Numbered in
    let met = g.met.T.Numbered in
    let set = c.args.self.now in
    let item = c.args.item.now in
    let list = c.self.inside.items in
    let room : length list < g.row.MOST = search rules in
    let sought = subst (λ q. IsSought own.number q list (Err c.in-Err.field-0)) c.number.ensures c.in-Err.ensures in
    let none = has_none own.number g.row.MOST list set (own.number item) c.in-Err.field-0 c.self.invariant c.self.view_is sought in
    let added = (added_iff own.same met.same_is_one met.one_is_same g.row.MOST item (get set (own.number item)) (len set)).1 (none, omega (arith, room, count_of own.number g.row.MOST _ set c.self.invariant c.self.view_is)) in
    place_of own.number g.row.MOST own.same list list set item c.in-Err.field-0 c.self.invariant c.self.view_is refl sought.1 sought.0 room added
