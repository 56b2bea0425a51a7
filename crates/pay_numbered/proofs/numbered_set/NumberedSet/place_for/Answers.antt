use Rattle.std.proofs.Common.{◌≡◌, ◌≢◌, ◌≤◌, ◌<◌, ◌∙◌, ap, subst, sym, false, true, Some, length, rules, arith, Ok, Err}
use Rattle.std.specs.FinMap.{get, len}
use Rattle.std.specs.List.Sorted.{IsBinarySearchResult}
use Rattle.pay_rules.specs.Judgement.{repeat_iff, conflict_iff, full_iff, added_iff}
use Rattle.pay_numbered.proofs.KeptList.{cmp_with, found, not_found, count_of, place_of}
use Rattle.pay_numbered.proofs.numbered_set.NumberedSet.place_for.Goals as goal

pub returns-in-Ok : goal.returns-in-Ok
returns-in-Ok g c =
    let own = g.T.Numbered in
    let met = g.met.T.Numbered in
    let set = c.args.self.now in
    let item = c.args.item.now in
    let there = found own.number g.row.MOST c.self.inside.items.items c.as_slice-items.result.now set (own.number item) c.in-Ok.at c.index-items-at.result c.self.invariant c.self.view_is c.as_slice-items.ensures c.in-Ok.ensures.in_range (subst (λ q. IsBinarySearchResult (cmp_with own.number q) c.as_slice-items.result.now (Ok c.in-Ok.at)) c.number.ensures c.in-Ok.ensures.position) (search rules) in
    let one : c.index-items-at.result ≡ item = met.same_is_one _ _ (search rules) in
    (repeat_iff own.same met.same_is_one met.one_is_same g.row.MOST item (get set (own.number item)) (len set)).1 (there ∙ ap Some one)

pub returns-in-Ok-2 : goal.returns-in-Ok-2
returns-in-Ok-2 g c =
    let own = g.T.Numbered in
    let met = g.met.T.Numbered in
    let set = c.args.self.now in
    let item = c.args.item.now in
    let there = found own.number g.row.MOST c.self.inside.items.items c.as_slice-items.result.now set (own.number item) c.in-Ok.at c.index-items-at.result c.self.invariant c.self.view_is c.as_slice-items.ensures c.in-Ok.ensures.in_range (subst (λ q. IsBinarySearchResult (cmp_with own.number q) c.as_slice-items.result.now (Ok c.in-Ok.at)) c.number.ensures c.in-Ok.ensures.position) (search rules) in
    let differs : own.same c.index-items-at.result item ≡ false = search rules in
    let other : c.index-items-at.result ≢ item = λ one. absurd (let same : own.same c.index-items-at.result item ≡ true = subst (λ x. own.same x item ≡ true) (sym one) (met.one_is_same item) in cc) in
    (conflict_iff own.same met.same_is_one met.one_is_same g.row.MOST item (get set (own.number item)) (len set)).1 (c.index-items-at.result, there, other)

pub returns-in-Err : goal.returns-in-Err
returns-in-Err g c =
    let own = g.T.Numbered in
    let met = g.met.T.Numbered in
    let set = c.args.self.now in
    let item = c.args.item.now in
    let none = not_found own.number g.row.MOST c.self.inside.items.items c.as_slice-items.result.now set (own.number item) c.in-Err.field-0 c.self.invariant c.self.view_is c.as_slice-items.ensures (subst (λ q. IsBinarySearchResult (cmp_with own.number q) c.as_slice-items.result.now (Err c.in-Err.field-0)) c.number.ensures c.in-Err.ensures.position) in
    let full : g.row.MOST ≤ length c.self.inside.items.items = search rules in
    (full_iff own.same met.same_is_one met.one_is_same g.row.MOST item (get set (own.number item)) (len set)).1 (none, omega (arith, full, count_of own.number g.row.MOST _ set c.self.invariant c.self.view_is))

pub returns-in-Err-2 : goal.returns-in-Err-2
returns-in-Err-2 g c =
    let own = g.T.Numbered in
    let met = g.met.T.Numbered in
    let set = c.args.self.now in
    let item = c.args.item.now in
    let room : length c.self.inside.items.items < g.row.MOST = search rules in
    let none = not_found own.number g.row.MOST c.self.inside.items.items c.as_slice-items.result.now set (own.number item) c.in-Err.field-0 c.self.invariant c.self.view_is c.as_slice-items.ensures (subst (λ q. IsBinarySearchResult (cmp_with own.number q) c.as_slice-items.result.now (Err c.in-Err.field-0)) c.number.ensures c.in-Err.ensures.position) in
    let added = (added_iff own.same met.same_is_one met.one_is_same g.row.MOST item (get set (own.number item)) (len set)).1 (none, omega (arith, room, count_of own.number g.row.MOST _ set c.self.invariant c.self.view_is)) in
    place_of own.number g.row.MOST own.same c.self.inside.items.items c.as_slice-items.result.now set item c.in-Err.field-0 c.self.invariant c.self.view_is c.as_slice-items.ensures c.in-Err.ensures.in_range (subst (λ q. IsBinarySearchResult (cmp_with own.number q) c.as_slice-items.result.now (Err c.in-Err.field-0)) c.number.ensures c.in-Err.ensures.position) room added
