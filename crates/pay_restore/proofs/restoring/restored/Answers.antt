use Rattle.std.proofs.Common.{ℕ, List, map, ap, sym, ◌∙◌, subst}
use Rattle.std.specs.List.Sorted.{IsStrictlySortedBy}
use Rattle.std.specs.Ordering.{nat_cmp}
use Rattle.std.proofs.lemmas.Map.Keys.{IsDistinct-from_sorted}
use Rattle.std.proofs.lemmas.Result.{err_from_is_err_and}
use Rattle.pay_rules.specs.State.{ArePriced}
use Rattle.pay_restore.specs.Filed.{held}
use Rattle.pay_restore.proofs.AtNumbers.{none_held, all_in_order, numbers, all_priced}
use Rattle.pay_restore.proofs.Steps.{tap_refused, fix_refused, all_restored}
use Rattle.pay_restore.proofs.restoring.restored.Goals as goal

pub returns-in_err-add_taps-clause-answer : goal.returns-in_err-add_taps-clause-answer
returns-in_err-add_taps-clause-answer g c =
    let p = err_from_is_err_and c.from_residual.result c.from_residual.ensures.1 in
    let start = held g.F.Fares.accepted c.new-accounts.result.entries in
    let nothing = ap (held g.F.Fares.accepted) c.new-accounts.ensures.empty ∙ none_held g.F.Fares.accepted in
    rw (p.1, p.2) (λ other. let refused = c.in_err-add_taps.ensures.answer other in (refused.0, tap_refused c.args.editions.now c.args.taps.now c.args.fixes.now start nothing refused.1))

pub returns-in_err-add_fixes-clause-answer : goal.returns-in_err-add_fixes-clause-answer
returns-in_err-add_fixes-clause-answer g c =
    let p = err_from_is_err_and c.from_residual-in_err-add_fixes.result c.from_residual-in_err-add_fixes.ensures.1 in
    let start = held g.F.Fares.accepted c.new-accounts.result.entries in
    let nothing = ap (held g.F.Fares.accepted) c.new-accounts.ensures.empty ∙ none_held g.F.Fares.accepted in
    rw (p.1, p.2) (λ other.
    let refused = c.in_err-add_fixes.ensures.answer other in
    (refused.0, fix_refused c.args.editions.now c.args.taps.now c.args.fixes.now start nothing (held g.F.Fares.accepted c.add_taps.new.accounts.entries) c.in_ok-add_taps.ensures.answer refused.1))

pub returns-clause-answer : goal.returns-clause-answer
returns-clause-answer g c =
    let entries = c.add_fixes.new.accounts.entries in
    let start = held g.F.Fares.accepted c.new-accounts.result.entries in
    let nothing = ap (held g.F.Fares.accepted) c.new-accounts.ensures.empty ∙ none_held g.F.Fares.accepted in
    let is = all_in_order g.F.Fares.account g.F.Fares.accepted (g.F.Fares.IsPricedBy c.args.editions.now) entries c.in_ok-add_fixes.ensures.kept c.in_order.ensures.ascending
    ∙ ap (map (λ a. (g.F.Fares.account a, g.F.Fares.accepted a))) (sym c.in_ok-in_order.ensures.all) in
    all_restored c.args.editions.now c.args.taps.now c.args.fixes.now start nothing (held g.F.Fares.accepted c.add_taps.new.accounts.entries) (held g.F.Fares.accepted entries) _ c.in_ok-add_taps.ensures.answer
    c.in_ok-add_fixes.ensures.answer is

-- the numbers of the list are those of the entries
abbrev Ascends : List ℕ → Type 0
Ascends = IsStrictlySortedBy nat_cmp

pub returns-clause-ascending : goal.returns-clause-ascending
returns-clause-ascending g c =
    let entries = c.add_fixes.new.accounts.entries in
    let is = numbers g.F.Fares.account g.F.Fares.accepted (g.F.Fares.IsPricedBy c.args.editions.now) entries c.in_ok-add_fixes.ensures.kept ∙ ap (map g.F.Fares.account) (sym c.in_ok-in_order.ensures.all) in
    subst Ascends is c.in_order.ensures.ascending

pub returns-clause-distinct : goal.returns-clause-distinct
returns-clause-distinct g c =
    let entries = c.add_fixes.new.accounts.entries in
    let is = numbers g.F.Fares.account g.F.Fares.accepted (g.F.Fares.IsPricedBy c.args.editions.now) entries c.in_ok-add_fixes.ensures.kept ∙ ap (map g.F.Fares.account) (sym c.in_ok-in_order.ensures.all) in
    IsDistinct-from_sorted nat_cmp _ (subst Ascends is c.in_order.ensures.ascending)

pub returns-clause-priced : goal.returns-clause-priced
returns-clause-priced g c =
    subst (ArePriced g.F.Fares.account (g.F.Fares.IsPricedBy c.args.editions.now)) (sym c.in_ok-in_order.ensures.all)
    (all_priced g.F.Fares.account g.F.Fares.accepted (g.F.Fares.IsPricedBy c.args.editions.now) c.add_fixes.new.accounts.entries c.in_ok-add_fixes.ensures.kept)
