use Rattle.std.proofs.Common.{◌∙◌, ap}
use Rattle.pay_rules.specs.Accepted.{touches, with_tap}
use Rattle.pay_book.specs.Books.{BookParts}
use Rattle.pay_book.proofs.Accepting.{change_of_tap, read_for}
use Rattle.pay_book.proofs.book.Book.add_tap.Goals as goal

pub prepare-requires-clause-possible : goal.prepare-requires-clause-possible
prepare-requires-clause-possible c =
    let old = c.args.self.now.accepted in
    let is = change_of_tap c.tap_is_change.ensures old c.args.tap c.taps.result.now c.fixes.result.now c.fixes-2.result.now c.change_by_tap-change.result
    (c.taps.ensures ∙ ap (λ (b : BookParts). b.accepted.taps) c.self.view_is) (c.fixes.ensures ∙ ap (λ (b : BookParts). b.accepted.fixes) c.self.view_is)
    (c.fixes-2.ensures ∙ ap (λ (b : BookParts). b.accepted.fixes) c.self.view_is) c.len.ensures.numbered c.len-2.ensures.numbered c.requires.place.is_new c.change_by_tap-change.ensures in
    c.changes.ensures.can_be c.change_by_tap-change.result (touches old) (touches (with_tap old c.args.tap)) c.self.inside.held is
    (record { rail = ap (λ (b : BookParts). b.rail) c.self.view_is ∙ c.requires.held.rail; buses = ap (λ (b : BookParts). b.buses) c.self.view_is ∙ c.requires.held.buses })

pub apply-requires-clause-possible : goal.apply-requires-clause-possible
apply-requires-clause-possible c =
    let old = c.args.self.now.accepted in
    let same = c.in_ok-repair.ensures.same in
    let is = change_of_tap c.tap_is_change.ensures old c.args.tap c.taps.result.now c.fixes.result.now c.fixes-2.result.now c.change_by_tap-change.result
    (c.taps.ensures ∙ ap (λ (b : BookParts). b.accepted.taps) c.self.view_is) (c.fixes.ensures ∙ ap (λ (b : BookParts). b.accepted.fixes) c.self.view_is)
    (c.fixes-2.ensures ∙ ap (λ (b : BookParts). b.accepted.fixes) c.self.view_is) c.len.ensures.numbered c.len-2.ensures.numbered c.requires.place.is_new c.change_by_tap-change.ensures in
    c.changes.ensures.can_be c.change_by_tap-change.result (touches old) (touches (with_tap old c.args.tap)) c.prepare.new.self is
    (record { rail = same.rail ∙ ap (λ (b : BookParts). b.rail) c.self.view_is ∙ c.requires.held.rail; buses = same.buses ∙ ap (λ (b : BookParts). b.buses) c.self.view_is ∙ c.requires.held.buses })

pub returns-clause-steps : goal.returns-clause-steps
returns-clause-steps c =
    let old = c.args.self.now.accepted in
    let is = change_of_tap c.tap_is_change.ensures old c.args.tap c.taps.result.now c.fixes.result.now c.fixes-2.result.now c.change_by_tap-change.result
    (c.taps.ensures ∙ ap (λ (b : BookParts). b.accepted.taps) c.self.view_is) (c.fixes.ensures ∙ ap (λ (b : BookParts). b.accepted.fixes) c.self.view_is)
    (c.fixes-2.ensures ∙ ap (λ (b : BookParts). b.accepted.fixes) c.self.view_is) c.len.ensures.numbered c.len-2.ensures.numbered c.requires.place.is_new c.change_by_tap-change.ensures in
    read_for c.changes.ensures.disturbs c.args.editions.now c.change_by_tap-change.result c.self.inside.held old c.accept_tap.new.self.1 (with_tap old c.args.tap) c.args.self.now.steps c.self.inside.steps c.prepare.new.steps c.apply.new.steps is
    (record { rail = ap (λ (b : BookParts). b.rail) c.self.view_is ∙ c.requires.held.rail; buses = ap (λ (b : BookParts). b.buses) c.self.view_is ∙ c.requires.held.buses })
    (c.in_ok-accept_tap.ensures.accepted ∙ ap (λ (b : BookParts). with_tap b.accepted c.args.tap) c.self.view_is) (ap (λ (b : BookParts). b.steps) c.self.view_is) c.in_ok-repair.ensures.steps c.apply.ensures.steps
