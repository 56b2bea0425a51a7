use Rattle.std.proofs.Common.{List, length, ap, sym, ◌∙◌, subst}
use Rattle.pay_links.specs.Starts.{starts, journeys_by_marks}
use Rattle.pay_rules.specs.declared.tap.Touch.{Touch}
use Rattle.pay_rules.specs.Numbers.{IsNumbered}
use Rattle.pay_rules.specs.declared.limits.TheConstants.{MOST_TAPS, MOST_FIXES}
use Rattle.pay_rules.specs.Taps.{number as tap_number}
use Rattle.pay_rules.specs.Fixes.{number as fix_number}
use Rattle.pay_book.specs.Books.{BookParts}
use Rattle.pay_book.proofs.LastPaid.{marks_each}
use Rattle.pay_book.proofs.Stored.{all_as, few_as}
use Rattle.pay_book.proofs.book.Book.journeys.Goals as goal

pub all_journeys-requires : goal.all_journeys-requires
all_journeys-requires c =
    ap length (c.deref.ensures ∙ ap (λ (b : BookParts). b.starts) c.self.view_is ∙ c.requires.held.starts) ∙ c.starts_are_local.ensures.as_many c.args.editions.now c.args.self.now.rail
    ∙ sym (ap (λ (b : BookParts). length b.rail) c.self.view_is)

pub add_all-requires : goal.add_all-requires
add_all-requires c =
    ap length (c.deref-2.ensures ∙ ap (λ (b : BookParts). b.pays) c.self.view_is ∙ c.requires.held.pays) ∙ marks_each c.args.editions.now.own.rules.hopper _ c.args.self.now.buses
    ∙ sym (ap (λ (b : BookParts). length b.buses) c.self.view_is)

pub returns-clause-all : goal.returns-clause-all
returns-clause-all c =
    all_as c.boarded_by_all.ensures c.args.editions.now c.args.self.now c.requires.held c.self.inside.held.rail.touches c.self.inside.held.buses.touches c.deref-2.result.now c.in_ok-list.list.items c.add_all.new.list.items
    (ap (λ (b : BookParts). b.rail) c.self.view_is) (ap (λ (b : BookParts). b.buses) c.self.view_is) (c.deref-2.ensures ∙ ap (λ (b : BookParts). b.pays) c.self.view_is)
    (c.in_ok-list.ensures
    ∙ (λ i. journeys_by_marks ((c.deref.ensures ∙ ap (λ (b : BookParts). b.starts) c.self.view_is ∙ c.requires.held.starts ∙ ap (λ (taps : List Touch). starts c.args.editions.now taps) (sym (ap (λ (b : BookParts). b.rail) c.self.view_is))) i) c.self.inside.held.rail.touches)
    ∙ c.kept_as_marks.ensures c.args.editions.now c.self.inside.held.rail.touches) c.in_ok-add_all.ensures

pub returns-clause-few : goal.returns-clause-few
returns-clause-few c =
    few_as c.each_tap.ensures c.own_numbers.ensures.few c.args.editions.now c.args.self.now.accepted c.add_all.new.list.items
    (subst (IsNumbered tap_number MOST_TAPS) (c.taps.ensures ∙ ap (λ (b : BookParts). b.accepted.taps) c.self.view_is) c.len.ensures.numbered)
    (subst (IsNumbered fix_number MOST_FIXES) (c.fixes.ensures ∙ ap (λ (b : BookParts). b.accepted.fixes) c.self.view_is) c.len-2.ensures.numbered)
    (returns-clause-all c)
