use Rattle.std.proofs.Common.{◌+◌, ◌≤◌, sym, subst}
use Rattle.pay_money.specs.declared.limits.TheConstants.{MOST_MONEY}
use Rattle.pay_caps.specs.Words.{CellSums, added, total}
use Rattle.pay_book.proofs.InStep.{place_within, its_sums, changed_marks, sum_within}
use Rattle.pay_book.proofs.day_sums.DaySums.add.Goals as goal

pub bounds-deref_mut-place : goal.bounds-deref_mut-place
bounds-deref_mut-place c = place_within c.args.day c.self.inside.days.items c.deref.result.now c.self.inside.sums c.deref_mut.result.now c.place_in-place.result c.args.self.now c.self.invariant c.self.view_is c.deref.ensures c.deref_mut.ensures.value c.place_in-place.ensures.place c.requires.held

pub add-requires-clause-fits : goal.add-requires-clause-fits
add-requires-clause-fits c =
    subst (λ (sums : CellSums). total sums + c.args.fare ≤ MOST_MONEY) (sym (its_sums c.args.day c.self.inside.days.items c.deref.result.now c.self.inside.sums c.deref_mut.result.now c.place_in-place.result c.args.self.now c.self.invariant c.self.view_is c.deref.ensures c.deref_mut.ensures.value c.place_in-place.ensures.place c.requires.held c.index-deref_mut-place.result c.index-deref_mut-place.is)) c.requires.fits

pub returns-clause-sums : goal.returns-clause-sums
returns-clause-sums c =
    changed_marks c.args.day c.self.inside.days.items c.deref.result.now c.self.inside.sums c.deref_mut.result.now c.place_in-place.result c.args.self.now c.self.invariant c.self.view_is c.deref.ensures c.deref_mut.ensures.value c.place_in-place.ensures.place c.requires.held (added c.args.cell c.args.fare)
    c.index-deref_mut-place.result c.add.new.self c.index-deref_mut-place.is c.add.ensures.value

pub returns-clause-in_range : goal.returns-clause-in_range
returns-clause-in_range c =
    sum_within c.args.day c.self.inside.days.items c.deref.result.now c.self.inside.sums c.deref_mut.result.now c.place_in-place.result c.args.self.now c.self.invariant c.self.view_is c.deref.ensures c.deref_mut.ensures.value c.place_in-place.ensures.place c.requires.held c.args.fare
    c.index-deref_mut-place.result c.add.new.self c.index-deref_mut-place.is c.add.ensures.sum
