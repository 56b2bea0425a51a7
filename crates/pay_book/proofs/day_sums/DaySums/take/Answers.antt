use Rattle.std.proofs.Common.{◌≤◌, sym, subst}
use Rattle.pay_caps.specs.Words.{CellSums, taken, sum_at}
use Rattle.pay_book.proofs.InStep.{place_within, its_sums, changed_marks}
use Rattle.pay_book.proofs.day_sums.DaySums.take.Goals as goal

pub bounds-deref_mut-place : goal.bounds-deref_mut-place
bounds-deref_mut-place c = place_within c.args.day c.self.inside.days.items c.deref.result.now c.self.inside.sums c.deref_mut.result.now c.place_in-place.result c.args.self.now c.self.invariant c.self.view_is c.deref.ensures c.deref_mut.ensures.value c.place_in-place.ensures.place c.requires.held

pub take-requires-clause-there : goal.take-requires-clause-there
take-requires-clause-there c =
    subst (λ (sums : CellSums). c.args.fare ≤ sum_at c.args.cell sums) (sym (its_sums c.args.day c.self.inside.days.items c.deref.result.now c.self.inside.sums c.deref_mut.result.now c.place_in-place.result c.args.self.now c.self.invariant c.self.view_is c.deref.ensures c.deref_mut.ensures.value c.place_in-place.ensures.place c.requires.held c.index-deref_mut-place.result c.index-deref_mut-place.is)) c.requires.there

pub returns : goal.returns
returns c =
    changed_marks c.args.day c.self.inside.days.items c.deref.result.now c.self.inside.sums c.deref_mut.result.now c.place_in-place.result c.args.self.now c.self.invariant c.self.view_is c.deref.ensures c.deref_mut.ensures.value c.place_in-place.ensures.place c.requires.held (taken c.args.cell c.args.fare)
    c.index-deref_mut-place.result c.take.new.self c.index-deref_mut-place.is c.take.ensures.value
