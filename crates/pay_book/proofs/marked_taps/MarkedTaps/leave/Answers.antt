use Rattle.std.proofs.Common.{true, not, ap, subst}
use Rattle.pay_taps.specs.Words.{place_of}
use Rattle.pay_book.specs.MarkedTaps.{IsPreparedByRail, IsPreparedFor}
use Rattle.pay_book.proofs.Between.{disturbed_out}
use Rattle.pay_book.proofs.marked_taps.MarkedTaps.leave.Goals as goal

pub leave_rail-requires-clause-disturbed : goal.leave_rail-requires-clause-disturbed
leave_rail-requires-clause-disturbed c =
    let editions = c.args.editions.now in
    let touch = c.args.touch.now in
    let rail = c.args.self.now.rail.touches in
    let found = c.in-Rail.found in
    let prepared : IsPreparedByRail editions c.args.self.now touch true found = subst (IsPreparedFor editions c.args.self.now touch true) c.in-Rail.is c.requires.prepared in
    disturbed_out editions rail touch (place_of touch rail) found.fewer.items found.more.items (c.requires.possible.rail (ap not prepared.kind)) prepared.disturbed
