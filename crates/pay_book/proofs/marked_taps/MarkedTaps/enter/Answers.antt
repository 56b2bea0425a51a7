use Rattle.std.proofs.Common.{false, subst}
use Rattle.pay_book.specs.MarkedTaps.{IsPreparedByRail, IsPreparedOnBus, IsPreparedFor}
use Rattle.pay_book.proofs.Changing.{room_for_rail, room_for_bus}
use Rattle.pay_book.proofs.marked_taps.MarkedTaps.enter.Goals as goal

pub enter_rail-requires-clause-few : goal.enter_rail-requires-clause-few
enter_rail-requires-clause-few c =
    let prepared : IsPreparedByRail c.args.editions.now c.args.self.now c.args.touch.now false c.in-Rail.found =
    subst (IsPreparedFor c.args.editions.now c.args.self.now c.args.touch.now false) c.in-Rail.is c.requires.prepared in
    room_for_rail c.args.touch.now c.args.self.now.rail.touches c.args.self.now.buses.touches prepared.kind c.requires.possible.few_then

pub enter_bus-requires-clause-few : goal.enter_bus-requires-clause-few
enter_bus-requires-clause-few c =
    let prepared : IsPreparedOnBus c.args.editions.now c.args.self.now c.args.touch.now false c.in-Bus.found =
    subst (IsPreparedFor c.args.editions.now c.args.self.now c.args.touch.now false) c.in-Bus.is c.requires.prepared in
    room_for_bus c.args.touch.now c.args.self.now.rail.touches c.args.self.now.buses.touches prepared.kind c.requires.possible.few_then
