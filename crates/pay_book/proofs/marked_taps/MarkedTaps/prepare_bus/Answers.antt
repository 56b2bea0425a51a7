use Rattle.pay_book.proofs.DisturbedBuses.{few_read}
use Rattle.pay_book.proofs.marked_taps.MarkedTaps.prepare_bus.Goals as goal

pub returns-clause-steps : goal.returns-clause-steps
returns-clause-steps c =
    few_read c.places.ensures.put_in c.places.ensures.place_kept c.places.ensures.again c.args.editions.now.own.rules.hopper c.args.self.now.buses.touches c.reserve_on_buses.new.self.buses.touches
    c.args.touch.now c.args.is_there c.in_ok-found.found.fewer.items c.in_ok-found.found.more.items c.args.steps.now c.disturbed.new.steps
    c.in_ok-reserve_on_buses.ensures.same.buses c.len.ensures.timed c.requires.there (rw c.own.ensures at c.in_ok-found.ensures.disturbed) c.in_ok-found.ensures.steps
