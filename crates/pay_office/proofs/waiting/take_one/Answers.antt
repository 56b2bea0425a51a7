use Rattle.pay_office.proofs.Waited.{waiting_taken, tickets_stay, taken_one}
use Rattle.std.proofs.Common.{ap, ◌∙◌}
use Rattle.pay_office.specs.Waits.{tickets_of}
use Rattle.pay_office.proofs.waiting.take_one.Goals as goal

pub returns-clause-lane : goal.returns-clause-lane
returns-clause-lane g c = taken_one c.args.lane.now c.take.new.self c.in-Some.answer c.in-Some.ensures.taken

pub returns-clause-waiting : goal.returns-clause-waiting
returns-clause-waiting g c = waiting_taken c.args.lane.now c.take.new.self c.in-Some.answer c.args.waiting.now.items c.keep.new.waiting.items c.requires c.in-Some.ensures.taken c.keep.ensures

pub returns-clause-tickets : goal.returns-clause-tickets
returns-clause-tickets g c = ap tickets_of c.keep.ensures ∙ tickets_stay c.in-Some.answer c.args.waiting.now.items
