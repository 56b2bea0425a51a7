use Rattle.pay_tests.proofs.Together.{popped}
use Rattle.pay_tests.proofs.lanes.given.take_last.Goals as goal

pub returns : goal.returns
returns g c = popped c.args.list.now.items c.pop.new.self.items c.pop.result c.expect.result c.pop.ensures.items c.expect.ensures
