use Rattle.pay_tests.proofs.Together.{pushed}
use Rattle.pay_tests.proofs.lanes.given.add_last.Goals as goal

pub returns : goal.returns
returns g c = pushed c.push.result c.expect.result c.args.list.now.items c.push.new.self.items c.args.one c.expect.ensures c.push.ensures.items
