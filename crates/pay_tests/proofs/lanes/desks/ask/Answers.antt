use Rattle.pay_tests.proofs.lanes.desks.ask.Goals as goal

pub returns : goal.returns
returns g c = c.put_then_get.ensures.stands _ _ _ c.put-ticket.result c.put-ticket.ensures.fresh c.put-ticket.ensures.waits c.get.ensures.got
