use Rattle.pay_serve.proofs.LinesAsked.{asked_over}
use Rattle.pay_serve.proofs.connection.serve_lane.Goals as goal

pub returns-clause-asked : goal.returns-clause-asked
returns-clause-asked g c =
    asked_over c.args.lane c.into_lane.result c.new-desk.result c.serve_connections.new.desk c.new-desk.ensures c.into_lane.ensures.lane c.args.zone.now c.serve_connections.ensures.asked c.into_lane.ensures.none_hidden
