use Rattle.std.proofs.Common.{arith}
use Rattle.std.proofs.lemmas.Slice.Zip.{AllZip-long}
use Rattle.pay_serve.specs.TriedLanes.{GivesBack}
use Rattle.pay_serve.proofs.TriedOver.{served_gone}
use Rattle.pay_serve.proofs.served_lanes.ServedLanes.end.Goals as goal

pub returns-clause-served : goal.returns-clause-served
returns-clause-served g c = λ port lanes is. served_gone port lanes _ _ is c.end_all.ensures.lanes

pub returns-clause-room : goal.returns-clause-room
returns-clause-room g c =
    let back = AllZip-long GivesBack _ _ c.end_all.ensures.lanes in
    omega (arith, back, c.args.self.room, c.args.self.informed.ok.0, c.end_all.ensures.room)
