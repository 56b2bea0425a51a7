use Rattle.std.proofs.Common.{subst}
use Rattle.pay_office.specs.Words.{LaneDeskParts, desk_parts}
use Rattle.pay_shard.specs.Words.{NothingIsLost}
use Rattle.pay_serve.specs.Closes.{IsClosedOver}
use Rattle.pay_serve.proofs.closing.close_through.Goals as goal

-- the desk begins with the lane
pub returns-clause-closed : goal.returns-clause-closed
returns-clause-closed g c =
    let last = c.close_over-closed.new.desk in
    let held = g.W.Write.contents c.args.writer.now in
    let written = g.W.Write.contents c.close_over-closed.new.writer in
    record {
      desk = last;
      lane = c.into_lane.ensures.lane;
      kept = subst (λ (d : LaneDeskParts). NothingIsLost (desk_parts d).transcript (desk_parts last).transcript) c.new-desk.ensures c.close_over-closed.ensures.transcript;
      closed = subst (λ (d : LaneDeskParts). IsClosedOver desk_parts (λ of put given. g.T.Till.Closes c.args.till.now c.args.day of put given c.close_over-closed.new.till) c.args.day (d, held) (last, written) c.close_over-closed.result)
          c.new-desk.ensures c.close_over-closed.ensures.closed;
    }
