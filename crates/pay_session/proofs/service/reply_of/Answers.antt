use Rattle.std.proofs.Common.{ap}
use Rattle.pay_session.proofs.PutCommands.{put_refused, put_replied, put_late, at_once}
use Rattle.pay_till.specs.Words.{MaySometimeRefuse, MaySometimeBeLate}
use Rattle.pay_session.proofs.service.reply_of.Goals as goal

pub returns-in-Err-clause-put : goal.returns-in-Err-clause-put
unfolding MaySometimeRefuse
returns-in-Err-clause-put g c = put_refused _ _ c.args.command _ _ _ c.in-Err.fault _ (c.args.desk.now, at_once (g.D.Desk.parts c.args.desk.now).standing, c.in-Err.ensures.refused) c.refusal_of_desk.ensures c.in-Err.ensures.not_added

pub returns-in-Ok-get-clause-put : goal.returns-in-Ok-get-clause-put
returns-in-Ok-get-clause-put g c =
    put_replied _ _ c.args.command _ _ _ _ c.in-Ok.ticket c.in-Ok-get.reply _ c.in-Ok.ensures.added c.in-Ok.ensures.later c.get.ensures.none_added c.in-Ok-get.ensures.reply c.said.ensures c.put_then_get.ensures.command

pub returns-in-Err-get-clause-put : goal.returns-in-Err-get-clause-put
unfolding MaySometimeBeLate
returns-in-Err-get-clause-put g c =
    let late = c.in-Err-get.ensures.late in
    put_late _ _ c.args.command _ _ _ _ c.in-Ok.ticket c.in-Err-get.fault _ c.in-Ok.ensures.added c.get.ensures.none_added late.0 (c.put.new.self, ap (λ s. s.origin) c.in-Ok.ensures.waits, ap (λ s. s.shards) c.in-Ok.ensures.waits, late.1) c.refusal_of_desk-in-Err-get.ensures

pub get-requires : goal.get-requires
get-requires g c = c.put_then_get.ensures.waits c.in-Ok.ticket _ _ (ap (λ s. s.waiting) c.in-Ok.ensures.waits)

pub returns-in-Ok-get-clause-same_desk : goal.returns-in-Ok-get-clause-same_desk
returns-in-Ok-get-clause-same_desk g c = c.put_then_get.ensures.stands _ _ _ c.in-Ok.ticket c.in-Ok.ensures.fresh c.in-Ok.ensures.waits c.get.ensures.got

pub returns-in-Err-get-clause-same_desk : goal.returns-in-Err-get-clause-same_desk
returns-in-Err-get-clause-same_desk g c = c.put_then_get.ensures.stands _ _ _ c.in-Ok.ticket c.in-Ok.ensures.fresh c.in-Ok.ensures.waits c.get.ensures.got
