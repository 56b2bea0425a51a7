use Rattle.std.proofs.Common.{refl, sym, subst, true, false, IfErr}
use Rattle.sqlite.specs.Held.{Held}
use Rattle.pay_follow.specs.Following.{replica, HasStopped}
use Rattle.pay_follow.specs.Resuming.{Ends, HasEnded, IsUnderway, Moment, moment}
use Rattle.pay_follow.proofs.Resumed.{opened, ends, lost_before, lost_after, unopened}
use Rattle.pay_follow.proofs.resuming.follow_once.Goals as goal
use Rattle.pay_follow.proofs.resuming.follow_once.Goals.{in_default-2, in_default-3, in_default}

pub returns-in-Err-2-clause-ended : goal.returns-in-Err-2-clause-ended
returns-in-Err-2-clause-ended g c = λ began u.
    let now = moment c.args.desk.now.shard c.args.ledger.now c.args.progress.now in
    subst (λ s. HasEnded g.S.Store (g.O.Opens.HasLine (g.O.Opens.source c.args.opens.now)) c.args.zone.now began (now.shard, now.ledger) s) (sym c.unopened.ensures)
    (unopened g.S.Store (g.O.Opens.HasLine (g.O.Opens.source c.args.opens.now)) c.args.zone.now began now c.in-Err.fault c.args.progress.now.owed refl u)

pub returns-in-Read-clause-underway : goal.returns-in-Read-clause-underway
returns-in-Read-clause-underway g c = λ began u.
    let P = g.P.Partition in
    let O = g.O.Opens in
    let H = O.HasLine (O.source c.args.opens.now) in
    let H1 = P.HasLine (P.origin c.in-Ok.partition) in
    let now = moment c.args.desk.now.shard c.args.ledger.now c.args.progress.now in
    let before = replica c.args.desk.now.shard c.args.ledger.now (P.parts c.in-Ok.partition) in
    let after = replica c.follow-stop.new.desk.shard c.follow-stop.new.ledger (P.parts c.follow-stop.new.partition) in
    let it = c.in-Ok.ensures in
    let opening = opened g.S.Store H c.args.zone.now began now (P.parts c.in-Ok.partition) it.paid it.owed u c.args.progress.now.owed refl in
    let stopped = subst (λ s. HasStopped g.S.Store H1 c.args.zone.now before after s) c.in-Read.is c.follow-stop.ensures.followed in
    subst (λ k. IsUnderway g.S.Store H c.args.zone.now began (record { shard = after.shard; ledger = after.ledger; last = k; owed = false; reply = c.follow-stop.new.answered.reply.items })) (sym c.last-progress.ensures)
    (lost_before g.S.Store H1 H c.args.zone.now it.lines began before after c.in-Read.fault c.follow-stop.new.answered.reply.items opening stopped)

pub returns-in-Unpublished-clause-underway : goal.returns-in-Unpublished-clause-underway
returns-in-Unpublished-clause-underway g c = λ began u.
    let P = g.P.Partition in
    let O = g.O.Opens in
    let H = O.HasLine (O.source c.args.opens.now) in
    let H1 = P.HasLine (P.origin c.in-Ok.partition) in
    let now = moment c.args.desk.now.shard c.args.ledger.now c.args.progress.now in
    let before = replica c.args.desk.now.shard c.args.ledger.now (P.parts c.in-Ok.partition) in
    let after = replica c.follow-stop.new.desk.shard c.follow-stop.new.ledger (P.parts c.follow-stop.new.partition) in
    let it = c.in-Ok.ensures in
    let opening = opened g.S.Store H c.args.zone.now began now (P.parts c.in-Ok.partition) it.paid it.owed u c.args.progress.now.owed refl in
    let stopped = subst (λ s. HasStopped g.S.Store H1 c.args.zone.now before after s) c.in-Unpublished.is c.follow-stop.ensures.followed in
    subst (λ k. IsUnderway g.S.Store H c.args.zone.now began (record { shard = after.shard; ledger = after.ledger; last = k; owed = true; reply = c.follow-stop.new.answered.reply.items })) (sym c.last-progress.ensures)
    (lost_after g.S.Store H1 H c.args.zone.now it.lines began before after c.in-Unpublished.fault c.follow-stop.new.answered.reply.items c.follow-stop.ensures.clean opening stopped c.in-Unpublished.ensures.owed)

pub returns-clause-ended : goal.returns-clause-ended
returns-clause-ended g c =
    let P = g.P.Partition in
    let O = g.O.Opens in
    let H = O.HasLine (O.source c.args.opens.now) in
    let H1 = P.HasLine (P.origin c.in-Ok.partition) in
    let now = moment c.args.desk.now.shard c.args.ledger.now c.args.progress.now in
    let before = replica c.args.desk.now.shard c.args.ledger.now (P.parts c.in-Ok.partition) in
    let after = replica c.follow-stop.new.desk.shard c.follow-stop.new.ledger (P.parts c.follow-stop.new.partition) in
    let it = c.in-Ok.ensures in
    let last : Moment (Held _) = record { shard = after.shard; ledger = after.ledger; last = after.partition.last; owed = c.args.progress.now.owed; reply = c.follow-stop.new.answered.reply.items } in
    let all : Ends g.S.Store H c.args.zone.now now last c.follow-stop.result =
    λ began u.
    ends g.S.Store H1 H c.args.zone.now it.lines began before after c.follow-stop.result
    (opened g.S.Store H c.args.zone.now began now (P.parts c.in-Ok.partition) it.paid it.owed u c.args.progress.now.owed refl) c.follow-stop.ensures.followed in
    elim c.match-stop.branch [
      | in_default-2 w ↦ subst (λ r. IfErr r (λ stop. Ends g.S.Store H c.args.zone.now now last stop)) (sym w.result-is) (subst (λ s. Ends g.S.Store H c.args.zone.now now last s) w.in-Read.is all)
      | in_default-3 w ↦ subst (λ r. IfErr r (λ stop. Ends g.S.Store H c.args.zone.now now last stop)) (sym w.result-is) (subst (λ s. Ends g.S.Store H c.args.zone.now now last s) w.in-Unpublished.is all)
      | in_default w ↦ subst (λ r. IfErr r (λ stop. Ends g.S.Store H c.args.zone.now now last stop)) (sym w.result-is) all
    ]
