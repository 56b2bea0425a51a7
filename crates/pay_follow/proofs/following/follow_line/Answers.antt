use Rattle.std.proofs.Common.{ℕ, List, ◌++◌, refl, ap, ap₂, ◌∙◌, subst}
use Rattle.pay_run.specs.Words.{AnswersLine}
use Rattle.pay_wire.specs.Words.{spelling_of_reply}
use Rattle.pay_follow.specs.Partitions.{publish, read_on}
use Rattle.pay_follow.specs.Following.{replica, Follows}
use Rattle.pay_follow.proofs.FollowedLines.{follows_one}
use Rattle.pay_follow.proofs.following.follow_line.Goals as goal

pub returns-in-Ok-clause-follows : goal.returns-in-Ok-clause-follows
returns-in-Ok-clause-follows g c =
    let P = g.P.Partition in
    let args = c.args in
    follows_one g.S.Store (P.HasLine (P.origin args.partition.now)) args.zone.now
    (replica args.desk.now.shard args.ledger.now (P.parts args.partition.now)) (replica c.answer_line-reply.new.desk.shard c.answer_line-reply.new.ledger (P.parts c.publish_reply.new.partition))
    c.read.new.line.items c.send.new.writer.items c.answer_line-reply.result
    c.in_default.ensures.line
    (subst (λ (l : List ℕ). AnswersLine g.S.Store args.zone.now (args.desk.now.shard, args.ledger.now) (c.answer_line-reply.new.desk.shard, c.answer_line-reply.new.ledger) l c.answer_line-reply.result) (c.deref.ensures.value ∙ ap (λ v. v.items) c.swap.ensures.x_after) c.answer_line-reply.ensures.answered)
    c.in_default-failure.ensures.none
    (c.in_default-send.ensures.ok ∙ ap (λ l. l ++ spelling_of_reply c.answer_line-reply.result) c.clear.ensures.items)
    (c.in-Ok.ensures.published ∙ ap₂ publish c.in_default.ensures.next c.deref-2.ensures.value)

pub returns-clause-owed : goal.returns-clause-owed
returns-clause-owed g c =
    let P = g.P.Partition in
    let args = c.args in
    let followed : Follows g.S.Store (P.HasLine (P.origin args.partition.now)) args.zone.now (replica args.desk.now.shard args.ledger.now (P.parts args.partition.now))
    (replica c.answer_line-reply.new.desk.shard c.answer_line-reply.new.ledger (publish (read_on (P.parts args.partition.now)) c.send.new.writer.items)) =
    follows_one g.S.Store (P.HasLine (P.origin args.partition.now)) args.zone.now
    (replica args.desk.now.shard args.ledger.now (P.parts args.partition.now)) (replica c.answer_line-reply.new.desk.shard c.answer_line-reply.new.ledger (publish (read_on (P.parts args.partition.now)) c.send.new.writer.items))
    c.read.new.line.items c.send.new.writer.items c.answer_line-reply.result
    c.in_default.ensures.line
    (subst (λ (l : List ℕ). AnswersLine g.S.Store args.zone.now (args.desk.now.shard, args.ledger.now) (c.answer_line-reply.new.desk.shard, c.answer_line-reply.new.ledger) l c.answer_line-reply.result) (c.deref.ensures.value ∙ ap (λ v. v.items) c.swap.ensures.x_after) c.answer_line-reply.ensures.answered)
    c.in_default-failure.ensures.none
    (c.in_default-send.ensures.ok ∙ ap (λ l. l ++ spelling_of_reply c.answer_line-reply.result) c.clear.ensures.items)
    refl in
    followed
