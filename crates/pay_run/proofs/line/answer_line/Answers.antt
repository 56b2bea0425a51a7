use Rattle.std.proofs.Common.{◌≡◌, ap, sym, ◌∙◌, subst}
use Rattle.sqlite.specs.Held.{state}
use Rattle.sqlite.specs.State.{HasCleanDisk}
use Rattle.pay_session.specs.Words.{IsAnsweredIn}
use Rattle.pay_session.specs.declared.request.Request.{Request}
use Rattle.pay_shard.specs.Words.{ShardParts, AreInPlace, desk_parts}
use Rattle.pay_run.specs.OneLine.{AnswersLine}
use Rattle.pay_run.proofs.OneLine.{Closes, answered, same_editions, was_sound_before}
use Rattle.pay_run.proofs.WholeRuns.{of_lent}
use Rattle.pay_run.proofs.line.answer_line.Goals as goal

pub returns-clause-answered : goal.returns-clause-answered
returns-clause-answered g c =
    let lent = c.new-till.ensures in
    let reply = c.answer-reply in
    let was = c.args.desk.now in
    let now = reply.new.desk in
    let number = ap (λ (s : ShardParts). s.number) (sym c.shard.ensures.value) ∙ c.shard.ensures.number ∙ sym c.shard-2.ensures.number ∙ ap (λ (s : ShardParts). s.number) c.shard-2.ensures.value in
    let placed = subst (λ (s : ShardParts). AreInPlace 0 s.journal) c.shard-2.ensures.value c.shard-2.ensures.in_place in
    of_lent (λ till. till.ledger.now) (λ old last. AnswersLine g.S.Store c.args.zone.now (was.shard, old) (now.shard, last) c.args.line.now reply.result) _ _ c.new-till.result reply.new.till
    (sym lent.ledger) (c.ledger-1.given.1 (sym lent.same_ledger ∙ sym reply.ensures.same_till))
    (answered (λ till. state g.S.Store till.ledger.now) c.one_shard.ensures.gathered c.args.zone.now was now c.new-till.result reply.new.till _ reply.result
    (subst (λ (r : Request). IsAnsweredIn desk_parts (Closes (λ till. state g.S.Store till.ledger.now)) c.args.zone.now r (was, c.new-till.result) (now, reply.new.till) reply.result) c.request_of.ensures.value reply.ensures.answered)
    number placed)

pub returns-clause-clean : goal.returns-clause-clean
returns-clause-clean g c =
    let lent = c.new-till.ensures in
    let reply = c.answer-reply in
    of_lent (λ till. till.ledger.now) (λ old last. HasCleanDisk (state g.S.Store last) → HasCleanDisk (state g.S.Store old)) _ _ c.new-till.result reply.new.till
    (sym lent.ledger) (c.ledger-1.given.1 (sym lent.same_ledger ∙ sym reply.ensures.same_till))
    (was_sound_before (λ till. state g.S.Store till.ledger.now) c.one_shard.ensures.gathered c.args.zone.now c.args.desk.now reply.new.desk c.new-till.result reply.new.till c.request_of.result reply.result reply.ensures.answered)

pub returns-clause-editions : goal.returns-clause-editions
returns-clause-editions g c =
    let reply = c.answer-reply in
    same_editions (λ till. state g.S.Store till.ledger.now) c.one_shard.ensures.gathered c.args.zone.now c.args.desk.now reply.new.desk c.new-till.result reply.new.till c.request_of.result reply.result reply.ensures.answered
