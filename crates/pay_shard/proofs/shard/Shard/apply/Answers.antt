use Rattle.std.proofs.Common.{◌∷◌, [], ◌++◌, ap, ◌∙◌}
use Rattle.pay_shard.specs.ShardParts.{answers_given}
use Rattle.pay_shard.proofs.Journals.{still_replayed, answers_next}
use Rattle.pay_shard.proofs.shard.Shard.apply.Goals as goal

pub invariant_of-self : goal.invariant_of-self
invariant_of-self g c =
    let before = c.self.inside.accounts in
    still_replayed before.editions c.self.inside.base.value.state c.self.inside.journal.items before.state c.answer-reply.new.self.state c.args.entry c.asked.result c.answer-reply.result c.is_memory.result
    c.answer-reply.new.self.editions c.push.new.self.items c.self.invariant.0 c.self.invariant.1 c.asked.ensures.value c.is_memory.ensures c.answer-reply.ensures.answered c.answer-reply.ensures.editions c.push.ensures.items

pub returns-clause-answers : goal.returns-clause-answers
returns-clause-answers g c =
    let before = c.self.inside.accounts in
    answers_next before.editions c.self.inside.base.value.state c.self.inside.journal.items before.state c.answer-reply.new.self.state c.args.entry c.asked.result c.answer-reply.result c.is_memory.result
    c.self.inside.number c.len-place.result c.answer-reply.new.self.editions c.push.new.self.items c.self.invariant.0 c.asked.ensures.value c.is_memory.ensures c.answer-reply.ensures.answered c.answer-reply.ensures.editions c.push.ensures.items
    c.len-place.ensures
    ∙ ap (λ s. answers_given s ++ record { shard = c.self.inside.number; place = c.len-place.result; ticket = c.args.entry.ticket; command = c.args.entry.command; reply = c.answer-reply.result } ∷ []) c.self.view_is
