use Rattle.std.proofs.Common.{◌≡◌, Some, subst}
use Rattle.std.specs.Prelude.{IfSome}
use Rattle.pay_shard.specs.LocalParts.{LocalParts, transcript_of}
use Rattle.pay_shard.proofs.LocalDesks.{answer_of_found}
use Rattle.pay_shard.proofs.local_desk.LocalDesk.waiting.Goals as goal

pub returns-clause-answer : goal.returns-clause-answer
returns-clause-answer g c =
    subst (λ (d : LocalParts). IfSome c.answer_to.result (λ a. transcript_of d.shard c.args.ticket ≡ Some a.now)) c.self.view_is
    (answer_of_found c.args.ticket (λ a. a.now) c.self.inside.shard c.number.result c.self.inside.kept.items c.deref.result.now c.answer_to.result c.self.invariant.1.0 c.number.ensures c.deref.ensures.value c.answer_to.ensures)
