use Rattle.std.proofs.Common.{ap, ◌∙◌, subst, ℕ, List}
use Rattle.pay_tables.specs.Words.{FareEditions}
use Rattle.pay_shard.specs.Desks.{Standing, without, IsReplyTo}
use Rattle.pay_shard.specs.LocalParts.{commands_of, transcript_of, tickets_of}
use Rattle.pay_shard.specs.ShardParts.{ShardParts}
use Rattle.pay_rules.specs.State.{State}
use Rattle.pay_shard.proofs.LocalDesks.{local_still, reply_to, reply_found, tickets_left}
use Rattle.pay_shard.proofs.local_desk.LocalDeskDesk.get.Goals as goal

pub invariant_of-self : goal.invariant_of-self
invariant_of-self g c = local_still c.number.result g.M.Memory.forgets c.self.inside.shard c.self.inside.kept.items c.take_out.new.kept.items c.self.invariant c.take_out.ensures.rest

pub returns-clause-reply : goal.returns-clause-reply
returns-clause-reply g c =
    let s = c.self.inside.shard in
    subst (λ t. IsReplyTo t (commands_of s.journal) (transcript_of s) c.take_out.result) c.number.ensures
    (reply_to s c.number.result c.take_out.result c.self.invariant.0.2 (reply_found c.number.result s c.self.inside.kept.items c.take_out.result c.self.invariant.1.0 c.take_out.ensures.reply))

pub returns-clause-got : goal.returns-clause-got
returns-clause-got g c =
    ap (stands c.self.inside.shard) (ap tickets_of c.take_out.ensures.rest ∙ tickets_left c.number.result c.self.inside.kept.items c.self.invariant.1.1)
    ∙ (λ i. stands (c.self.view_is i).shard (without (c.number.ensures i) (c.self.view_is i).waiting))
  where
    stands : ShardParts → List ℕ → Standing (FareEditions × State)
    stands s waiting = record { origin = (s.editions, s.base); shards = 1; waiting = waiting }
