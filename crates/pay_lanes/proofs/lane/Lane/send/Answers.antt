use Rattle.std.proofs.Common.{◌+◌, All, refl, sym, subst, rules}
use Rattle.pay_lanes.specs.Working.{IsOwn, all_sent, AreSingle, IsSameLane}
use Rattle.pay_lanes.proofs.Owned.{own_sent, single_sent}
use Rattle.pay_lanes.proofs.Asked.{same_asked, given_more}
use Rattle.pay_lanes.proofs.lane.Lane.send.Goals as goal

pub invariant_of-self : goal.invariant_of-self
invariant_of-self g c = (
  subst (All (IsOwn c.self.inside.number (c.self.inside.next + 1))) (sym c.in-Ok.ensures.sent)
      (own_sent c.self.inside.number c.self.inside.next c.shard_of-shard.result (record { lane = c.self.inside.number; ticket = c.self.inside.next; command = c.args.command }) c.self.inside.shards.items refl c.self.invariant.0),
  subst (λ shards. AreSingle (all_sent shards)) (sym c.in-Ok.ensures.sent)
      (single_sent c.self.inside.number c.self.inside.next c.shard_of-shard.result (record { lane = c.self.inside.number; ticket = c.self.inside.next; command = c.args.command }) c.self.inside.shards.items refl (search rules) c.self.invariant.0 c.self.invariant.1),
  given_more c.self.inside.next c.self.inside.answers.got c.self.invariant.2,
  search rules,
  c.self.invariant.4,
)

pub returns-in-Ok-clause-same : goal.returns-in-Ok-clause-same
returns-in-Ok-clause-same g c =
    subst (λ v. IsSameLane v (record { number = c.self.inside.number; shards = c.send_at.new.ends.items; answers = c.self.inside.answers; tickets = c.self.inside.tickets + 1; next = c.self.inside.next + 1 })) c.self.view_is
    (same_asked (record { number = c.self.inside.number; shards = c.self.inside.shards.items; answers = c.self.inside.answers; tickets = c.self.inside.tickets; next = c.self.inside.next }) c.args.command c.shard_of-shard.result c.send_at.new.ends.items
    (search rules) (search rules) c.in-Ok.ensures.sent)
