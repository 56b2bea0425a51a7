use Rattle.std.proofs.Common.{ap, ◌∙◌}
use Rattle.pay_shard.specs.Held.{Held}
use Rattle.pay_shard.proofs.Counted.{counted}
use Rattle.pay_shard.proofs.accounts.Accounts.count.Goals as goal

pub returns : goal.returns
returns g c =
    c.len.ensures.len ∙ counted g.F.Fares.account g.F.Fares.accepted c.self.inside.accounts.items c.self.inside.places.entries c.args.self.now.state (ap (λ (h : Held). h.state) c.self.view_is) c.self.invariant.0 c.len.ensures.unique
