use Rattle.std.proofs.Common.{map as each, subst}
use Rattle.pay_shard.specs.Held.{ArePlaces}
use Rattle.pay_shard.proofs.accounts.Accounts.new.Goals as goal

pub invariant_of-result : goal.invariant_of-result
invariant_of-result g c = (subst (λ l. ArePlaces c.in-Ok.places.entries (each g.F.Fares.account l)) c.deref.ensures.value c.in-Ok.ensures.ok, c.requires.priced)
