use Rattle.std.proofs.Common.{◌≤◌, ◌<◌, nat_eq, map as each, ap, sym, ◌∙◌, subst}
use Rattle.std.specs.Map.{lookup}
use Rattle.std.proofs.lemmas.List.{length-map}
use Rattle.pay_shard.specs.Held.{ArePlaces}
use Rattle.pay_shard.proofs.Places.{next_placed, take_all, number_at}
use Rattle.pay_shard.proofs.accounts.places_of.Goals as goal

pub loop-place-init : goal.loop-place-init
loop-place-init g c = λ q. ap (lookup (nat_eq q)) c.new-places.ensures.empty

pub loop-place-preserved : goal.loop-place-preserved
loop-place-preserved g c =
    let numbers = each g.F.Fares.account c.args.accounts.now in
    let here = c.loop-place.place in
    next_placed c.loop-place.places.entries c.insert.new.self.entries numbers c.number.result here c.requires
    (subst (λ n. here < n) (sym (length-map c.args.accounts.now g.F.Fares.account)) c.loop-place-test.true)
    (c.number.ensures ∙ number_at g.F.Fares.account c.args.accounts.now here c.index-accounts-place.result c.loop-place-test.true c.index-accounts-place.is) c.loop-place.invariant c.in_ok-insert.ensures.updates.0

pub returns-clause-ok : goal.returns-clause-ok
returns-clause-ok g c =
    let numbers = each g.F.Fares.account c.args.accounts.now in
    subst (ArePlaces c.loop-place.places.entries) (take_all numbers c.loop-place.place (subst (λ n. n ≤ c.loop-place.place) (sym (length-map c.args.accounts.now g.F.Fares.account)) c.loop-place-test.false)) c.loop-place.invariant
