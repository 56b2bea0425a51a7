use Rattle.std.proofs.Common.{◌<◌, length, get_or, ap, sym, ◌∙◌, subst}
use Rattle.std.proofs.lemmas.Option.{IfSome_then}
use Rattle.pay_shard.specs.Held.{Held}
use Rattle.pay_shard.proofs.Places.{none_so, missing, held, inside, found_inside}
use Rattle.pay_shard.proofs.accounts.Accounts.get.Goals as goal

pub returns-in_err-place-clause-none : goal.returns-in_err-place-clause-none
returns-in_err-place-clause-none g c =
    none_so c.from_residual.result (missing g.F.Fares.account g.F.Fares.accepted c.self.inside.accounts.items c.self.inside.places.entries c.args.number c.args.self.now.state
    (ap (λ (h : Held). h.state) c.self.view_is) c.self.invariant.0 c.in_err-place.ensures.value)

pub returns-clause-some : goal.returns-clause-some
returns-clause-some g c =
    IfSome_then c.get-2.result c.get-2.ensures.lookup.1 (λ it e. (held g.F.Fares.account g.F.Fares.accepted c.self.inside.accounts.items c.self.inside.places.entries c.args.number c.in_ok-place.field-0.now
    c.args.self.now.state it.now (ap (λ (h : Held). h.state) c.self.view_is) c.self.invariant.0 c.in_ok-place.ensures.value (e ∙ ap (λ l. get_or l c.in_ok-place.field-0.now it.now) c.deref.ensures.value)).1)

pub returns-clause-own : goal.returns-clause-own
returns-clause-own g c =
    IfSome_then c.get-2.result c.get-2.ensures.lookup.1 (λ it e. (held g.F.Fares.account g.F.Fares.accepted c.self.inside.accounts.items c.self.inside.places.entries c.args.number c.in_ok-place.field-0.now
    c.args.self.now.state it.now (ap (λ (h : Held). h.state) c.self.view_is) c.self.invariant.0 c.in_ok-place.ensures.value (e ∙ ap (λ l. get_or l c.in_ok-place.field-0.now it.now) c.deref.ensures.value)).0)

pub returns-clause-none : goal.returns-clause-none
returns-clause-none g c =
    let place = c.in_ok-place.field-0.now in
    let within = inside g.F.Fares.account g.F.Fares.accepted c.self.inside.accounts.items c.self.inside.places.entries c.args.number place c.self.invariant.0 c.in_ok-place.ensures.value in
    found_inside c.get-2.result place (length c.deref.result.now) _ c.get-2.ensures.lookup.0 (subst (λ l. place < length l) (sym c.deref.ensures.value) within)
