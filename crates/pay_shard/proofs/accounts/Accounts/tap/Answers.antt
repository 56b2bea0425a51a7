use Rattle.std.proofs.Common.{◌<◌, ◌≤◌, ap, sym, ◌∙◌, subst}
use Rattle.pay_rules.specs.TapResults.{IsTapResult, after_tap}
use Rattle.pay_shard.specs.Held.{Held}
use Rattle.pay_shard.specs.State.{is_new}
use Rattle.pay_rules.specs.State.{accepted_of}
use Rattle.pay_shard.proofs.FirstOnes.{same_tap_left}
use Rattle.pay_shard.proofs.Places.{missing, held, is_held, inside, all_at, all_set, kept_at, places_kept}
use Rattle.pay_shard.proofs.accounts.Accounts.tap.Goals as goal

pub index_mut-requires : goal.index_mut-requires
index_mut-requires g c =
    subst (λ n. c.in-Some.place.now < n) (sym c.self.inside.accounts.ok.0)
    (inside g.F.Fares.account g.F.Fares.accepted c.self.inside.accounts.items c.self.inside.places.entries c.args.tap.account c.in-Some.place.now c.self.invariant.0 c.in-Some.ensures.value)

pub tap-requires-clause-own : goal.tap-requires-clause-own
tap-requires-clause-own g c =
    sym ((held g.F.Fares.account g.F.Fares.accepted c.self.inside.accounts.items c.self.inside.places.entries c.args.tap.account c.in-Some.place.now c.args.self.now.state c.index_mut.result.now
    (ap (λ (h : Held). h.state) c.self.view_is) c.self.invariant.0 c.in-Some.ensures.value c.index_mut.ensures.value).0)

pub tap-requires-clause-priced_by : goal.tap-requires-clause-priced_by
tap-requires-clause-priced_by g c =
    let within = inside g.F.Fares.account g.F.Fares.accepted c.self.inside.accounts.items c.self.inside.places.entries c.args.tap.account c.in-Some.place.now c.self.invariant.0 c.in-Some.ensures.value in
    subst (λ t. g.F.Fares.IsPricedBy t c.index_mut.result.now) (sym c.deref.ensures)
    ((all_at _ c.self.inside.accounts.items c.in-Some.place.now c.index_mut.result.now c.self.invariant.1 within c.index_mut.ensures.value).1)

pub invariant_of-self : goal.invariant_of-self
invariant_of-self g c =
    let items = c.self.inside.accounts.items in
    let place = c.in-Some.place.now in
    let before = c.index_mut.result.now in
    let after = c.tap.new.self in
    let own = c.tap.ensures.same_account in
    let within = inside g.F.Fares.account g.F.Fares.accepted items c.self.inside.places.entries c.args.tap.account place c.self.invariant.0 c.in-Some.ensures.value in
    let numbered = (all_at _ items place before c.self.invariant.1 within c.index_mut.ensures.value).0 in (
      places_kept g.F.Fares.account g.F.Fares.accepted items c.self.inside.places.entries place before after c.self.invariant.0 c.index_mut.ensures.value own,
      all_set _ items place after c.self.invariant.1 (subst (λ n. 1 ≤ n) (sym own) numbered, subst (λ t. g.F.Fares.IsPricedBy t after) c.deref.ensures c.tap.ensures.priced_by),
    )

pub open_by_tap-requires-clause-absent : goal.open_by_tap-requires-clause-absent
open_by_tap-requires-clause-absent g c =
    missing g.F.Fares.account g.F.Fares.accepted c.self.inside.accounts.items c.self.inside.places.entries c.args.tap.account c.args.self.now.state
    (ap (λ (h : Held). h.state) c.self.view_is) c.self.invariant.0 c.in-None.ensures.value

pub returns-in-Some-clause-answer : goal.returns-in-Some-clause-answer
returns-in-Some-clause-answer g c =
    let accepted = is_held g.F.Fares.account g.F.Fares.accepted c.self.inside.accounts.items c.self.inside.places.entries c.args.tap.account c.in-Some.place.now c.args.self.now.state c.index_mut.result.now
    (ap (λ (h : Held). h.state) c.self.view_is) c.self.invariant.0 c.in-Some.ensures.value c.index_mut.ensures.value in
    subst (λ t. IsTapResult c.tap.result t (accepted_of c.args.self.now.state c.args.tap.account) c.args.tap) (c.deref.ensures ∙ ap (λ (h : Held). h.editions) c.self.view_is)
    (subst (λ a. IsTapResult c.tap.result c.deref.result.now a c.args.tap) accepted c.tap.ensures.answer)

pub returns-in-Some-clause-after : goal.returns-in-Some-clause-after
returns-in-Some-clause-after g c =
    let before = c.index_mut.result.now in
    let state = kept_at g.F.Fares.account g.F.Fares.accepted (is_new c.tap.result) c.self.inside.accounts.items c.self.inside.places.entries c.args.tap.account c.in-Some.place.now c.args.self.now.state before c.tap.new.self
    (λ a. after_tap c.tap.result a c.args.tap) (ap (λ (h : Held). h.state) c.self.view_is) c.self.invariant.0 c.in-Some.ensures.value c.index_mut.ensures.value c.tap.ensures.same_account c.tap.ensures.after
    (λ old. same_tap_left c.tap.result (g.F.Fares.accepted before) c.args.tap old) in
    λ i. record { editions = (c.self.view_is i).editions; state = state i }
